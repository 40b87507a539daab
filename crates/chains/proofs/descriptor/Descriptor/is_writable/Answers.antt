use Rattle.std.proofs.Common.{◌≡◌, ◌*◌, ◌/◌, ◌%◌, arith}
use Rattle.std.specs.Int.Bits.{bit_and}
use Rattle.std.proofs.lemmas.Nat.Bits.{and_pow}
use Rattle.chains.proofs.descriptor.Descriptor.is_writable.Goals as goal

pub returns : goal.returns
returns c =
    let f = c.args.self.now.flags in
    let e : bit_and f 2 ≡ f / 2 % 2 * 2 = and_pow f 1 in grind arith
