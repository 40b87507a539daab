use Rattle.std.proofs.Common.{◌+◌, length, ap, sym, ◌∙◌, arith}
use Rattle.std.proofs.lemmas.Bool.{leb-true}
use Rattle.std.proofs.lemmas.List.{with_items_is}
use Rattle.vring.specs.Words.{set_bytes}
use Rattle.vring.proofs.Bytes.{set_length}
use Rattle.vring.proofs.Stores.{put_middle}
use Rattle.machine.specs.Bench.{bench_of}
use Rattle.machine.proofs.Steps.{wrote}
use Rattle.machine.proofs.machine.Machine.write_bytes.Goals as goal

pub returns : goal.returns
returns c =
    let v = c.args.self.now.memory in let xs = c.args.bytes.now in let a = c.args.at in let m = c.deref_mut.result.now in
    let i = leb-true (a + length xs) c.len.result (sym c.lies_in.ensures ∙ c.if-not-lies_in.false) in
    let e = put_middle m c.copy_from_slice.new.self xs a _ c.copy_from_slice.ensures.after (omega (arith, i)) in
    let l = ap length e ∙ (set_length m a xs (omega (arith, i)) ∙ c.deref_mut.ensures.len) in
    wrote (bench_of c.args.self.now) a xs _ (omega (arith, i)) (with_items_is v _ l ∙ (e ∙ ap (λ y. set_bytes y a xs) c.deref_mut.ensures.value))
