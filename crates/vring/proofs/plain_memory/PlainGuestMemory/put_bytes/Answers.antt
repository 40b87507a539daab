-- The middle part that was lent on holds the bytes, which is what the row of single writes leaves.
use Rattle.std.proofs.Common.{length, sym, ap, ◌∙◌, arith}
use denote.Ref.{at_last}
use Rattle.vring.specs.Programs.{put_bytes}
use Rattle.vring.specs.declared.plain.Plain.{Plain}
use Rattle.vring.proofs.Stores.{put_part, put_long, lent_leaves}
use Rattle.vring.proofs.plain_memory.PlainGuestMemory.put_bytes.Goals as goal

pub returns : goal.returns
returns c =
    let s = c.args.self.now in
    let e = put_part s.bytes.now c.copy_from_slice.new.self c.args.from.now c.args.at _ c.copy_from_slice.ensures.after (omega arith) c.requires in
    record {
      then = ap {B = Plain} (λ m. record { bytes = at_last s.bytes m }) e ∙ sym (lent_leaves (put_bytes c.args.at c.args.from.now) s);
      size = ap length e ∙ put_long _ _ _ c.requires;
    }
