use Rattle.std.proofs.Common.{None, string_bytes, refl, append-nil, arith}
use Rattle.std.proofs.lemmas.Slice.Zip.{either_empty_from_Zip}
use Rattle.std.proofs.lemmas.Grind.{common_steps}
use Rattle.std.specs.Iterator.Adapters.{enumerate_count, enumerate_source}
use Rattle.report.specs.Stores.{name_of}
use Rattle.machine.proofs.Prints.{changes_end}
use Rattle.machine.proofs.print.write_changes.Goals as goal

pub returns : goal.returns
returns c =
    let out = string_bytes c.loop-at.out in
    let left = either_empty_from_Zip (enumerate_source c.loop-at.at-iterator) (enumerate_source c.next.new.self) None refl c.in-None.ensures.steps.0 in
    grind (arith, common_steps, changes_end (name_of c.args.store) (enumerate_count c.loop-at.at-iterator) _ _ left, append-nil out)
