use Rattle.std.proofs.Common.{◌≡◌, ◌++◌, string_bytes}
use Rattle.std.specs.Iterator.Adapters.{enumerate_count, enumerate_source, zip_first, zip_second}
use Rattle.std.specs.Slice.Iter.{iter_rest}
use Rattle.report.specs.Stores.{name_of}
use Rattle.machine.specs.Steps.{changes}
use Rattle.machine.proofs.print.write_changes.Given as goal

-- what was written, with what is left to compare
abbrev pub invariant-loop-at : goal.invariant-loop-at
invariant-loop-at l =
    let pairs = enumerate_source l.at-iterator in
    string_bytes l.out ++ changes (name_of l.store) (enumerate_count l.at-iterator) (iter_rest (zip_first pairs)) (iter_rest (zip_second pairs)) ≡ string_bytes l.initial.out ++ changes (name_of l.store) 0 l.before l.after
