use Rattle.std.proofs.Common.{◌≡◌, ◌++◌, vec_items}
use Rattle.std.specs.Option.{option_map}
use Rattle.script.specs.Format.{row}
use Rattle.script.proofs.line.row.Given as goal

abbrev pub invariant-loop-word : goal.invariant-loop-word
invariant-loop-word l = option_map (λ ys. vec_items l.bytes ++ ys) (row l.word-iterator) ≡ row l.fn.words
