use Rattle.std.proofs.Common.{◌≡◌, drop}
use Rattle.script.proofs.Values.{after}
use Rattle.script.proofs.number.number.Given as goal

abbrev pub invariant-loop-b : goal.invariant-loop-b
invariant-loop-b l = after l.n (drop l.b-index l.word) ≡ after 0 l.word
