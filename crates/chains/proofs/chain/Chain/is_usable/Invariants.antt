use Rattle.std.proofs.Common.{◌≡◌, false, drop}
use Rattle.chains.specs.Chains.{listed}
use Rattle.chains.specs.Usable.{usable}
use Rattle.chains.proofs.chain.Chain.is_usable.Given as goal

-- what is left of the descriptors gives the answer
abbrev pub invariant-loop-d : goal.invariant-loop-d
invariant-loop-d l = usable l.regions l.n l.written (drop l.d-index l.d-items) ≡ usable l.regions l.n false (listed l.self)
