-- What the code's look answers.
use Rattle.std.specs.Prelude.{◌≡◌, Bool, true, false, Result, Ok, IsOk, IsErr}
use Rattle.chains.specs.declared.breach.Breach.{Breach}
use Rattle.chains.specs.Chains.{listed}
use Rattle.model.specs.Serving.{Look, nothing, halt, job}
use Rattle.serving.specs.declared.job.Job.{Job}

-- the answer, and for a chain to be served the job that it was put into
abbrev pub Sees : Look → Result Bool Breach → Job → Type 0
Sees nothing a j = a ≡ Ok false
Sees halt a j = IsErr a
Sees (job h ds q) a j = (a ≡ Ok true) × (j.head ≡ h) × (listed j.chain ≡ ds) × (j.request.items ≡ q)

-- the same of a chain that waits
abbrev pub Takes : Look → Result (Unit {0}) Breach → Job → Type 0
Takes nothing a j = ⊥
Takes halt a j = IsErr a
Takes (job h ds q) a j = IsOk a × (j.head ≡ h) × (listed j.chain ≡ ds) × (j.request.items ≡ q)
