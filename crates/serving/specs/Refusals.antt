-- The number of each refusal.
use Rattle.std.specs.Prelude.{ℕ, Result, Ok, Err}
use Rattle.serving.specs.declared.done.Done.{Done}
use Rattle.serving.specs.declared.done.Done.TheVariants.{Refused}
use Rattle.serving.specs.declared.refusal.Refusal.{Refusal}
use Rattle.serving.specs.declared.refusal.Refusal.TheVariants.{Ring, State, Contents, Times}

abbrev pub refusal_number : Refusal → ℕ
refusal_number Ring = 1
refusal_number State = 2
refusal_number Contents = 3
refusal_number Times = 4

-- what an entry answers for what was done or refused
abbrev pub said : Result Done Refusal → Done
said (Ok d) = d
said (Err f) = Refused (refusal_number f)
