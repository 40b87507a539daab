-- Many commands, and a whole script.
use Rattle.std.specs.Prelude.{◌≡◌, ℕ, List, [], ◌∷◌, ◌++◌, Some, None, Ok, Err, Option, Result}
use Rattle.script.specs.Format.{Cmd, read}
use Rattle.script.specs.declared.fault.Fault.{Fault}
use Rattle.script.specs.declared.fault.Fault.TheVariants.{Line as AtLine, NoMemory as Unread}
use Rattle.report.specs.Lines.{refused}
use Rattle.machine.specs.Refusals.{number_of, place_of}
use Rattle.machine.specs.Bench.{Bench}
use Rattle.machine.specs.Steps.{Step, goes, refuses, step}
use Rattle.machine.specs.declared.refusal.Refusal.{Refusal}
use Rattle.machine.specs.declared.refusal.Refusal.TheVariants.{Line}
use Rattle.machine.specs.declared.halt.Halt.{Halt}
use Rattle.machine.specs.declared.halt.Halt.TheVariants.{Refused, NoMemory}

-- how a run ends: with which bench, what was printed, and what was refused if anything was
pub record Ran : Type 0 where
  pub bench : Bench
  pub output : List ℕ
  pub stopped : Option Refusal

abbrev pub refusal_line : Refusal → List ℕ
refusal_line f = refused (number_of f) (place_of f)

-- output before that of a run
abbrev pub behind : List ℕ → Ran → Ran
behind out x = record { bench = x.bench; output = out ++ x.output; stopped = x.stopped }

-- one step, and then the others; a refusal ends the run and is its last line
abbrev pub after_step : Bench → Step → (Bench → Ran) → Ran
after_step b (goes b₁ out) others = behind out (others b₁)
after_step b (refuses f) others = record { bench = b; output = refusal_line f; stopped = Some f }

unfoldable pub run : List Cmd → Bench → Ran
run [] b = record { bench = b; output = []; stopped = None }
run (c ∷ cs) b = after_step b (step c b) (λ b₁. run cs b₁)

-- what a script does: a text that cannot be read is refused by its first line that cannot, and nothing runs
abbrev pub play_read : Result (List Cmd) ℕ → Bench → Ran
play_read (Ok cs) b = run cs b
play_read (Err n) b = record { bench = b; output = refusal_line (Line n); stopped = Some (Line n) }

abbrev pub play : (text : List ℕ) → Bench → Ran
play text b = play_read (read text) b

-- ## What the code answers
-- a step was done: bench and output as they should be
abbrev pub Went : Step → (after : Bench) → (out out₁ : List ℕ) → Type 0
Went (goes b₁ o) c out out₁ = (c ≡ b₁) × (out₁ ≡ out ++ o)
Went (refuses f) c out out₁ = ⊥

-- a step was refused, and changed nothing
abbrev pub RefusedBy : Step → Refusal → (before after : Bench) → (out out₁ : List ℕ) → Type 0
RefusedBy (goes b₁ o) g b c out out₁ = ⊥
RefusedBy (refuses f) g b c out out₁ = (g ≡ f) × (c ≡ b) × (out₁ ≡ out)

-- what a step answers; without memory nothing is said
abbrev pub Steps : (result : Result (Unit {0}) Halt) → Step → (before after : Bench) → (out out₁ : List ℕ) → Type 0
Steps (Ok _) s b c out out₁ = Went s c out out₁
Steps (Err (Refused f)) s b c out out₁ = RefusedBy s f b c out out₁
Steps (Err NoMemory) s b c out out₁ = Unit {0}

-- why reading a script ended a run
abbrev pub halt_of : Fault → Halt
halt_of (AtLine n) = Refused (Line n)
halt_of Unread = NoMemory

-- a refusal, whose line was written
abbrev pub Told : Halt → Refusal → (out out₁ : List ℕ) → Type 0
Told (Refused f) g out out₁ = (f ≡ g) × (out₁ ≡ out ++ refusal_line g)
Told NoMemory g out out₁ = Unit {0}

abbrev pub Ended : (before after : Halt) → (out out₁ : List ℕ) → Type 0
Ended (Refused f) h out out₁ = Told h f out out₁
Ended NoMemory h out out₁ = h ≡ NoMemory

-- what a run answers: it came to its end, or ended with a refusal
abbrev pub Runs : (result : Result (Unit {0}) Halt) → Ran → (after : Bench) → (out out₁ : List ℕ) → Type 0
Runs (Ok _) x c out out₁ = (x.stopped ≡ None) × (c ≡ x.bench) × (out₁ ≡ out ++ x.output)
Runs (Err (Refused f)) x c out out₁ = (x.stopped ≡ Some f) × (c ≡ x.bench) × (out₁ ≡ out ++ x.output)
Runs (Err NoMemory) x c out out₁ = Unit {0}
