-- Commands one after the other.
use Rattle.std.proofs.Common.{◌≡◌, ℕ, ◌+◌, ◌<◌, ◌≤◌, List, [], ◌++◌, map, length, get_or, drop, None, Err, arith}
use Rattle.std.proofs.lemmas.Grind.{common_steps}
use Rattle.std.proofs.lemmas.List.{at_drop_more, at_drop_all}
use Rattle.script.specs.Commands.{cmd_of}
use Rattle.script.specs.declared.command.Command.{Command}
use Rattle.machine.specs.Bench.{Bench}
use Rattle.machine.specs.Steps.{Step, goes, refuses, step}
use Rattle.machine.specs.Runs.{Ran, after_step, run, Went, RefusedBy, Steps, Told, Ended, Runs}
use Rattle.machine.specs.declared.refusal.Refusal.{Refusal}
use Rattle.machine.specs.declared.halt.Halt.{Halt}
use Rattle.machine.specs.declared.halt.Halt.TheVariants.{Refused, NoMemory}

-- runs that end alike, what was printed before them counted
pub record Alike (out : List ℕ) (x : Ran) (out₁ : List ℕ) (y : Ran) : Type 0 where
  pub bench : x.bench ≡ y.bench
  pub stopped : x.stopped ≡ y.stopped
  pub output : out ++ x.output ≡ out₁ ++ y.output

went : (s : Step) (b b₁ : Bench) (others : Bench → Ran) (out out₁ : List ℕ) → Went s b₁ out out₁ → Alike out₁ (others b₁) out (after_step b s others)
went (goes b₂ o) b b₁ others out out₁ h = record { bench = grind (arith, common_steps); stopped = grind (arith, common_steps); output = grind (arith, common_steps) }
went (refuses f) b b₁ others out out₁ h = absurd h

refused : (s : Step) (g : Refusal) (h : Halt) (b b₁ : Bench) (others : Bench → Ran) (out out₁ out₂ : List ℕ) → RefusedBy s g b b₁ out out₁ → Told h g out₁ out₂ → Runs (Err h) (after_step b s others) b₁ out out₂
refused (goes b₂ o) g h b b₁ others out out₁ out₂ r t = absurd r
refused (refuses f) g (Refused x) b b₁ others out out₁ out₂ r t = grind (arith, common_steps)
refused (refuses f) g NoMemory b b₁ others out out₁ out₂ r t = tt

ended : (s : Step) (g h : Halt) (b b₁ : Bench) (others : Bench → Ran) (out out₁ out₂ : List ℕ) → Steps (Err g) s b b₁ out out₁ → Ended g h out₁ out₂ → Runs (Err h) (after_step b s others) b₁ out out₂
ended s (Refused f) h b b₁ others out out₁ out₂ r t = refused s f h b b₁ others out out₁ out₂ r t
ended s NoMemory h b b₁ others out out₁ out₂ r t = rw t tt

module _ (cs : List Command) (i : ℕ) (d : Command) (l : i < length cs) (b : Bench) where
  first : run (map cmd_of (drop i cs)) b ≡ after_step b (step (cmd_of (get_or cs i d)) b) (λ x. run (map cmd_of (drop (i + 1) cs)) x)
  unfolding run
  first = at_drop_more (λ qs. run (map cmd_of qs) b) cs i d l

  pub run_went : (b₁ : Bench) (out out₁ : List ℕ) → Went (step (cmd_of (get_or cs i d)) b) b₁ out out₁ →
      Alike out₁ (run (map cmd_of (drop (i + 1) cs)) b₁) out (run (map cmd_of (drop i cs)) b)
  run_went b₁ out out₁ h = rw first (went (step (cmd_of (get_or cs i d)) b) b b₁ (λ x. run (map cmd_of (drop (i + 1) cs)) x) out out₁ h)

  pub run_ended : (g h : Halt) (b₁ : Bench) (out out₁ out₂ : List ℕ) → Steps (Err g) (step (cmd_of (get_or cs i d)) b) b b₁ out out₁ → Ended g h out₁ out₂ →
      Runs (Err h) (run (map cmd_of (drop i cs)) b) b₁ out out₂
  run_ended g h b₁ out out₁ out₂ r t = rw first (ended (step (cmd_of (get_or cs i d)) b) g h b b₁ (λ x. run (map cmd_of (drop (i + 1) cs)) x) out out₁ out₂ r t)

pub run_end : (cs : List Command) (i : ℕ) → length cs ≤ i → (b : Bench) → run (map cmd_of (drop i cs)) b ≡ record { bench = b; output = []; stopped = None }
unfolding run
run_end cs i l b = at_drop_all (λ qs. run (map cmd_of qs) b) cs i l

-- the answer of a run, carried over to a run that ends alike
pub runs_alike : (h : Halt) (x y : Ran) (b : Bench) (out out₀ out₁ : List ℕ) → x.bench ≡ y.bench → x.stopped ≡ y.stopped → out ++ x.output ≡ out₀ ++ y.output → Runs (Err h) x b out out₁ → Runs (Err h) y b out₀ out₁
runs_alike (Refused f) x y b out out₀ out₁ e s o r = grind (arith, common_steps)
runs_alike NoMemory x y b out out₀ out₁ e s o r = tt
