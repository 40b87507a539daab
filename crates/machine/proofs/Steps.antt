-- What a step leaves, as the code does it.
use Rattle.std.proofs.Common.{◌≡◌, ℕ, ◌+◌, ◌≤◌, cond, leb, List, [], length, arith}
use Rattle.std.proofs.lemmas.Bool.{le-leb}
use Rattle.std.proofs.lemmas.Grind.{common_steps}
use Rattle.vring.specs.Words.{set_bytes}
use Rattle.machine.specs.Bench.{Bench}
use Rattle.machine.specs.Steps.{goes, refuses, with_memory}
use Rattle.machine.specs.Runs.{Went}
use Rattle.machine.specs.declared.refusal.Refusal.TheVariants.{Outside}

-- bytes that lie in memory were written
pub wrote : (b : Bench) (a : ℕ) (xs m : List ℕ) → a + length xs ≤ length b.memory → m ≡ set_bytes b.memory a xs →
    Went (cond (leb (a + length xs) (length b.memory)) (goes (with_memory b (set_bytes b.memory a xs)) []) (refuses (Outside a))) (with_memory b m) [] []
wrote b a xs m h e = grind (arith, common_steps, le-leb)
