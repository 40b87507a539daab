-- What a script works on, as lists of bytes.
use Rattle.std.specs.Prelude.{ℕ, List, [], ◌∷◌, vec_items}
use Rattle.vring.specs.Rings.{Ring}
use Rattle.machine.specs.declared.machine.Machine.{Machine}

-- guest memory, the ring in it, and the device's state and contents
pub record Bench : Type 0 where
  pub memory : List ℕ
  pub ring : Ring
  pub state : List ℕ
  pub kept : List ℕ

abbrev pub bench_of : Machine → Bench
bench_of m = record { memory = vec_items m.memory; ring = record { size = m.ring.size; base = m.ring.base }; state = m.served ∷ m.stopped ∷ []; kept = vec_items m.kept }

-- before the first command: no memory, no ring, a new device that keeps nothing
abbrev pub start : Bench
start = record { memory = []; ring = record { size = 0; base = 0 }; state = 0 ∷ 0 ∷ []; kept = [] }
