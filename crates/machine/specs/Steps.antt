-- What each command does, and what it prints.
use Rattle.std.specs.Prelude.{ℕ, zero, suc, ◌+◌, ◌%◌, cond, List, [], ◌∷◌, ◌++◌, map, length, replicate, Some, None, codes, ◌==◌, nat_le, nat_lt, slice_index}
use Rattle.std.specs.List.{range_with_len}
use Rattle.vring.specs.Words.{set_bytes}
use Rattle.vring.specs.Rings.{Ring, size_ok, ends_at}
use Rattle.model.specs.Serving.{State, serve_times}
use Rattle.device.specs.States.{numbers_of}
use Rattle.serving.specs.Entries.{state_in, refusal, answer, part}
use Rattle.serving.specs.declared.done.Done.{Done}
use Rattle.serving.specs.declared.done.Done.TheVariants.{Served, Stopped, Anew, Refused}
use Rattle.report.specs.Lines.{change, waiting, piece_of}
use Rattle.script.specs.Format.{Cmd, memory, ring, bytes_at, kept, serve, anew, piece}
use Rattle.machine.specs.Bench.{Bench}
use Rattle.machine.specs.declared.refusal.Refusal.{Refusal}
use Rattle.machine.specs.declared.refusal.Refusal.TheVariants.{Places, RingOutside, MemoryTooLong, State as StateAt, Kept, Times, Outside}

-- the bytes 0, 1, 2 and on from k on, modulo 256, so many
abbrev pub counted : (k n : ℕ) → List ℕ
counted k n = map (λ i. i % 256) (range_with_len k n)

-- which part of a ring is wrong in a memory of n bytes, and which of a state's numbers
abbrev pub ring_fault : Ring → (n : ℕ) → Refusal
ring_fault r n = cond (size_ok r.size) (cond (nat_le (ends_at r) n) MemoryTooLong RingOutside) Places

abbrev pub state_fault : (state : List ℕ) → Refusal
state_fault s = cond (length s == 2) (cond (nat_lt (slice_index s 0) 65536) (StateAt 2) (StateAt 1)) (StateAt 0)

-- what is wrong, by the number of the refusal
abbrev pub fault : (number : ℕ) → (times : ℕ) → Bench → Refusal
fault zero n b = Times n
fault (suc zero) n b = ring_fault b.ring (length b.memory)
fault (suc (suc zero)) n b = state_fault b.state
fault (suc (suc (suc zero))) n b = Kept (length b.kept)
fault (suc (suc (suc (suc f)))) n b = Times n

-- ## What is printed
-- a line for each byte that changed, from the place `at` on
abbrev pub changes : (name : List ℕ) → (at : ℕ) → (before after : List ℕ) → List ℕ
changes name at [] ys = []
changes name at (x ∷ xs) [] = []
changes name at (x ∷ xs) (y ∷ ys) = cond (x == y) [] (change name at x y) ++ changes name (at + 1) xs ys

-- a line for an answer
abbrev pub answered : Done → List ℕ
answered (Served n) = waiting n
answered Stopped = codes "stopped\n"
answered Anew = codes "anew\n"
answered (Refused f) = []

-- a line for a part of memory
abbrev pub part_line : (i : ℕ) → List ℕ → List ℕ
part_line i [] = piece_of i None
part_line i (x ∷ xs) = piece_of i (Some (x ∷ xs))

-- ## A step
-- a command goes on with another bench, and prints something, or is refused
pub data Step : Type 0 where
  goes : Bench → (output : List ℕ) → Step
  refuses : Refusal → Step

abbrev pub with_memory : Bench → List ℕ → Bench
with_memory b m = record { memory = m; ring = b.ring; state = b.state; kept = b.kept }

-- the state of memory and device
abbrev pub state_on : Bench → State
state_on b = state_in b.memory b.state b.kept

abbrev pub bench_at : Ring → State → Bench
bench_at r x = record { memory = x.memory; ring = r; state = numbers_of x.device; kept = x.device.kept }

-- servings that are not refused: what changed, and what is answered
abbrev pub served : Bench → (after : State) → Step
served b x = goes (bench_at b.ring x) (changes (codes "memory") 0 b.memory x.memory ++ (changes (codes "kept") 0 b.kept x.device.kept ++ answered (answer b.ring x)))

abbrev pub serve_step : (refusal : ℕ) → (times : ℕ) → Bench → Step
serve_step zero n b = served b (serve_times n b.ring (state_on b))
serve_step (suc f) n b = refuses (fault (suc f) n b)

abbrev pub step : Cmd → Bench → Step
step (memory n) b = cond (nat_le n 65536) (goes (with_memory b (replicate n 0)) []) (refuses MemoryTooLong)
step (ring s a) b = goes (record { memory = b.memory; ring = record { size = s; base = a }; state = b.state; kept = b.kept }) []
step (bytes_at a xs) b = cond (nat_le (a + length xs) (length b.memory)) (goes (with_memory b (set_bytes b.memory a xs)) []) (refuses (Outside a))
step (kept n) b = cond (nat_le n 4096) (goes (record { memory = b.memory; ring = b.ring; state = b.state; kept = counted 0 n }) []) (refuses (Kept n))
step (serve n) b = serve_step (refusal b.ring b.memory b.state b.kept n) n b
step anew b = goes (record { memory = b.memory; ring = b.ring; state = 0 ∷ 0 ∷ []; kept = b.kept }) (codes "anew\n")
step (piece i) b = goes b (part_line i (part b.ring b.memory i))
