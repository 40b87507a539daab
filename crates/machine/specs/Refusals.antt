-- The number and the place of each refusal.
use Rattle.std.specs.Prelude.{ℕ}
use Rattle.machine.specs.declared.refusal.Refusal.{Refusal}
use Rattle.machine.specs.declared.refusal.Refusal.TheVariants.{Places, RingOutside, MemoryTooLong, State, Kept, Times, Line, Outside}

-- 1 the ring or the memory, 2 the device state, 3 the contents, 4 the number of servings, 5 the text
abbrev pub number_of : Refusal → ℕ
number_of Places = 1
number_of RingOutside = 1
number_of MemoryTooLong = 1
number_of (State p) = 2
number_of (Kept n) = 3
number_of (Times n) = 4
number_of (Line n) = 5
number_of (Outside a) = 5

-- which part of the ring or the state is wrong, which number is too large, which line cannot be read
abbrev pub place_of : Refusal → ℕ
place_of Places = 0
place_of RingOutside = 1
place_of MemoryTooLong = 2
place_of (State p) = p
place_of (Kept n) = n
place_of (Times n) = n
place_of (Line n) = n
place_of (Outside a) = a
