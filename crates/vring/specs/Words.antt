-- Bytes and numbers in memory. A memory is the list of its bytes.
use Rattle.std.specs.Prelude.{ℕ, ◌+◌, ◌*◌, ◌/◌, ◌%◌, List, [], ◌∷◌, ◌++◌, length, take, drop, slice_index}

-- the number at an address: two bytes, the lower first
abbrev pub word : List ℕ → (at : ℕ) → ℕ
word m a = slice_index m a + 256 * slice_index m (a + 1)

-- the two bytes of a number
unfoldable pub two : ℕ → List ℕ
two v = v % 256 ∷ v / 256 % 256 ∷ []

-- memory with the bytes xs put into it from an address on
unfoldable pub set_bytes : (memory : List ℕ) → (at : ℕ) → (xs : List ℕ) → List ℕ
set_bytes m a xs = take a m ++ (xs ++ drop (a + length xs) m)
