-- What the definitions of rings and numbers mean.
use Rattle.std.specs.Prelude.{◌≡◌, ℕ, ◌+◌, ◌%◌, ◌≤◌, true, ◌⊎◌, ◌↔◌, List, [], ◌∷◌, length}
use Rattle.vring.specs.Words.{word, two, set_bytes}
use Rattle.vring.specs.Rings.{size_ok}

abbrev pub OneOf : List ℕ → ℕ → Type 0
OneOf [] s = ⊥
OneOf (x ∷ xs) s = (s ≡ x) ⊎ OneOf xs s

-- a ring has 1, 2, 4, 8, 16, 32 or 64 places
abbrev pub SizesMean : Type 0
SizesMean = (s : ℕ) → (size_ok s ≡ true) ↔ OneOf (1 ∷ 2 ∷ 4 ∷ 8 ∷ 16 ∷ 32 ∷ 64 ∷ []) s

-- a number that is written is read again
abbrev pub NumberStays : Type 0
NumberStays = (m : List ℕ) (a v : ℕ) → a + 2 ≤ length m → word (set_bytes m a (two v)) a ≡ v % 65536
