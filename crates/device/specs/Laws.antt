-- What the device's definitions mean, in its own words.
use Rattle.std.specs.Prelude.{◌≡◌, ℕ, ◌+◌, ◌*◌, ◌<◌, ◌≤◌, ◌⊎◌, List, [], ◌∷◌, length, take, drop, slice_index}
use Rattle.vring.specs.Words.{set_bytes}
use Rattle.device.specs.Device.{response, kept_after}

-- a read of block b answers 0 and the sixteen bytes of the block, and changes nothing
abbrev pub Reads : Type 0
Reads = (k : List ℕ) (b : ℕ) → 16 * b + 16 ≤ length k → (response k (0 ∷ b ∷ []) ≡ 0 ∷ take 16 (drop (16 * b) k)) × (kept_after k (0 ∷ b ∷ []) ≡ k)

-- a write of block b answers 0, and the sixteen bytes are kept there
abbrev pub Writes : Type 0
Writes =
    (k : List ℕ) (b : ℕ) (xs : List ℕ) → length xs ≡ 16 → 16 * b + 16 ≤ length k →
    (response k (1 ∷ b ∷ xs) ≡ 0 ∷ []) × (kept_after k (1 ∷ b ∷ xs) ≡ set_bytes k (16 * b) xs)

-- which requests these are: a read or a write of a block that is kept
pub data Known (k : List ℕ) : (request : List ℕ) → Type 0 where
  read : (b : ℕ) → 16 * b + 16 ≤ length k → Known k (0 ∷ b ∷ [])
  write : (b : ℕ) (xs : List ℕ) → length xs ≡ 16 → 16 * b + 16 ≤ length k → Known k (1 ∷ b ∷ xs)

-- every other request is answered 255 and changes nothing
abbrev pub Refuses : Type 0
Refuses = (k q : List ℕ) → (Known k q → ⊥) → (response k q ≡ 255 ∷ []) × (kept_after k q ≡ k)

-- a write changes no other block, and how much is kept never changes
abbrev pub Keeps : Type 0
Keeps =
    (k q : List ℕ) → (length (kept_after k q) ≡ length k)
    × ((a : ℕ) → (slice_index (kept_after k q) a ≡ slice_index k a) ⊎ ((16 * slice_index q 1 ≤ a) × (a < 16 * slice_index q 1 + 16)))

-- the first nineteen bytes of a request say all that the device needs of it
abbrev pub FirstBytes : Type 0
FirstBytes = (k q : List ℕ) → (response k (take 19 q) ≡ response k q) × (kept_after k (take 19 q) ≡ kept_after k q)
