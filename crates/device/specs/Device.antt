-- The device: what it does for a request, and what it keeps.
use Rattle.std.specs.Prelude.{ℕ, ◌+◌, ◌*◌, Bool, cond, ◌&&◌, List, [], ◌∷◌, length, take, drop, ◌==◌, nat_le, slice_index}
use Rattle.vring.specs.Words.{set_bytes}

-- the sixteen bytes that a request names begin at sixteen times its second byte
abbrev pub block_at : (request : List ℕ) → ℕ
block_at q = 16 * slice_index q 1

-- a request to read: two bytes, 0 and the number of a block that is kept
unfoldable pub is_read : (kept request : List ℕ) → Bool
is_read k q = length q == 2 && (slice_index q 0 == 0 && nat_le (block_at q + 16) (length k))

-- a request to write: 1, the number of a block that is kept, and sixteen bytes
unfoldable pub is_write : (kept request : List ℕ) → Bool
is_write k q = length q == 18 && (slice_index q 0 == 1 && nat_le (block_at q + 16) (length k))

-- the response to a read is 0 and the block, to a write 0, and to all else 255
unfoldable pub response : (kept request : List ℕ) → List ℕ
response k q = cond (is_read k q) (0 ∷ take 16 (drop (block_at q) k)) (cond (is_write k q) (0 ∷ []) (255 ∷ []))

-- what is kept after a request: a write puts its sixteen bytes there, and all else changes nothing
unfoldable pub kept_after : (kept request : List ℕ) → List ℕ
kept_after k q = cond (is_write k q) (set_bytes k (block_at q) (drop 2 q)) k

-- the device: what it keeps, how many chains it has served, modulo 65,536, and whether it has stopped
pub record Device : Type 0 where
  pub kept : List ℕ
  pub served : ℕ
  pub stopped : Bool
