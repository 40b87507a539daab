-- Where the parts of a ring stand in memory, and which rings may stand there.
use Rattle.std.specs.Prelude.{ℕ, ◌+◌, ◌*◌, ◌%◌, Bool, ◌&&◌, ◌==◌, nat_le}

-- a ring of `size` descriptors that stands in memory from `base` on: first its descriptors, of eight bytes each
pub record Ring : Type 0 where
  pub size : ℕ
  pub base : ℕ

-- then the available ring: its count, and a head for each place
abbrev pub available_at : Ring → ℕ
available_at r = r.base + 8 * r.size

-- then the used ring: its count, and for each place an entry of two numbers
abbrev pub used_at : Ring → ℕ
used_at r = available_at r + (2 + 2 * r.size)

-- the first address behind the ring
abbrev pub ends_at : Ring → ℕ
ends_at r = used_at r + (2 + 4 * r.size)

-- where the k-th head stands that was made available, counted from 0
abbrev pub head_at : Ring → (k : ℕ) → ℕ
head_at r k = available_at r + (2 + 2 * (k % r.size))

-- where the k-th used entry stands, counted from 0
abbrev pub entry_at : Ring → (k : ℕ) → ℕ
entry_at r k = used_at r + (2 + 4 * (k % r.size))

-- the sizes that a ring may have: 1, 2, 4, 8, 16, 32 and 64
unfoldable pub size_ok : ℕ → Bool
size_ok s = nat_le 1 s && (nat_le s 64 && 65536 % s == 0)

-- a ring stands in a memory of n bytes
unfoldable pub ring_ok : Ring → (n : ℕ) → Bool
ring_ok r n = size_ok r.size && nat_le (ends_at r) n

-- and such a memory is one that is served: it has at most 65,536 bytes
unfoldable pub placed_ok : Ring → (n : ℕ) → Bool
placed_ok r n = ring_ok r n && nat_le n 65536
