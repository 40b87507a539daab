-- A ring that stands in memory, and the places of its heads and used entries.
use Rattle.std.proofs.Common.{◌≡◌, ℕ, ◌+◌, ◌%◌, ◌<◌, ◌≤◌, true, ◌&&◌, eqb, leb, mod-lt, arith}
use native.Mathlib.Nat.{mod-mod_of_dvd, dvd_of_mod-eq-zero}
use Rattle.std.proofs.lemmas.Bool.{and_parts, leb-true, eqb-true}
use Rattle.vring.specs.Rings.{Ring, used_at, ends_at, head_at, entry_at, size_ok, ring_ok}

pub record Stands (r : Ring) (n : ℕ) : Type 0 where
  pub some : 1 ≤ r.size
  pub few : r.size ≤ 64
  pub divides : 65536 % r.size ≡ 0
  pub within : ends_at r ≤ n

pub stands : (r : Ring) (n : ℕ) → ring_ok r n ≡ true → Stands r n
unfolding ring_ok size_ok
stands r n h =
    let p = and_parts (size_ok r.size) (leb (ends_at r) n) h in
    let q = and_parts (leb 1 r.size) (leb r.size 64 && eqb (65536 % r.size) 0) p.0 in
    let s = and_parts (leb r.size 64) (eqb (65536 % r.size) 0) q.1 in
    record { some = leb-true 1 r.size q.0; few = leb-true r.size 64 s.0; divides = eqb-true (65536 % r.size) 0 s.1; within = leb-true (ends_at r) n p.1 }

-- a place stays the same where the count goes round
pub place_round : (r : Ring) (n k : ℕ) → Stands r n → k % 65536 % r.size ≡ k % r.size
place_round r n k s = mod-mod_of_dvd r.size k (dvd_of_mod-eq-zero r.size s.divides)

pub place_lt : (r : Ring) (n k : ℕ) → Stands r n → k % r.size < r.size
place_lt r n k s = mod-lt k s.some

pub head_round : (r : Ring) (n k : ℕ) → Stands r n → head_at r (k % 65536) ≡ head_at r k
head_round r n k s = rw (place_round r n k s)

pub entry_round : (r : Ring) (n k : ℕ) → Stands r n → entry_at r (k % 65536) ≡ entry_at r k
entry_round r n k s = rw (place_round r n k s)

pub entry_within : (r : Ring) (k n : ℕ) → Stands r n → (used_at r + 2 ≤ entry_at r k) × (entry_at r k + 4 ≤ ends_at r) × (ends_at r ≤ n)
entry_within r k n st = let l = place_lt r n k st in (omega arith, omega arith, st.within)
