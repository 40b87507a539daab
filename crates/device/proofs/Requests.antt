-- What the device's definitions mean.
use Rattle.std.proofs.Common.{◌≡◌, ℕ, ◌+◌, ◌-◌, ◌*◌, ◌<◌, ◌≤◌, true, ◌⊎◌, List, [], ◌∷◌, length, get_or, take, drop, sym, refl, ◌∙◌, inl, inr, arith}
use Rattle.std.proofs.lemmas.List.{length-take-le, length-drop, take_all}
use Rattle.std.proofs.lemmas.Bool.{le-leb, cases_Bool, cases_lt}
use Rattle.std.proofs.lemmas.Bool.Decides.{nat_tests}
use Rattle.vring.proofs.Bytes.{set_length, set_where}
use borrow.Rule.Slice.PartMut.{put_mid}
use Rattle.vring.proofs.Stores.{put_middle}
use Rattle.device.specs.Device.{block_at, is_read, is_write, response, kept_after}
use Rattle.device.specs.Laws.{Reads, Writes, Known, read, write, Refuses, Keeps, FirstBytes}

-- a write names bytes that are kept
pub record Writing (k q : List ℕ) : Type 0 where
  pub long : length q ≡ 18
  pub first : get_or q 0 0 ≡ 1
  pub inside : block_at q + 16 ≤ length k

pub writing : (k q : List ℕ) → is_write k q ≡ true → Writing k q
unfolding is_write
writing k q h = record { long = grind (arith, nat_tests); first = grind (arith, nat_tests); inside = grind (arith, nat_tests) }

pub record Reading (k q : List ℕ) : Type 0 where
  pub long : length q ≡ 2
  pub first : get_or q 0 0 ≡ 0
  pub inside : block_at q + 16 ≤ length k

pub reading : (k q : List ℕ) → is_read k q ≡ true → Reading k q
unfolding is_read
reading k q h = record { long = grind (arith, nat_tests); first = grind (arith, nat_tests); inside = grind (arith, nat_tests) }

pub reads : Reads
unfolding response kept_after is_read is_write
reads k b h = rw (le-leb (16 * b + 16) (length k) h) (refl, refl)

pub writes : Writes
unfolding response kept_after is_read is_write
writes k b xs e h = rw (e, le-leb (16 * b + 16) (length k) h) (refl, refl)

known_write : (k q : List ℕ) → Writing k q → Known k q
known_write k [] w = absurd (omega (arith, w.long))
known_write k (x ∷ []) w = absurd (omega (arith, w.long))
known_write k (x ∷ b ∷ xs) w = rw w.first (write b xs (omega (arith, w.long)) w.inside)

known_read : (k q : List ℕ) → Reading k q → Known k q
known_read k [] w = absurd (omega (arith, w.long))
known_read k (x ∷ []) w = absurd (omega (arith, w.long))
known_read k (x ∷ b ∷ []) w = rw w.first (read b w.inside)
known_read k (x ∷ b ∷ y ∷ xs) w = absurd (omega (arith, w.long))

pub refuses : Refuses
unfolding response kept_after
refuses k q h =
    elim (cases_Bool (is_read k q)) [
      | inl e ↦ absurd (h (known_read k q (reading k q e)))
      | inr e ↦
          elim (cases_Bool (is_write k q)) [
            | inl f ↦ absurd (h (known_write k q (writing k q f)))
            | inr f ↦ rw (e, f) (refl, refl)
          ]
    ]

pub kept_length : (k q : List ℕ) → length (kept_after k q) ≡ length k
unfolding kept_after is_write
kept_length k q = grind (arith, nat_tests, set_length, length-drop {A = ℕ})

kept_where : (k q : List ℕ) (a : ℕ) → (get_or (kept_after k q) a 0 ≡ get_or k a 0) ⊎ ((block_at q ≤ a) × (a < block_at q + 16))
unfolding kept_after is_write
kept_where k q a = grind (arith, nat_tests, set_where, length-drop {A = ℕ})

pub keeps : Keeps
keeps k q = (kept_length k q, kept_where k q)

known_short : (k q : List ℕ) → Known k q → length q ≤ 18
known_short k _ (read b h) = omega arith
known_short k _ (write b xs e h) = omega arith

pub first_bytes : FirstBytes
first_bytes k q =
    elim (cases_lt 19 (length q)) [
      | inl l ↦
          let n : length (take 19 q) ≡ 19 = length-take-le 19 q (omega arith) in
          let a = refuses k (take 19 q) (λ w. omega (arith, known_short k (take 19 q) w)) in
          let b = refuses k q (λ w. omega (arith, known_short k q w)) in
          (a.0 ∙ sym b.0, a.1 ∙ sym b.1)
      | inr g ↦ rw (take_all 19 q g) (refl, refl)
    ]

-- a block that was written as a middle part of what is kept is what a write leaves
pub put_block : (k q ys : List ℕ) (a n : ℕ) →
    length q ≡ 18 → get_or q 0 0 ≡ 1 → a ≡ block_at q → a + 16 ≤ length k → n ≡ 16 → ys ≡ take (length q - 2) (drop 2 q) → put_mid a n k ys ≡ kept_after k q
unfolding kept_after is_write
put_block k q ys a n l f e h m s =
    grind (arith, nat_tests, put_middle, take_all {A = ℕ}, length-drop {A = ℕ})
