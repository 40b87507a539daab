-- A number read digit by digit, and what its digits say.
use Rattle.std.proofs.Common.{◌≡◌, ℕ, ◌+◌, ◌-◌, ◌*◌, ◌^◌, ◌<◌, ◌≤◌, Bool, true, false, cond, ◌&&◌, ltb, List, [], ◌∷◌, length, Some, None, Option, sym, refl, ap, inl, inr, arith, rules}
use Rattle.std.specs.Char.{is_ascii_digit}
use Rattle.std.specs.Str.{all_ascii_digits}
use Rattle.std.proofs.lemmas.Bool.{cases_Bool, le-ltb, ltb-false, ltb-true, lt-ltb, and_right, and_from}
use Rattle.std.proofs.lemmas.Str.Parse.{IsNumeralModel, numerals_by_fold}
use Rattle.script.specs.Format.{value, number}

pub own : IsNumeralModel (λ ds. all_ascii_digits ds ≡ true) (value 0)
own = numerals_by_fold _ (search rules) value (search rules)

-- a word of digits is a number if its value is below 2^64
pub numeral : (w : List ℕ) → all_ascii_digits w ≡ true → 0 < length w → value 0 w < 2 ^ 64 → number w ≡ Some (value 0 w)
numeral [] d l h = absurd (omega arith)
numeral (b ∷ w) d l h = rw (and_from (all_ascii_digits (b ∷ w)) (ltb (value 0 (b ∷ w)) (2 ^ 64)) d (lt-ltb _ (2 ^ 64) h)) refl

-- ## Digit by digit

-- the digits that are left, after the number so far
abbrev pub after : ℕ → List ℕ → Option ℕ
after n [] = Some n
after n (d ∷ ds) = cond (is_ascii_digit d && ltb (10 * n + (d - 48)) (2 ^ 64)) (after (10 * n + (d - 48)) ds) None

grows : (n : ℕ) (ds : List ℕ) → n ≤ value n ds
grows n [] = omega arith
grows n (d ∷ ds) = omega (arith, grows (10 * n + (d - 48)) ds)

after_is : (n : ℕ) (ds : List ℕ) → n < 2 ^ 64 → after n ds ≡ cond (all_ascii_digits ds && ltb (value n ds) (2 ^ 64)) (Some (value n ds)) None
after_is n [] h = rw (lt-ltb n (2 ^ 64) h) refl
after_is n (d ∷ ds) h =
    let m = 10 * n + (d - 48) in
    elim (cases_Bool (is_ascii_digit d)) [
      | inr e ↦ rw e refl
      | inl e ↦
          elim (cases_Bool (ltb m (2 ^ 64))) [
            | inl f ↦ rw (e, f) (after_is m ds (ltb-true m (2 ^ 64) f))
            | inr f ↦
                let g : ltb (value m ds) (2 ^ 64) ≡ false = le-ltb (value m ds) (2 ^ 64) (omega (arith, ltb-false m (2 ^ 64) f, grows m ds)) in
                rw (e, f) (rw (and_right (all_ascii_digits ds) (ltb (value m ds) (2 ^ 64)) g) refl)
          ]
    ]

-- a word that is not empty is the number that its digits give
pub number_is : (w : List ℕ) → (length w ≡ 0 → ⊥) → number w ≡ after 0 w
number_is [] h = absurd (h refl)
number_is (d ∷ ds) h = sym (after_is 0 (d ∷ ds) (omega arith))

-- one turn: the digit that was taken, or none
pub taken : (n d m : ℕ) (ds : List ℕ) → Some m ≡ cond (is_ascii_digit d && ltb (10 * n + (d - 48)) (2 ^ 64)) (Some (10 * n + (d - 48))) None → after n (d ∷ ds) ≡ after m ds
taken n d m ds e = go (is_ascii_digit d && ltb (10 * n + (d - 48)) (2 ^ 64)) e
  where
    go : (b : Bool) → Some m ≡ cond b (Some (10 * n + (d - 48))) None → cond b (after (10 * n + (d - 48)) ds) None ≡ after m ds
    go true e = let k : m ≡ 10 * n + (d - 48) = cc in ap (λ x. after x ds) (sym k)
    go false e = let z : ◌≡◌ {A = ℕ} 0 1 = cc in absurd (omega arith)

pub not_taken : (n d : ℕ) (ds : List ℕ) → None ≡ cond (is_ascii_digit d && ltb (10 * n + (d - 48)) (2 ^ 64)) (Some (10 * n + (d - 48))) None → after n (d ∷ ds) ≡ None
not_taken n d ds e = go (is_ascii_digit d && ltb (10 * n + (d - 48)) (2 ^ 64)) e
  where
    go : (b : Bool) → None ≡ cond b (Some (10 * n + (d - 48))) None → cond b (after (10 * n + (d - 48)) ds) None ≡ None
    go true e = let z : ◌≡◌ {A = ℕ} 0 1 = cc in absurd (omega arith)
    go false e = refl
