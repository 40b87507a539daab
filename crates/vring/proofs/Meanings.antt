-- The sizes of rings, by a test over all of them up to 64, and numbers that are written and read.
use Rattle.std.proofs.Common.{◌≡◌, ℕ, zero, suc, ◌+◌, ◌-◌, ◌/◌, ◌%◌, ◌≤◌, Bool, true, false, not, ◌&&◌, ◌||◌, eqb, leb, List, [], ◌∷◌, get_or, refl, ap, ◌∙◌, inl, inr, arith}
use Rattle.std.proofs.lemmas.Bool.{and_parts, or_cases, leb-true, eqb-true, cases_eq}
use Rattle.vring.specs.Words.{two, set_bytes}
use Rattle.vring.specs.Rings.{size_ok}
use Rattle.vring.specs.Laws.{OneOf, SizesMean, NumberStays}
use Rattle.vring.proofs.Bytes.{set_inside, two_length}

-- whether s is one of some numbers
abbrev among : List ℕ → ℕ → Bool
among [] s = false
among (x ∷ xs) s = eqb s x || among xs s

one_of : (xs : List ℕ) (s : ℕ) → among xs s ≡ true → OneOf xs s
one_of [] s e = let z : ◌≡◌ {A = ℕ} 0 1 = cc in absurd (omega arith)
one_of (x ∷ xs) s e = elim (or_cases (eqb s x) (among xs s) e) [ inl p ↦ inl (eqb-true s x p) | inr p ↦ inr (one_of xs s p) ]

-- whether each size up to n is one of these, if it may be one
abbrev all_among : List ℕ → (n : ℕ) → Bool
all_among xs zero = not (size_ok zero) || among xs zero
all_among xs (suc n) = (not (size_ok (suc n)) || among xs (suc n)) && all_among xs n

at_each : (xs : List ℕ) (n s : ℕ) → all_among xs n ≡ true → s ≤ n → (not (size_ok s) || among xs s) ≡ true
at_each xs zero s e l = let z : s ≡ 0 = omega arith in ap (λ k. not (size_ok k) || among xs k) z ∙ e
at_each xs (suc n) s e l =
    let p = and_parts (not (size_ok (suc n)) || among xs (suc n)) (all_among xs n) e in
    elim (cases_eq s (suc n)) [ inl z ↦ ap (λ k. not (size_ok k) || among xs k) z ∙ p.0 | inr z ↦ at_each xs n s p.1 (omega arith) ]

tested : all_among (1 ∷ 2 ∷ 4 ∷ 8 ∷ 16 ∷ 32 ∷ 64 ∷ []) 64 ≡ true
unfolding size_ok
tested = refl

few : (s : ℕ) → size_ok s ≡ true → s ≤ 64
unfolding size_ok
few s e = leb-true s 64 (and_parts (leb s 64) (eqb (65536 % s) 0) (and_parts (leb 1 s) (leb s 64 && eqb (65536 % s) 0) e).1).0

from_test : (a b : Bool) → (not a || b) ≡ true → a ≡ true → b ≡ true
from_test true b e h = e
from_test false b e h = let z : ◌≡◌ {A = ℕ} 0 1 = cc in absurd (omega arith)

to_size : (s : ℕ) → OneOf (1 ∷ 2 ∷ 4 ∷ 8 ∷ 16 ∷ 32 ∷ 64 ∷ []) s → size_ok s ≡ true
unfolding size_ok
to_size s (inl e) = rw e refl
to_size s (inr (inl e)) = rw e refl
to_size s (inr (inr (inl e))) = rw e refl
to_size s (inr (inr (inr (inl e)))) = rw e refl
to_size s (inr (inr (inr (inr (inl e))))) = rw e refl
to_size s (inr (inr (inr (inr (inr (inl e)))))) = rw e refl
to_size s (inr (inr (inr (inr (inr (inr (inl e))))))) = rw e refl
to_size s (inr (inr (inr (inr (inr (inr (inr e))))))) = absurd e

pub sizes_mean : SizesMean
sizes_mean s = (
  λ e. one_of (1 ∷ 2 ∷ 4 ∷ 8 ∷ 16 ∷ 32 ∷ 64 ∷ []) s (from_test (size_ok s) (among (1 ∷ 2 ∷ 4 ∷ 8 ∷ 16 ∷ 32 ∷ 64 ∷ []) s) (at_each (1 ∷ 2 ∷ 4 ∷ 8 ∷ 16 ∷ 32 ∷ 64 ∷ []) 64 s tested (few s e)) e),
  to_size s,
)

pub number_stays : NumberStays
unfolding two
number_stays m a v h =
    let l = two_length v in
    let z₀ : a - a ≡ 0 = omega arith in
    let z₁ : a + 1 - a ≡ 1 = omega arith in
    let p : get_or (set_bytes m a (two v)) a 0 ≡ v % 256 = set_inside m a (two v) a (omega arith) (omega arith) (omega arith) ∙ ap (λ k. get_or (two v) k 0) z₀ in
    let q : get_or (set_bytes m a (two v)) (a + 1) 0 ≡ v / 256 % 256 = set_inside m a (two v) (a + 1) (omega arith) (omega arith) (omega arith) ∙ ap (λ k. get_or (two v) k 0) z₁ in
    omega arith
