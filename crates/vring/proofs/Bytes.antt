-- Bytes put into memory: where it changes, and how long it stays.
use Rattle.std.proofs.Common.{◌≡◌, ℕ, suc, ◌+◌, ◌-◌, ◌/◌, ◌%◌, ◌<◌, ◌≤◌, ◌⊎◌, List, [], ◌∷◌, ◌++◌, length, get_or, set, refl, inl, inr, arith, rules}
use Rattle.std.proofs.lemmas.List.{places, same_lists, length-append, length-take, length-drop, length-set, get_or-set_same}
use Rattle.std.proofs.lemmas.Bool.{cases_lt, cases_eq}
use Rattle.vring.specs.Words.{two, set_bytes}

pub set_length : (m : List ℕ) (a : ℕ) (xs : List ℕ) → a + length xs ≤ length m → length (set_bytes m a xs) ≡ length m
unfolding set_bytes
set_length m a xs h = simp (length-append, length-take, length-drop) (omega arith)

pub set_below : (m : List ℕ) (a : ℕ) (xs : List ℕ) (k : ℕ) → a + length xs ≤ length m → k < a → get_or (set_bytes m a xs) k 0 ≡ get_or m k 0
unfolding set_bytes
set_below m a xs k h l = grind (arith, places)

pub set_above : (m : List ℕ) (a : ℕ) (xs : List ℕ) (k : ℕ) → a + length xs ≤ length m → a + length xs ≤ k → get_or (set_bytes m a xs) k 0 ≡ get_or m k 0
unfolding set_bytes
set_above m a xs k h l = grind (arith, places)

pub set_inside : (m : List ℕ) (a : ℕ) (xs : List ℕ) (k : ℕ) → a + length xs ≤ length m → a ≤ k → k < a + length xs → get_or (set_bytes m a xs) k 0 ≡ get_or xs (k - a) 0
unfolding set_bytes
set_inside m a xs k h g l = grind (arith, places)

-- a byte is as it was, or one of those that were put
pub set_where : (m : List ℕ) (a : ℕ) (xs : List ℕ) (k : ℕ) → a + length xs ≤ length m → (get_or (set_bytes m a xs) k 0 ≡ get_or m k 0) ⊎ ((a ≤ k) × (k < a + length xs))
set_where m a xs k h =
    elim (cases_lt k a) [
      | inl l ↦ inl (set_below m a xs k h l)
      | inr g ↦ elim (cases_lt k (a + length xs)) [ inl l ↦ inr (g, l) | inr l ↦ inl (set_above m a xs k h l) ]
    ]

pub set_none : (m : List ℕ) (a : ℕ) → a ≤ length m → set_bytes m a [] ≡ m
unfolding set_bytes
set_none m a h = same_lists _ _ (search (rules, places)) (λ j d l. grind (arith, places))

-- one byte, and the others behind it
pub set_more : (m : List ℕ) (a x : ℕ) (xs : List ℕ) → a + suc (length xs) ≤ length m → set_bytes (set m a x) (a + 1) xs ≡ set_bytes m a (x ∷ xs)
unfolding set_bytes
set_more m a x xs h =
    let l : a < length m = omega arith in
    let k : length (set m a x) ≡ length m = length-set m a x in
    same_lists _ _ (search (rules, places)) (λ j d b. let u = cases_eq j a in grind (arith, places, get_or-set_same))

-- two bytes, one after the other
pub set_two : (m : List ℕ) (a v : ℕ) → a + 2 ≤ length m → set (set m a (v % 256)) (a + 1) (v / 256 % 256) ≡ set_bytes m a (two v)
unfolding set_bytes two
set_two m a v h =
    let l₀ : a < length m = omega arith in
    let l₁ : a + 1 < length (set m a (v % 256)) = rw length-set (omega arith) in
    same_lists _ _ (search (rules, places)) (λ k d b. let u = cases_eq k a in let w = cases_eq k (a + 1) in grind (arith, places, get_or-set_same))

-- bytes put right behind others
pub set_behind : (m : List ℕ) (a b : ℕ) (xs ys : List ℕ) → b ≡ a + length xs → a + (length xs + length ys) ≤ length m → set_bytes (set_bytes m a xs) b ys ≡ set_bytes m a (xs ++ ys)
unfolding set_bytes
set_behind m a b xs ys e h = same_lists _ _ (search (rules, places)) (λ k d l. grind (arith, places))

pub two_length : (v : ℕ) → length (two v) ≡ 2
unfolding two
two_length v = refl
