-- What is printed where no bytes are left to compare.
use Rattle.std.proofs.Common.{◌≡◌, ℕ, ◌⊎◌, List, [], ◌∷◌, refl, inl, inr}
use Rattle.machine.specs.Steps.{changes}

pub changes_end : (name : List ℕ) (at : ℕ) (xs ys : List ℕ) → (xs ≡ []) ⊎ (ys ≡ []) → changes name at xs ys ≡ []
changes_end name at [] ys h = refl
changes_end name at (x ∷ xs) [] h = refl
changes_end name at (x ∷ xs) (y ∷ ys) (inl e) = cc
changes_end name at (x ∷ xs) (y ∷ ys) (inr e) = cc
