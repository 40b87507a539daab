-- What a reset promises.
use Rattle.std.proofs.Common.{◌≡◌, ℕ, List, [], ◌∷◌, length, refl, arith}
use Rattle.serving.specs.Entries.{Resets}
use Rattle.serving.specs.declared.done.Done.TheVariants.{Anew}

pub resets : (s s₁ : List ℕ) → length s ≡ 2 → s₁ ≡ 0 ∷ 0 ∷ [] → Resets s Anew s₁
resets s s₁ h e =
    record {
      two_numbers = h;
      result = refl;
      state = e;
      as_new = λ m m₀ k. rw e refl;
      sound = λ r m k o l. rw e (record { stands = o; kept_len = l; count = omega arith });
    }
