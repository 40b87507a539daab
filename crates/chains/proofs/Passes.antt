-- One turn of the loop over descriptors: what is left of the list gives the answer.
use Rattle.std.proofs.Common.{◌≡◌, ℕ, ◌+◌, ◌<◌, ◌≤◌, Bool, true, false, List, length, get_or, drop, refl, ◌∙◌}
use Rattle.std.proofs.lemmas.List.{at_drop_more, at_drop_all}
use Rattle.std.proofs.lemmas.Bool.{and_right}
use Rattle.chains.specs.Descriptors.{writable}
use Rattle.chains.specs.Usable.{fits, usable}
use Rattle.chains.specs.declared.descriptor.Descriptor.{Descriptor}
use Rattle.chains.specs.declared.region.Region.{Region}

module _ (gs : List Region) (n : ℕ) (w : Bool) (xs : List Descriptor) (i : ℕ) (d : Descriptor) (h : i < length xs) where
  pub usable_outside : fits gs n (get_or xs i d) ≡ false → usable gs n w (drop i xs) ≡ false
  unfolding usable
  usable_outside s = at_drop_more (usable gs n w) xs i d h ∙ rw s refl

  pub usable_writes : fits gs n (get_or xs i d) ≡ true → writable (get_or xs i d) ≡ true → usable gs n w (drop i xs) ≡ usable gs n true (drop (i + 1) xs)
  unfolding usable
  usable_writes s t = at_drop_more (usable gs n w) xs i d h ∙ rw (s, t) refl

  pub usable_reads : fits gs n (get_or xs i d) ≡ true → writable (get_or xs i d) ≡ false → w ≡ false → usable gs n w (drop i xs) ≡ usable gs n w (drop (i + 1) xs)
  unfolding usable
  usable_reads s t e = at_drop_more (usable gs n w) xs i d h ∙ rw (s, t, e) refl

  pub usable_late : writable (get_or xs i d) ≡ false → w ≡ true → usable gs n w (drop i xs) ≡ false
  unfolding usable
  usable_late t e = at_drop_more (usable gs n w) xs i d h ∙ rw (t, e) (and_right _ _ refl)

pub usable_end : (gs : List Region) (n : ℕ) (w : Bool) (xs : List Descriptor) (i : ℕ) → length xs ≤ i → usable gs n w (drop i xs) ≡ true
unfolding usable
usable_end gs n w xs i h = at_drop_all (usable gs n w) xs i h
