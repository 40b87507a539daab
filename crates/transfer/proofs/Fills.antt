-- Steps of filling a response in.
use Rattle.std.proofs.Common.{◌≡◌, ℕ, ◌+◌, ◌-◌, ◌<◌, ◌≤◌, min, true, false, cond, List, [], ◌∷◌, length, get_or, take, drop, sym, refl, ap, ◌∙◌, inl, inr, arith}
use Rattle.std.specs.List.{sum_by}
use Rattle.std.proofs.lemmas.List.{at_drop_more, drop-drop, drop_all, take_all, length-drop}
use Rattle.std.proofs.lemmas.List.Sums.{sum_by-cons}
use Rattle.std.proofs.lemmas.Bool.{cases_lt}
use Rattle.chains.specs.Descriptors.{writable}
use Rattle.chains.specs.declared.descriptor.Descriptor.{Descriptor}
use Rattle.vring.specs.Programs.{put_bytes, Acts, leaves}
use Rattle.transfer.specs.Responses.{capacity, fill_prog}
use Rattle.vring.proofs.Binds.{leaves_by}

module _ {M : Type 0} (acts : Acts M) (ds : List Descriptor) (i : ℕ) (d : Descriptor) (x : List ℕ) (m : M) (h : i < length ds) where
  pub fill_skip : writable (get_or ds i d) ≡ false → leaves acts (fill_prog (drop (i + 1) ds) x) m ≡ leaves acts (fill_prog (drop i ds) x) m
  unfolding fill_prog
  fill_skip w = sym (at_drop_more (λ qs. leaves acts (fill_prog qs x) m) ds i d h ∙ rw w refl)

  pub fill_write : (m₁ : M) → writable (get_or ds i d) ≡ true → m₁ ≡ leaves acts (put_bytes (get_or ds i d).addr (take (get_or ds i d).len x)) m →
      leaves acts (fill_prog (drop (i + 1) ds) (drop (get_or ds i d).len x)) m₁ ≡ leaves acts (fill_prog (drop i ds) x) m
  unfolding fill_prog
  fill_write m₁ w e = sym (at_drop_more (λ qs. leaves acts (fill_prog qs x) m) ds i d h ∙ rw w (leaves_by acts (put_bytes (get_or ds i d).addr (take (get_or ds i d).len x)) _ m m₁ tt refl e))

-- so many bytes of what is left: the descriptor's, or all
pub cut : (len u : ℕ) (a : List ℕ) → let n = min len (length a - u) in (take n (drop u a) ≡ take len (drop u a)) × (drop (u + n) a ≡ drop len (drop u a))
cut len u a =
    elim (cases_lt len (length a - u)) [
      | inl e ↦ let k : min len (length a - u) ≡ len = omega arith in rw k (refl, sym (drop-drop len u a))
      | inr e ↦
          let k : min len (length a - u) ≡ length a - u = omega arith in
          let l : length (drop u a) ≤ len = rw length-drop (omega arith) in
          let j : length (drop u a) ≤ length a - u = rw length-drop (omega arith) in
          rw k (take_all (length a - u) (drop u a) j ∙ sym (take_all len (drop u a) l), sym (drop-drop (length a - u) u a) ∙ (drop_all (length a - u) (drop u a) j ∙ sym (drop_all len (drop u a) l)))
    ]

-- the capacity as a sum over the descriptors
pub capacity_sum : (ds : List Descriptor) → sum_by (λ d. cond (writable d) d.len 0) ds ≡ capacity ds
unfolding capacity
capacity_sum [] = refl
capacity_sum (d ∷ ds) = sum_by-cons _ d ds ∙ ap (λ n. cond (writable d) d.len 0 + n) (capacity_sum ds)
