-- What a finished chain leaves: how long memory stays, and where it changes.
use Rattle.std.proofs.Common.{◌≡◌, ℕ, zero, suc, ◌+◌, ◌<◌, ◌≤◌, ◌⊎◌, List, [], ◌∷◌, ◌++◌, length, get_or, take, drop, refl, ◌∙◌, inl, inr, arith}
use Rattle.std.proofs.lemmas.List.{length-take}
use Rattle.std.proofs.lemmas.Bool.{cond_both}
use Rattle.vring.specs.Words.{two, set_bytes}
use Rattle.vring.specs.Rings.{Ring, used_at, ends_at, entry_at}
use Rattle.vring.proofs.Bytes.{set_length, set_where, two_length}
use Rattle.chains.specs.Descriptors.{writable}
use Rattle.chains.specs.Laws.{AllFit}
use Rattle.chains.specs.declared.descriptor.Descriptor.{Descriptor}
use Rattle.chains.specs.declared.region.Region.{Region}
use Rattle.transfer.specs.Responses.{filled, following, used, finished, Within}
use Rattle.transfer.proofs.Plainly.{put_fits, filled_length}
use Rattle.model.specs.Serving.{regions}
use Rattle.model.specs.Promises.{Writes, InCount, InEntry}
use Rattle.model.proofs.Rings.{Stands, entry_within}
use Rattle.model.proofs.Looks.{writes_clear, SameRing}

-- ## The writable parts
pub within_all : (gs : List Region) (n : ℕ) (ds : List Descriptor) → AllFit gs n ds → Within n ds
within_all gs n [] f k e l = absurd (omega arith)
within_all gs n (d ∷ ds) f zero e l = f.0.inside
within_all gs n (d ∷ ds) f (suc k) e l = within_all gs n ds f.1 k e (omega arith)

pub filled_where : (gs : List Region) (n : ℕ) (ds : List Descriptor) (xs m : List ℕ) → length m ≡ n → AllFit gs n ds → (a : ℕ) → (get_or (filled ds xs m) a 0 ≡ get_or m a 0) ⊎ Writes ds a
unfolding filled
filled_where gs n [] xs m e f a = inl refl
filled_where gs n (d ∷ ds) xs m e f a =
    cond_both (writable d) (filled ds (drop d.len xs) (set_bytes m d.addr (take d.len xs))) (filled ds xs m) (λ v. (get_or v a 0 ≡ get_or m a 0) ⊎ Writes (d ∷ ds) a)
    (λ w.
    let p = put_fits n d xs m e f.0.inside in
    elim (set_where m d.addr (take d.len xs) a p) [
      | inl q ↦
          elim (filled_where gs n ds (drop d.len xs) (set_bytes m d.addr (take d.len xs)) (set_length m d.addr (take d.len xs) p ∙ e) f.1 a) [
            | inl s ↦ inl (s ∙ q)
            | inr s ↦ inr (inr s)
          ]
      | inr q ↦ inr (inl (w, (q.0, omega (arith, q.1, length-take d.len xs))))
    ])
    (λ _. elim (filled_where gs n ds xs m e f.1 a) [ inl s ↦ inl s | inr s ↦ inr (inr s) ])

-- ## The used ring
pub entry_length : (i n : ℕ) → length (two i ++ two n) ≡ 4
unfolding two
entry_length i n = refl

module _ (r : Ring) (k i n : ℕ) (m : List ℕ) (st : Stands r (length m)) where
  pub put_entry : entry_at r k + length (two i ++ two n) ≤ length m
  put_entry = let w = entry_within r k (length m) st in omega (arith, entry_length i n)

  pub put_count : used_at r + length (two (following k)) ≤ length (set_bytes m (entry_at r k) (two i ++ two n))
  put_count =
      let w = entry_within r k (length m) st in
      omega (arith, two_length (following k), set_length m (entry_at r k) (two i ++ two n) put_entry)

  pub used_length : length (used r k i n m) ≡ length m
  unfolding used
  used_length =
      set_length (set_bytes m (entry_at r k) (two i ++ two n)) (used_at r) (two (following k)) put_count
      ∙ set_length m (entry_at r k) (two i ++ two n) put_entry

  pub used_where : (a : ℕ) → (get_or (used r k i n m) a 0 ≡ get_or m a 0) ⊎ (InCount r a ⊎ InEntry r k a)
  unfolding used
  used_where a =
      elim (set_where (set_bytes m (entry_at r k) (two i ++ two n)) (used_at r) (two (following k)) a put_count) [
        | inl p ↦
            elim (set_where m (entry_at r k) (two i ++ two n) a put_entry) [
              | inl q ↦ inl (p ∙ q)
              | inr q ↦ inr (inr (q.0, omega (arith, q.1, entry_length i n)))
            ]
        | inr p ↦ inr (inl (p.0, omega (arith, p.1, two_length (following k))))
      ]

-- it lies in the ring, behind what is available
pub used_behind : (r : Ring) (k n a : ℕ) → Stands r n → InCount r a ⊎ InEntry r k a → (used_at r ≤ a) × (a < ends_at r)
used_behind r k n a st h = let w = entry_within r k n st in elim h [ inl p ↦ (omega arith, omega arith) | inr p ↦ (omega arith, omega arith) ]

-- ## A finished chain
module _ (r : Ring) (ds : List Descriptor) (xs m : List ℕ) (f : AllFit (regions r) (length m) ds) where
  pub filled_long : length (filled ds xs m) ≡ length m
  filled_long = filled_length (length m) ds xs m refl (within_all (regions r) (length m) ds f)

  pub filled_stands : Stands r (length m) → Stands r (length (filled ds xs m))
  filled_stands st = rw filled_long st

module _ (r : Ring) (k i : ℕ) (ds : List Descriptor) (xs m : List ℕ) (st : Stands r (length m)) (f : AllFit (regions r) (length m) ds) where
  pub finished_length : length (finished r k i ds xs m) ≡ length m
  unfolding finished
  finished_length = used_length r k i (length xs) (filled ds xs m) (filled_stands r ds xs m f st) ∙ filled_long r ds xs m f

  pub finished_where : (a : ℕ) → (get_or (finished r k i ds xs m) a 0 ≡ get_or m a 0) ⊎ (InCount r a ⊎ (InEntry r k a ⊎ Writes ds a))
  unfolding finished
  finished_where a =
      elim (used_where r k i (length xs) (filled ds xs m) (filled_stands r ds xs m f st) a) [
        | inl p ↦ elim (filled_where (regions r) (length m) ds xs m refl f a) [ inl e ↦ inl (p ∙ e) | inr w ↦ inr (inr (inr w)) ]
        | inr p ↦ elim p [ inl u ↦ inr (inl u) | inr u ↦ inr (inr (inl u)) ]
      ]

  -- the descriptors and the available ring are as they were
  pub finished_ring : SameRing r m (finished r k i ds xs m)
  finished_ring a l g =
      elim (finished_where a) [
        | inl p ↦ p
        | inr p ↦
            elim p [
              | inl u ↦ absurd (omega arith)
              | inr q ↦
                  elim q [
                    | inl u ↦ let w = entry_within r k (length m) st in absurd (omega arith)
                    | inr v ↦ let w = writes_clear r (length m) ds a f v in absurd (omega arith)
                  ]
            ]
      ]
