-- Steps of following a chain, as the code takes them.
use Rattle.std.proofs.Common.{◌≡◌, ℕ, zero, suc, ◌+◌, ◌-◌, ◌*◌, ◌<◌, ◌≤◌, true, false, List, [], ◌∷◌, ◌++◌, refl, ap, ◌∙◌, append_assoc, arith, Result, Err, IsOk}
use Rattle.std.proofs.lemmas.Bool.{lt-ltb, le-ltb}
use Rattle.vring.specs.Programs.{Prog, ret, then, pair, Acts, ends, leaves}
use Rattle.vring.proofs.Binds.{ends_then, leaves_then, ends_by, leaves_by, ends_get, leaves_get}
use Rattle.chains.specs.Descriptors.{has_next, descriptor_prog}
use Rattle.chains.specs.Chains.{Walk, bad, goes, with_first, link_prog, chain_prog, Follows}
use Rattle.chains.specs.declared.breach.Breach.{Breach}
use Rattle.chains.specs.declared.descriptor.Descriptor.{Descriptor}

pub none : (f t n i : ℕ) → f ≡ 0 → chain_prog f t n i ≡ ret bad
unfolding chain_prog
none f t n i e = rw e refl

pub no_such : (f t n i : ℕ) → n ≤ i → chain_prog f t n i ≡ ret bad
unfolding chain_prog
no_such zero t n i h = refl
no_such (suc f) t n i h = rw (le-ltb i n h) refl

one_more : (f t n i : ℕ) → 0 < f → i < n → chain_prog f t n i ≡ then (descriptor_prog (t + 8 * i)) (λ d. link_prog (t + 8 * i) d (λ j. chain_prog (f - 1) t n j))
unfolding chain_prog
one_more zero t n i p h = absurd (omega arith)
one_more (suc f) t n i p h = let e : suc f - 1 ≡ f = omega arith in rw (lt-ltb i n h) (rw e refl)

follows_first : (d : Descriptor) (rest : Walk) (r : Result (Unit {0}) Breach) (xs ys zs : List Descriptor) → ys ≡ xs ++ d ∷ [] → Follows rest r ys zs → Follows (with_first d rest) r xs zs
follows_first d bad r xs ys zs e h = h
follows_first d (goes ds) r xs ys zs e h = (h.0, h.1 ∙ (ap (λ l. l ++ ds) e ∙ append_assoc xs (d ∷ []) ds))

module _ {M : Type 0} (acts : Acts M) where
  -- a chain that goes on where it may not is bad, and nothing is read
  pub bad_here : (p : Prog Walk) (m : M) (xs ys : List Descriptor) → p ≡ ret bad → Follows (ends acts p m) (Err (record {})) xs ys × (leaves acts p m ≡ m)
  bad_here p m xs ys e = rw e (refl, refl)

  -- a descriptor d was read, which left m₁, and was listed
  module _ (f t n : ℕ) (m m₁ : M) (i : ℕ) (d : Descriptor) (xs ys : List Descriptor) (p : 0 < f) (h : i < n)
      (e : d ≡ ends acts (descriptor_prog (t + 8 * i)) m) (e₁ : m₁ ≡ leaves acts (descriptor_prog (t + 8 * i)) m) (l : ys ≡ xs ++ d ∷ []) where
    read_ends : ends acts (chain_prog f t n i) m ≡ ends acts (link_prog (t + 8 * i) d (λ j. chain_prog (f - 1) t n j)) m₁
    read_ends = ap (λ q. ends acts q m) (one_more f t n i p h) ∙ ends_by acts (descriptor_prog (t + 8 * i)) (λ d. link_prog (t + 8 * i) d (λ j. chain_prog (f - 1) t n j)) m m₁ d e e₁

    read_leaves : leaves acts (chain_prog f t n i) m ≡ leaves acts (link_prog (t + 8 * i) d (λ j. chain_prog (f - 1) t n j)) m₁
    read_leaves = ap (λ q. leaves acts q m) (one_more f t n i p h) ∙ leaves_by acts (descriptor_prog (t + 8 * i)) (λ d. link_prog (t + 8 * i) d (λ j. chain_prog (f - 1) t n j)) m m₁ d e e₁

    pub ends_here : (r : Result (Unit {0}) Breach) → IsOk r → has_next d ≡ false → Follows (ends acts (chain_prog f t n i) m) r xs ys × (m₁ ≡ leaves acts (chain_prog f t n i) m)
    unfolding link_prog
    ends_here r o g = rw (read_ends, read_leaves) (rw g ((o, l), refl))

    -- and x, the place of the one behind it, which left m₂
    pub goes_on : (m₂ : M) (x : ℕ) → has_next d ≡ true → x ≡ acts.reads m₁ pair (t + 8 * i + 6) → m₂ ≡ acts.after m₁ pair (t + 8 * i + 6) →
        (leaves acts (chain_prog (f - 1) t n x) m₂ ≡ leaves acts (chain_prog f t n i) m)
        × ((r : Result (Unit {0}) Breach) (zs : List Descriptor) → Follows (ends acts (chain_prog (f - 1) t n x) m₂) r ys zs → Follows (ends acts (chain_prog f t n i) m) r xs zs)
    unfolding link_prog
    goes_on m₂ x g k k₁ =
        let next = λ (j : ℕ). then (chain_prog (f - 1) t n j) (λ w. ret (with_first d w)) in
        rw (read_ends, read_leaves) (rw g
        (rw (ends_get acts pair (t + 8 * i + 6) next m₁ m₂ x k k₁, leaves_get acts pair (t + 8 * i + 6) next m₁ m₂ x k k₁)
        (rw (ends_then acts (chain_prog (f - 1) t n x) (λ w. ret (with_first d w)) m₂, leaves_then acts (chain_prog (f - 1) t n x) (λ w. ret (with_first d w)) m₂)
        (refl, λ r zs v. follows_first d _ r xs ys zs l v))))
