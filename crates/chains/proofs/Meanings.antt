-- What the definitions of chains mean.
use Rattle.std.proofs.Common.{◌≡◌, ℕ, zero, suc, ◌+◌, ◌*◌, ◌≤◌, Bool, true, false, cond, not, ◌&&◌, ◌||◌, ltb, leb, List, [], ◌∷◌, length, refl, inl, inr, arith}
use Rattle.std.proofs.lemmas.Bool.{and_parts, and_from, or_cases, or_left, or_right, leb-true, le-leb, ltb-true, lt-ltb, cond_both, cases_Bool, not-true, both_ways}
use Rattle.chains.specs.Descriptors.{has_next, writable, descriptor_at, next_at}
use Rattle.chains.specs.Chains.{Walk, bad, goes, with_first, chain_from}
use Rattle.chains.specs.Usable.{clear, fits, usable}
use Rattle.chains.specs.Laws.{Linked, last, more, ChainMeans, AllClear, Fit, AllFit, AllWritable, InOrder, UsableMeans}
use Rattle.chains.specs.declared.descriptor.Descriptor.{Descriptor}
use Rattle.chains.specs.declared.region.Region.{Region}

-- ## Chains
with_first_goes : (d : Descriptor) (c : Walk) (ds : List Descriptor) → with_first d c ≡ goes ds → (es : List Descriptor) × (c ≡ goes es) × (ds ≡ d ∷ es)
with_first_goes d bad ds e = let z : ◌≡◌ {A = ℕ} 0 1 = cc in absurd (omega arith)
with_first_goes d (goes es) ds e = (es, refl, cc)

pub linked : (f t n : ℕ) (m : List ℕ) (i : ℕ) (ds : List Descriptor) → chain_from f t n m i ≡ goes ds → Linked t n m i ds × (length ds ≤ f)
unfolding chain_from
linked zero t n m i ds e = let z : ◌≡◌ {A = ℕ} 0 1 = cc in absurd (omega arith)
linked (suc f) t n m i ds e =
    let d = descriptor_at m (t + 8 * i) in
    let rest = chain_from f t n m (next_at m (t + 8 * i)) in
    cond_both (ltb i n) (cond (has_next d) (with_first d rest) (goes (d ∷ []))) bad
    (λ c. c ≡ goes ds → Linked t n m i ds × (length ds ≤ suc f))
    (λ l. cond_both (has_next d) (with_first d rest) (goes (d ∷ []))
    (λ c. c ≡ goes ds → Linked t n m i ds × (length ds ≤ suc f))
    (λ g q.
    let w = with_first_goes d rest ds q in
    let ih = linked f t n m (next_at m (t + 8 * i)) w.0 w.1 in
    rw w.2 (more (ltb-true i n l) g ih.0, omega (arith, ih.1)))
    (λ g q. let w : ds ≡ d ∷ [] = cc in rw w (last (ltb-true i n l) g, omega arith)))
    (λ _ q. let z : ◌≡◌ {A = ℕ} 0 1 = cc in absurd (omega arith))
    e

unlinked : (f t n : ℕ) (m : List ℕ) {i : ℕ} {ds : List Descriptor} → Linked t n m i ds → length ds ≤ f → chain_from f t n m i ≡ goes ds
unfolding chain_from
unlinked zero t n m (last l g) h = absurd (omega arith)
unlinked zero t n m (more l g c) h = absurd (omega arith)
unlinked (suc f) t n m (last {i = i} l g) h = rw (lt-ltb i n l, g)
unlinked (suc f) t n m (more {i = i} l g c) h = rw (lt-ltb i n l, g, unlinked f t n m c (omega arith))

pub chain_means : ChainMeans
chain_means f t n m i ds = (λ e. linked f t n m i ds e, λ c. unlinked f t n m c.0 c.1)

-- ## Parts
all_clear : (gs : List Region) (d : Descriptor) → clear gs d ≡ true → AllClear gs d
unfolding clear
all_clear [] d h = tt
all_clear (g ∷ gs) d h =
    let p = and_parts (leb (d.addr + d.len) g.from || leb g.to d.addr) (clear gs d) h in (
      elim (or_cases (leb (d.addr + d.len) g.from) (leb g.to d.addr) p.0) [
        | inl e ↦ inl (leb-true (d.addr + d.len) g.from e)
        | inr e ↦ inr (leb-true g.to d.addr e)
      ],
      all_clear gs d p.1,
    )

clear_from : (gs : List Region) (d : Descriptor) → AllClear gs d → clear gs d ≡ true
unfolding clear
clear_from [] d h = refl
clear_from (g ∷ gs) d h =
    and_from (leb (d.addr + d.len) g.from || leb g.to d.addr) (clear gs d)
    (elim h.0 [
      | inl l ↦ or_left (leb (d.addr + d.len) g.from) (leb g.to d.addr) (le-leb (d.addr + d.len) g.from l)
      | inr l ↦ or_right (leb (d.addr + d.len) g.from) (leb g.to d.addr) (le-leb g.to d.addr l)
    ])
    (clear_from gs d h.1)

fit : (gs : List Region) (n : ℕ) (d : Descriptor) → fits gs n d ≡ true → Fit gs n d
unfolding fits
fit gs n d h =
    let p = and_parts (leb (d.addr + d.len) n) (clear gs d) h in
    record { inside = leb-true (d.addr + d.len) n p.0; apart = all_clear gs d p.1 }

fit_fits : (gs : List Region) (n : ℕ) (d : Descriptor) → Fit gs n d → fits gs n d ≡ true
unfolding fits
fit_fits gs n d f = and_from (leb (d.addr + d.len) n) (clear gs d) (le-leb (d.addr + d.len) n f.inside) (clear_from gs d f.apart)

pub all_fit : (gs : List Region) (n : ℕ) (w : Bool) (ds : List Descriptor) → usable gs n w ds ≡ true → AllFit gs n ds
unfolding usable
all_fit gs n w [] h = tt
all_fit gs n w (d ∷ ds) h =
    let p = and_parts (fits gs n d) (cond (writable d) (usable gs n true ds) (not w && usable gs n w ds)) h in (
      fit gs n d p.0,
      cond_both (writable d) (usable gs n true ds) (not w && usable gs n w ds) (λ v. v ≡ true → AllFit gs n ds)
          (λ _ e. all_fit gs n true ds e)
          (λ _ e. all_fit gs n w ds (and_parts (not w) (usable gs n w ds) e).1)
          p.1,
    )

in_order : (gs : List Region) (n : ℕ) (w : Bool) (ds : List Descriptor) → usable gs n w ds ≡ true → (w ≡ true → AllWritable ds) × InOrder ds
unfolding usable
in_order gs n w [] h = (λ _. tt, tt)
in_order gs n w (d ∷ ds) h =
    let p = and_parts (fits gs n d) (cond (writable d) (usable gs n true ds) (not w && usable gs n w ds)) h in
    cond_both (writable d) (usable gs n true ds) (not w && usable gs n w ds) (λ v. v ≡ true → (w ≡ true → AllWritable (d ∷ ds)) × InOrder (d ∷ ds))
    (λ y e. let ih = in_order gs n true ds e in (λ _. (y, ih.0 refl), (λ _. ih.0 refl, ih.1)))
    (λ y e.
    let q = and_parts (not w) (usable gs n w ds) e in
    let ih = in_order gs n w ds q.1 in
    (λ t. absurd (both_ways w (not-true w q.0) t), (λ t. absurd (both_ways (writable d) y t), ih.1)))
    p.1

usable_from : (gs : List Region) (n : ℕ) (w : Bool) (ds : List Descriptor) → AllFit gs n ds → (w ≡ true → AllWritable ds) → InOrder ds → usable gs n w ds ≡ true
unfolding usable
usable_from gs n w [] f a o = refl
usable_from gs n w (d ∷ ds) f a o =
    and_from (fits gs n d) (cond (writable d) (usable gs n true ds) (not w && usable gs n w ds)) (fit_fits gs n d f.0)
    (cond_both (writable d) (usable gs n true ds) (not w && usable gs n w ds) (λ v. v ≡ true)
    (λ y. usable_from gs n true ds f.1 (λ _. o.0 y) o.1)
    (λ y. elim (cases_Bool w) [
      | inl t ↦ absurd (both_ways (writable d) y (a t).0)
      | inr t ↦ and_from (not w) (usable gs n w ds) (rw t) (usable_from gs n w ds f.1 (λ u. absurd (both_ways w t u)) o.1)
    ]))

pub usable_means : UsableMeans
usable_means gs n ds = (
  λ e. (all_fit gs n false ds e, (in_order gs n false ds e).1),
  λ p. usable_from gs n false ds p.0 (λ t. absurd (both_ways false refl t)) p.1,
)
