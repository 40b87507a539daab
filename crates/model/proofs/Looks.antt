-- What a look tells, and that it depends on the descriptors and the available ring alone.
use Rattle.std.proofs.Common.{◌≡◌, ℕ, zero, suc, ◌+◌, ◌-◌, ◌*◌, ◌%◌, ◌<◌, ◌≤◌, Bool, true, false, cond, eqb, ltb, leb, ◌⊎◌, List, [], ◌∷◌, ◌++◌, length, get_or, take, drop, sym, refl, ap, ◌∙◌, ap₂, inl, inr, arith}
use Rattle.std.proofs.lemmas.List.{ext_get_or, length-take, length-drop, get_or-take, get_or-drop}
use Rattle.std.proofs.lemmas.Bool.{leb-true, le-leb, eqb-true, eqb-false, ne_eqb, ltb-true, cond_both, cases_Bool}
use Rattle.vring.specs.Words.{word}
use Rattle.vring.specs.Rings.{Ring, available_at, used_at, ends_at, head_at}
use Rattle.chains.specs.Descriptors.{writable, descriptor_at, next_at}
use Rattle.chains.specs.Chains.{Walk, bad, goes, chain_from}
use Rattle.chains.specs.Usable.{usable}
use Rattle.chains.specs.Laws.{AllFit}
use Rattle.chains.specs.declared.descriptor.Descriptor.{Descriptor}
use Rattle.transfer.specs.Requests.{request}
use Rattle.model.specs.Serving.{pending, head, chain, regions, Look, nothing, halt, job, look_chain, offer, look}
use Rattle.model.specs.Promises.{Writes, Reads}
use Rattle.model.proofs.Rings.{Stands, place_lt, head_round}

-- ## Parts that keep clear of the ring
pub writes_clear : (r : Ring) (n : ℕ) (ds : List Descriptor) (a : ℕ) → AllFit (regions r) n ds → Writes ds a → (a < n) × ((a < r.base) ⊎ (ends_at r ≤ a))
writes_clear r n [] a f w = absurd w
writes_clear r n (d ∷ ds) a f w =
    elim w [
      | inl p ↦ (omega (arith, f.0.inside, p), elim f.0.apart.0 [ inl l ↦ inl (omega (arith, p)) | inr g ↦ inr (omega (arith, p)) ])
      | inr q ↦ writes_clear r n ds a f.1 q
    ]

pub reads_clear : (r : Ring) (n : ℕ) (ds : List Descriptor) (a : ℕ) → AllFit (regions r) n ds → Reads ds a → (a < n) × ((a < r.base) ⊎ (ends_at r ≤ a))
reads_clear r n [] a f w = absurd w
reads_clear r n (d ∷ ds) a f w =
    elim w [
      | inl p ↦ (omega (arith, f.0.inside, p), elim f.0.apart.0 [ inl l ↦ inl (omega (arith, p)) | inr g ↦ inr (omega (arith, p)) ])
      | inr q ↦ reads_clear r n ds a f.1 q
    ]

-- ## What an offer is
pub record Offered (r : Ring) (m : List ℕ) (k i : ℕ) (ds : List Descriptor) (q : List ℕ) : Type 0 where
  pub first : head r m k ≡ i
  pub follows : chain r m (head r m k) ≡ goes ds
  pub good : usable (regions r) (length m) false ds ≡ true
  pub asks : q ≡ request m ds

look_chain_job : (r : Ring) (m : List ℕ) (h i : ℕ) (c : Walk) (ds : List Descriptor) (q : List ℕ) → look_chain r m h c ≡ job i ds q →
    (h ≡ i) × (c ≡ goes ds) × (usable (regions r) (length m) false ds ≡ true) × (q ≡ request m ds)
unfolding look_chain
look_chain_job r m h i bad ds q e = let z : ◌≡◌ {A = ℕ} 0 1 = cc in absurd (omega arith)
look_chain_job r m h i (goes cs) ds q e =
    cond_both (usable (regions r) (length m) false cs) (job h cs (request m cs)) halt
    (λ l. l ≡ job i ds q → (h ≡ i) × (goes cs ≡ goes ds) × (usable (regions r) (length m) false ds ≡ true) × (q ≡ request m ds))
    (λ u p. let s : cs ≡ ds = cc in (cc, cc, cc, cc))
    (λ u p. let z : ◌≡◌ {A = ℕ} 0 1 = cc in absurd (omega arith))
    e

look_chain_not_nothing : (r : Ring) (m : List ℕ) (h : ℕ) (c : Walk) → look_chain r m h c ≡ nothing → ⊥
unfolding look_chain
look_chain_not_nothing r m h bad e = let z : ◌≡◌ {A = ℕ} 0 1 = cc in omega arith
look_chain_not_nothing r m h (goes cs) e =
    cond_both (usable (regions r) (length m) false cs) (job h cs (request m cs)) halt (λ l. l ≡ nothing → ⊥)
    (λ u q. let z : ◌≡◌ {A = ℕ} 0 1 = cc in omega arith)
    (λ u q. let z : ◌≡◌ {A = ℕ} 0 1 = cc in omega arith)
    e

pub offer_job : (r : Ring) (m : List ℕ) (k i : ℕ) (ds : List Descriptor) (q : List ℕ) → offer r m k ≡ job i ds q → Offered r m k i ds q
unfolding offer
offer_job r m k i ds q e =
    let p = look_chain_job r m (head r m k) i (chain r m (head r m k)) ds q e in
    record { first = p.0; follows = p.1; good = p.2; asks = p.3 }

pub job_offer : (r : Ring) (m : List ℕ) (k i : ℕ) (ds : List Descriptor) (q : List ℕ) → Offered r m k i ds q → offer r m k ≡ job i ds q
unfolding offer look_chain
job_offer r m k i ds q j = rw (j.follows, j.good, j.first, j.asks)

offer_not_nothing : (r : Ring) (m : List ℕ) (k : ℕ) → offer r m k ≡ nothing → ⊥
unfolding offer
offer_not_nothing r m k e = look_chain_not_nothing r m (head r m k) (chain r m (head r m k)) e

-- ## Cases of a look
pub look_cases : (r : Ring) (m : List ℕ) (s : ℕ) (P : Look → Type 0) →
    (pending r m s ≡ 0 → P nothing) → P halt →
    ((i : ℕ) (ds : List Descriptor) (q : List ℕ) → 0 < pending r m s → pending r m s ≤ r.size → offer r m s ≡ job i ds q → P (job i ds q)) → P (look r m s)
unfolding look
look_cases r m s P pn ph pj =
    cond_both (eqb (pending r m s) 0) nothing (cond (leb (pending r m s) r.size) (offer r m s) halt) P
    (λ e. pn (eqb-true (pending r m s) 0 e))
    (λ e. cond_both (leb (pending r m s) r.size) (offer r m s) halt P
    (λ f. go (omega (arith, eqb-false (pending r m s) 0 e)) (leb-true (pending r m s) r.size f) (offer r m s) refl)
    (λ f. ph))
  where
    go : 0 < pending r m s → pending r m s ≤ r.size → (l : Look) → offer r m s ≡ l → P l
    go h1 h2 nothing q = absurd (offer_not_nothing r m s q)
    go h1 h2 halt q = ph
    go h1 h2 (job i ds x) q = pj i ds x h1 h2 q

pub look_job : (r : Ring) (m : List ℕ) (s i : ℕ) (ds : List Descriptor) (x : List ℕ) → 0 < pending r m s → pending r m s ≤ r.size → offer r m s ≡ job i ds x → look r m s ≡ job i ds x
unfolding look
look_job r m s i ds x h1 h2 q = rw (ne_eqb (pending r m s) 0 (omega arith), le-leb (pending r m s) r.size h2) q

-- ## Memories that agree in the ring
abbrev pub SameRing : Ring → (m m' : List ℕ) → Type 0
SameRing r m m' = (a : ℕ) → r.base ≤ a → a < used_at r → get_or m' a 0 ≡ get_or m a 0

word_same : (m m' : List ℕ) (a : ℕ) → get_or m' a 0 ≡ get_or m a 0 → get_or m' (a + 1) 0 ≡ get_or m (a + 1) 0 → word m' a ≡ word m a
word_same m m' a p q = ap₂ (λ (x y : ℕ). x + 256 * y) p q

pub word_in : (t e : ℕ) (m m' : List ℕ) → ((a : ℕ) → t ≤ a → a < e → get_or m' a 0 ≡ get_or m a 0) → (a : ℕ) → t ≤ a → a + 1 < e → word m' a ≡ word m a
word_in t e m m' h a l g = word_same m m' a (h a l (omega arith)) (h (a + 1) (omega arith) g)

descriptor_same : (m m' : List ℕ) (p : ℕ) → word m' p ≡ word m p → word m' (p + 2) ≡ word m (p + 2) → word m' (p + 4) ≡ word m (p + 4) → descriptor_at m' p ≡ descriptor_at m p
unfolding descriptor_at
descriptor_same m m' p x y z = go _ _ _ _ _ _ x y z
  where
    go : (a b c a' b' c' : ℕ) → a' ≡ a → b' ≡ b → c' ≡ c → ◌≡◌ {A = Descriptor} (record { addr = a'; len = b'; flags = c' }) (record { addr = a; len = b; flags = c })
    go a b c a' b' c' x y z = rw (x, y, z)

next_same : (m m' : List ℕ) (p : ℕ) → word m' (p + 6) ≡ word m (p + 6) → next_at m' p ≡ next_at m p
unfolding next_at
next_same m m' p h = h

pub chain_same : (f t n : ℕ) (m m' : List ℕ) → ((a : ℕ) → t ≤ a → a < t + 8 * n → get_or m' a 0 ≡ get_or m a 0) → (i : ℕ) → chain_from f t n m' i ≡ chain_from f t n m i
unfolding chain_from
chain_same zero t n m m' h i = refl
chain_same (suc f) t n m m' h i =
    elim (cases_Bool (ltb i n)) [
      | inl e ↦
          let l : i < n = ltb-true i n e in
          let p = t + 8 * i in
          let at : (k : ℕ) → k ≤ 6 → word m' (p + k) ≡ word m (p + k) = λ k b. word_in t (t + 8 * n) m m' h (p + k) (omega arith) (omega arith) in
          let same = descriptor_same m m' p (word_in t (t + 8 * n) m m' h p (omega arith) (omega arith)) (at 2 (omega arith)) (at 4 (omega arith)) in
          rw (e, same, next_same m m' p (at 6 (omega arith)), chain_same f t n m m' h (next_at m p))
      | inr e ↦ rw e
    ]

pub head_same : (r : Ring) (n : ℕ) (m m' : List ℕ) (k : ℕ) → Stands r n → SameRing r m m' → head r m' k ≡ head r m k
unfolding head
head_same r n m m' k s h = let l = place_lt r n k s in word_in r.base (used_at r) m m' h (head_at r k) (omega arith) (omega arith)

pub pending_same : (r : Ring) (n : ℕ) (m m' : List ℕ) (s : ℕ) → Stands r n → SameRing r m m' → pending r m' s ≡ pending r m s
unfolding pending
pending_same r n m m' s st h =
    ap (λ (w : ℕ). (w + 65536 - s) % 65536) (word_in r.base (used_at r) m m' h (available_at r) (omega arith) (omega (arith, st.some)))

pub ring_chain_same : (r : Ring) (m m' : List ℕ) (i : ℕ) → SameRing r m m' → chain r m' i ≡ chain r m i
unfolding chain
ring_chain_same r m m' i h = chain_same r.size r.base r.size m m' (λ a l g. h a l (omega arith)) i

-- ## Memories that agree in what is read
pub part_same : (m m' : List ℕ) (a n : ℕ) → length m' ≡ length m → ((k : ℕ) → a ≤ k → k < a + n → get_or m' k 0 ≡ get_or m k 0) → take n (drop a m') ≡ take n (drop a m)
part_same m m' a n e h =
    ext_get_or 0 (take n (drop a m')) (take n (drop a m)) (simp (length-take, length-drop, e))
    (λ i l. let il : i < n = omega (arith, simp length-take at l) in simp (get_or-take, get_or-drop) (h (a + i) (omega arith) (omega arith)))

pub request_same : (m m' : List ℕ) (ds : List Descriptor) → length m' ≡ length m → ((a : ℕ) → Reads ds a → get_or m' a 0 ≡ get_or m a 0) → request m' ds ≡ request m ds
unfolding request
request_same m m' [] e h = refl
request_same m m' (d ∷ ds) e h = go (writable d) refl (request_same m m' ds e (λ a p. h a (inr p)))
  where
    go : (w : Bool) → writable d ≡ w → request m' ds ≡ request m ds →
        cond w (request m' ds) (take d.len (drop d.addr m') ++ request m' ds) ≡ cond w (request m ds) (take d.len (drop d.addr m) ++ request m ds)
    go true w ih = ih
    go false w ih = rw (ih, part_same m m' d.addr d.len e (λ k l g. h k (inl (w, (l, g)))))

-- an offer stays the same in a memory that agrees in the ring and in what the chain reads
pub offer_same : (r : Ring) (m m' : List ℕ) (k i : ℕ) (ds : List Descriptor) (q : List ℕ) → Stands r (length m) → length m' ≡ length m → SameRing r m m' →
    ((a : ℕ) → Reads ds a → get_or m' a 0 ≡ get_or m a 0) → offer r m k ≡ job i ds q → offer r m' k ≡ job i ds q
offer_same r m m' k i ds q s e h g o =
    let j = offer_job r m k i ds q o in
    let hd = head_same r (length m) m m' k s h in
    job_offer r m' k i ds q (record {
      first = hd ∙ j.first;
      follows = rw hd (ring_chain_same r m m' (head r m k) h ∙ j.follows);
      good = rw e j.good;
      asks = j.asks ∙ sym (request_same m m' ds e g);
    })

-- a count and the same count modulo 65,536 have the same head, and offer the same chain
pub head_of_round : (r : Ring) (m : List ℕ) (k : ℕ) → Stands r (length m) → head r m (k % 65536) ≡ head r m k
unfolding head
head_of_round r m k s = ap (λ (a : ℕ). word m a) (head_round r (length m) k s)

pub offer_round : (r : Ring) (m : List ℕ) (k : ℕ) → Stands r (length m) → offer r m (k % 65536) ≡ offer r m k
unfolding offer
offer_round r m k s = rw (head_of_round r m k s)
