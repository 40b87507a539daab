-- What a look finds, step by step as the code takes it.
use Rattle.std.proofs.Common.{◌≡◌, ℕ, ◌<◌, ◌≤◌, Bool, true, false, cond, eqb, leb, List, [], ◌++◌, sym, refl, ap, ◌∙◌, Result, Ok, Err, IsOk, IsErr}
use Rattle.std.specs.Result.{is_err}
use Rattle.std.proofs.lemmas.Bool.{eq-eqb, ne_eqb, le-leb, lt-leb, true≢false}
use Rattle.vring.specs.Programs.{Prog, ret, then, pair, Acts, ends, leaves}
use Rattle.vring.specs.Rings.{Ring, available_at, head_at}
use Rattle.vring.specs.Layouts.{ring_of}
use Rattle.vring.specs.declared.layout.Layout.{Layout}
use Rattle.vring.proofs.Binds.{ends_by, leaves_by, ends_get, leaves_get}
use Rattle.chains.specs.Chains.{Walk, bad, goes, chain_prog, listed, Follows}
use Rattle.chains.specs.Usable.{usable}
use Rattle.chains.specs.declared.breach.Breach.{Breach}
use Rattle.chains.specs.declared.descriptor.Descriptor.{Descriptor}
use Rattle.transfer.specs.Requests.{request_prog}
use Rattle.model.specs.Serving.{pending_by, regions, Look, nothing, halt, job}
use Rattle.serving.specs.Turns.{take_prog, next_prog, look_prog}
use Rattle.serving.specs.Sees.{Sees, Takes}
use Rattle.serving.specs.declared.job.Job.{Job}

-- a chain that was found bad, or good
pub walk_bad : (w : Walk) (a : Result (Unit {0}) Breach) (xs ys : List Descriptor) → IsErr a → Follows w a xs ys → w ≡ bad
walk_bad bad a xs ys e f = refl
walk_bad (goes ds) (Ok u) xs ys e f = absurd (true≢false (sym e))
walk_bad (goes ds) (Err b) xs ys e f = absurd (true≢false (sym f.0))

pub walk_good : (w : Walk) (a : Result (Unit {0}) Breach) (xs ys : List Descriptor) → xs ≡ [] → IsOk a → Follows w a xs ys → w ≡ goes ys
walk_good bad (Ok u) xs ys z e f = absurd (true≢false (sym f))
walk_good bad (Err b) xs ys z e f = absurd (true≢false (sym e))
walk_good (goes ds) a xs ys z e f = ap goes (sym (f.1 ∙ ap (λ l. l ++ ds) z))

-- the head was read and its chain followed, with the answer a, in a view whose layout l says the ring
module _ {M : Type 0} (acts : Acts M) (r : Ring) (l : Layout) (t : ring_of l ≡ r) (n s h : ℕ) (m m₁ m₂ : M)
    (e : h ≡ acts.reads m pair (head_at r s)) (e₁ : m₁ ≡ acts.after m pair (head_at r s)) (a : Result (Unit {0}) Breach) (xs ds : List Descriptor) (z : xs ≡ [])
    (f : Follows (ends acts (chain_prog l.size l.base l.size h) m₁) a xs ds) (k : m₂ ≡ leaves acts (chain_prog l.size l.base l.size h) m₁) where
  abbrev walk : Prog Walk
  walk = chain_prog r.size r.base r.size h

  same_walk : chain_prog l.size l.base l.size h ≡ walk
  same_walk = ap (λ (x : Ring). chain_prog x.size x.base x.size h) t

  next_ends : (w : Walk) → w ≡ ends acts walk m₁ → ends acts (next_prog r n s) m ≡ ends acts (take_prog r n h w) m₂
  unfolding next_prog
  next_ends w g =
      ends_get acts pair (head_at r s) (λ x. then (chain_prog r.size r.base r.size x) (λ v. take_prog r n x v)) m m₁ h e e₁
      ∙ ends_by acts walk (λ v. take_prog r n h v) m₁ m₂ w g (k ∙ ap (λ p. leaves acts p m₁) same_walk)

  next_leaves : (w : Walk) → w ≡ ends acts walk m₁ → leaves acts (next_prog r n s) m ≡ leaves acts (take_prog r n h w) m₂
  unfolding next_prog
  next_leaves w g =
      leaves_get acts pair (head_at r s) (λ x. then (chain_prog r.size r.base r.size x) (λ v. take_prog r n x v)) m m₁ h e e₁
      ∙ leaves_by acts walk (λ v. take_prog r n h v) m₁ m₂ w g (k ∙ ap (λ p. leaves acts p m₁) same_walk)

  is_bad : IsErr a → bad ≡ ends acts walk m₁
  is_bad b = sym (walk_bad _ a xs ds b f) ∙ ap (λ p. ends acts p m₁) same_walk

  is_good : IsOk a → goes ds ≡ ends acts walk m₁
  is_good b = sym (walk_good _ a xs ds z b f) ∙ ap (λ p. ends acts p m₁) same_walk

  pub next_bad : IsErr a → (ends acts (next_prog r n s) m ≡ halt) × (m₂ ≡ leaves acts (next_prog r n s) m)
  unfolding take_prog
  next_bad b = (next_ends bad (is_bad b), sym (next_leaves bad (is_bad b)))

  pub next_unusable : IsOk a → usable (regions r) n false ds ≡ false → (ends acts (next_prog r n s) m ≡ halt) × (m₂ ≡ leaves acts (next_prog r n s) m)
  unfolding take_prog
  next_unusable b u = (next_ends (goes ds) (is_good b) ∙ rw u refl, sym (next_leaves (goes ds) (is_good b) ∙ rw u refl))

  pub next_ready : (q : List ℕ) (m₃ : M) → IsOk a → usable (regions r) n false ds ≡ true →
      q ≡ ends acts (request_prog 19 ds) m₂ → m₃ ≡ leaves acts (request_prog 19 ds) m₂ →
      (ends acts (next_prog r n s) m ≡ job h ds q) × (m₃ ≡ leaves acts (next_prog r n s) m)
  unfolding take_prog
  next_ready q m₃ b u g g₁ = (
    next_ends (goes ds) (is_good b) ∙ rw u (ends_by acts (request_prog 19 ds) (λ x. ret (job h ds x)) m₂ m₃ q g g₁),
    sym (next_leaves (goes ds) (is_good b) ∙ rw u (leaves_by acts (request_prog 19 ds) (λ x. ret (job h ds x)) m₂ m₃ q g g₁)),
  )

module _ {M : Type 0} (acts : Acts M) (r : Ring) (n s c : ℕ) (m m₁ : M) (e : c ≡ acts.reads m pair (available_at r)) (e₁ : m₁ ≡ acts.after m pair (available_at r)) where
  -- the available count was read
  look_ends : ends acts (look_prog r n s) m ≡ ends acts (cond (eqb (pending_by c s) 0) (ret nothing) (cond (leb (pending_by c s) r.size) (next_prog r n s) (ret halt))) m₁
  unfolding look_prog
  look_ends = ends_get acts pair (available_at r) (λ x. cond (eqb (pending_by x s) 0) (ret nothing) (cond (leb (pending_by x s) r.size) (next_prog r n s) (ret halt))) m m₁ c e e₁

  look_leaves : leaves acts (look_prog r n s) m ≡ leaves acts (cond (eqb (pending_by c s) 0) (ret nothing) (cond (leb (pending_by c s) r.size) (next_prog r n s) (ret halt))) m₁
  unfolding look_prog
  look_leaves = leaves_get acts pair (available_at r) (λ x. cond (eqb (pending_by x s) 0) (ret nothing) (cond (leb (pending_by x s) r.size) (next_prog r n s) (ret halt))) m m₁ c e e₁

  pub look_nothing : pending_by c s ≡ 0 → (ends acts (look_prog r n s) m ≡ nothing) × (m₁ ≡ leaves acts (look_prog r n s) m)
  look_nothing z = let t = eq-eqb (pending_by c s) 0 z in (look_ends ∙ rw t refl, sym (look_leaves ∙ rw t refl))

  pub look_many : (pending_by c s ≡ 0 → ⊥) → r.size < pending_by c s → (ends acts (look_prog r n s) m ≡ halt) × (m₁ ≡ leaves acts (look_prog r n s) m)
  look_many z l =
      let t = ne_eqb (pending_by c s) 0 z in let u = lt-leb (pending_by c s) r.size l in
      (look_ends ∙ rw (t, u) refl, sym (look_leaves ∙ rw (t, u) refl))

  pub look_next : (pending_by c s ≡ 0 → ⊥) → pending_by c s ≤ r.size →
      (ends acts (look_prog r n s) m ≡ ends acts (next_prog r n s) m₁) × (leaves acts (look_prog r n s) m ≡ leaves acts (next_prog r n s) m₁)
  look_next z l =
      let t = ne_eqb (pending_by c s) 0 z in let u = le-leb (pending_by c s) r.size l in
      (look_ends ∙ rw (t, u) refl, look_leaves ∙ rw (t, u) refl)

-- ## The answer of a look
-- the chain that is next was taken, or not
pub not_taken : (l : Look) (j : Job) (a : Result (Unit {0}) Breach) (b : Result Bool Breach) → IsErr a → IsErr b → Takes l a j → Sees l b j
not_taken nothing j a b e f h = absurd h
not_taken halt j a b e f h = f
not_taken (job i ds q) j (Ok u) b e f h = absurd (true≢false (sym e))
not_taken (job i ds q) j (Err u) b e f h = absurd (true≢false (sym h.0))

pub taken : (l : Look) (j : Job) (a : Result (Unit {0}) Breach) → IsOk a → Takes l a j → Sees l (Ok true) j
taken nothing j a e h = absurd h
taken halt j (Ok u) e h = absurd (true≢false (sym h))
taken halt j (Err u) e h = absurd (true≢false (sym e))
taken (job i ds q) j a e h = (refl, h.1, h.2, h.3)

ok_of : {a b : Bool} → ◌≡◌ {A = Result Bool Breach} (Ok a) (Ok b) → a ≡ b
ok_of e = cc

pub seen_nothing : (l : Look) (j : Job) (a : Result Bool Breach) → a ≡ Ok false → Sees l a j → l ≡ nothing
seen_nothing nothing j a z e = refl
seen_nothing halt j a z e = absurd (true≢false (sym e ∙ ap is_err z))
seen_nothing (job h ds q) j a z e = absurd (true≢false (ok_of (sym e.0 ∙ z)))

pub seen_halt : (l : Look) (j : Job) (a : Result Bool Breach) (b : Breach) → a ≡ Err b → Sees l a j → l ≡ halt
seen_halt nothing j a b z e = absurd (true≢false (sym (ap is_err z) ∙ ap is_err e))
seen_halt halt j a b z e = refl
seen_halt (job h ds q) j a b z e = absurd (true≢false (sym (ap is_err z) ∙ ap is_err e.0))

pub seen_ready : (l : Look) (j : Job) (a : Result Bool Breach) → a ≡ Ok true → Sees l a j → l ≡ job j.head (listed j.chain) j.request.items
seen_ready nothing j a z e = absurd (true≢false (ok_of (sym z ∙ e)))
seen_ready halt j a z e = absurd (true≢false (sym e ∙ ap is_err z))
seen_ready (job h ds q) j a z e = rw (e.1, e.2, e.3) refl
