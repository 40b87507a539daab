-- What the entry for servings checks, and what it then promises.
use Rattle.std.proofs.Common.{◌≡◌, ℕ, suc, ◌+◌, ◌-◌, ◌%◌, ◌<◌, ◌≤◌, Bool, true, false, cond, ◌&&◌, eqb, ltb, leb, ◌⊎◌, List, length, get_or, sym, refl, ap, ◌∙◌, subst, ap₂, inl, inr, Option, None, Some, Result, Ok, Err, IsErrAnd, arith}
use Rattle.std.specs.Result.{result_ok, is_err}
use Rattle.std.specs.Option.{ok_or}
use Rattle.std.proofs.lemmas.Bool.{cases_Bool, and_parts, ltb-true, eqb-true, true≢false}
use Rattle.vring.specs.Words.{word}
use Rattle.vring.specs.Rings.{Ring, available_at, ring_ok, placed_ok}
use Rattle.vring.specs.Layouts.{ring_of, Placed}
use Rattle.vring.specs.declared.layout.Layout.{Layout}
use Rattle.device.specs.Device.{Device}
use Rattle.model.specs.Serving.{pending, State, serve_times}
use Rattle.model.specs.Promises.{Sound, waits}
use Rattle.model.proofs.Serves.{stays_sound, stays_stopped, done_with}
use Rattle.model.proofs.Asked.{as_asked}
use Rattle.model.proofs.Tallies.{accounts}
use Rattle.device.specs.States.{state_ok, device_in, numbers_of}
use Rattle.serving.specs.Refusals.{refusal_number, said}
use Rattle.serving.specs.declared.refusal.Refusal.{Refusal}
use Rattle.serving.specs.declared.refusal.Refusal.TheVariants as why
use Rattle.serving.specs.Entries.{state_in, refusal, answer, Serves, ServeSays, Promised}
use Rattle.serving.specs.declared.done.Done.{Done}
use Rattle.serving.specs.declared.done.Done.TheVariants.{Served, Stopped, Refused}

-- ## Answers
pub answer_stopped : (r : Ring) (x : State) → x.device.stopped ≡ true → answer r x ≡ Stopped
answer_stopped r x e = ap (λ b. cond b Stopped (Served (waits r x))) e

pub answer_served : (r : Ring) (x : State) → x.device.stopped ≡ false → answer r x ≡ Served (waits r x)
answer_served r x e = ap (λ b. cond b Stopped (Served (waits r x))) e

-- what is left of a count less what was served, as the code works it out
pub waits_by : (r : Ring) (x : State) (c s : ℕ) → c ≡ word x.memory (available_at r) → s ≡ x.device.served → x.device.served < 65536 → (c + (65536 - s)) % 65536 ≡ waits r x
unfolding pending
waits_by r x c s e f h = let k : c + (65536 - s) ≡ word x.memory (available_at r) + 65536 - x.device.served = omega arith in ap (λ y. y % 65536) k

-- ## Refusals
-- the ring as the entry checks it
pub placed_in : (r : Ring) (n : ℕ) (o : Option Layout) (a : Result Layout Refusal) (l : Layout) → Placed r n o → o ≡ result_ok a → a ≡ Ok l → (placed_ok r n ≡ true) × (ring_of l ≡ r)
placed_in r n o a l p e f = subst (Placed r n) (e ∙ ap result_ok f) p

pub not_placed : (r : Ring) (n : ℕ) (o : Option Layout) (a : Result Layout Refusal) (f : Refusal) → Placed r n o → o ≡ result_ok a → a ≡ Err f → placed_ok r n ≡ false
not_placed r n o a f p e g = subst (Placed r n) (e ∙ ap result_ok g) p

err_of : {f g : Refusal} → ◌≡◌ {A = Result Layout Refusal} (Err f) (Err g) → f ≡ g
err_of e = cc

pub ring_refused : (o : Option Layout) (a : Result Layout Refusal) (f : Refusal) → a ≡ ok_or o why.Ring → a ≡ Err f → f ≡ why.Ring
ring_refused None a f p e = err_of (sym e ∙ p)
ring_refused (Some l) a f p e = absurd (true≢false (sym (ap is_err e) ∙ ap is_err p))

pub says_refusal : (a : Result Done Refusal) (f : Refusal) → IsErrAnd a (λ e. e ≡ f) → said a ≡ Refused (refusal_number f)
says_refusal (Ok d) f h = absurd h
says_refusal (Err e) f h = ap (λ x. Refused (refusal_number x)) h

module _ (r : Ring) (m s k : List ℕ) (n : ℕ) where
  pub refusal_ring : placed_ok r (length m) ≡ false → refusal r m s k n ≡ 1
  unfolding refusal
  refusal_ring e = ap (λ b. cond b (cond (state_ok s) (cond (leb (length k) 4096) (cond (leb n 1000) 0 4) 3) 2) 1) e

  module _ (e : placed_ok r (length m) ≡ true) where
    placed : refusal r m s k n ≡ cond (state_ok s) (cond (leb (length k) 4096) (cond (leb n 1000) 0 4) 3) 2
    unfolding refusal
    placed = ap (λ b. cond b (cond (state_ok s) (cond (leb (length k) 4096) (cond (leb n 1000) 0 4) 3) 2) 1) e

    pub refusal_state : state_ok s ≡ false → refusal r m s k n ≡ 2
    refusal_state f = placed ∙ ap (λ b. cond b (cond (leb (length k) 4096) (cond (leb n 1000) 0 4) 3) 2) f

    module _ (f : state_ok s ≡ true) where
      stated : refusal r m s k n ≡ cond (leb (length k) 4096) (cond (leb n 1000) 0 4) 3
      stated = placed ∙ ap (λ b. cond b (cond (leb (length k) 4096) (cond (leb n 1000) 0 4) 3) 2) f

      pub refusal_kept : leb (length k) 4096 ≡ false → refusal r m s k n ≡ 3
      refusal_kept g = stated ∙ ap (λ b. cond b (cond (leb n 1000) 0 4) 3) g

      pub refusal_times : leb (length k) 4096 ≡ true → leb n 1000 ≡ false → refusal r m s k n ≡ 4
      refusal_times g h = stated ∙ (ap (λ b. cond b (cond (leb n 1000) 0 4) 3) g ∙ ap (λ b. cond b 0 4) h)

      pub refusal_none : leb (length k) 4096 ≡ true → leb n 1000 ≡ true → refusal r m s k n ≡ 0
      refusal_none g h = stated ∙ (ap (λ b. cond b (cond (leb n 1000) 0 4) 3) g ∙ ap (λ b. cond b 0 4) h)

  pub refused : (f : ℕ) → refusal r m s k n ≡ suc f → ServeSays (refusal r m s k n) r m s k n (Refused (suc f)) m s k
  refused f e = rw e (record { result = refl; memory = refl; state = refl; kept = refl })

  pub not_taken : (f : ℕ) → refusal r m s k n ≡ suc f → refusal r m s k n ≡ 0 → ⊥
  not_taken f e z = omega arith

  pub taken : (d : Done) (m₁ s₁ k₁ : List ℕ) → refusal r m s k n ≡ 0 → Serves r (state_in m s k) n d m₁ s₁ k₁ → ServeSays (refusal r m s k n) r m s k n d m₁ s₁ k₁
  taken d m₁ s₁ k₁ e h = rw e h

  -- what is not refused is sound
  pub sound_in : placed_ok r (length m) ≡ true → state_ok s ≡ true → length k ≤ 4096 → Sound r (state_in m s k)
  unfolding placed_ok
  sound_in e f g =
      let p = and_parts (eqb (length s) 2) (ltb (get_or s 0 0) 65536 && leb (get_or s 1 0) 1) f in
      record { stands = (and_parts (ring_ok r (length m)) (leb (length m) 65536) e).0; kept_len = g; count = ltb-true (get_or s 0 0) 65536 (and_parts (ltb (get_or s 0 0) 65536) (leb (get_or s 1 0) 1) p.1).0 }

pub two_numbers : (s : List ℕ) → state_ok s ≡ true → length s ≡ 2
two_numbers s f = eqb-true (length s) 2 (and_parts (eqb (length s) 2) (ltb (get_or s 0 0) 65536 && leb (get_or s 1 0) 1) f).0

-- ## Promises
stopped_back : (t : Bool) → eqb (cond t 1 0) 1 ≡ t
stopped_back true = refl
stopped_back false = refl

device_back : (d : Device) → device_in (numbers_of d) d.kept ≡ d
device_back d = ap {B = Device} (λ t. record { kept = d.kept; served = d.served; stopped = t }) (stopped_back d.stopped)

-- the state that is left is the one that the servings come to
pub state_back : (r : Ring) (b : State) (n : ℕ) (d : Done) (m₁ s₁ k₁ : List ℕ) → Serves r b n d m₁ s₁ k₁ → state_in m₁ s₁ k₁ ≡ serve_times n r b
state_back r b n d m₁ s₁ k₁ h =
    let x = serve_times n r b in
    let e = ap₂ device_in h.state h.kept ∙ device_back x.device in
    ap₂ {C = State} (λ m y. record { memory = m; device = y }) h.memory e

served_all : (r : Ring) (x : State) → (x.device.stopped ≡ true) ⊎ (waits r x ≡ 0) → (answer r x ≡ Stopped) ⊎ (answer r x ≡ Served 0)
served_all r x (inl e) = inl (answer_stopped r x e)
served_all r x (inr z) = elim (cases_Bool x.device.stopped) [ inl e ↦ inl (answer_stopped r x e) | inr e ↦ inr (answer_served r x e ∙ ap Served z) ]

promised_of : (r : Ring) (b : State) (n : ℕ) → Sound r b → Promised r b n (answer r (serve_times n r b)) (serve_times n r b)
promised_of r b n h =
    record {
      account = accounts r b n h;
      sound = stays_sound r b n h;
      stopped = λ s. (stays_stopped r b n s, ap (answer r) (stays_stopped r b n s) ∙ answer_stopped r b s);
      served_all = λ l. served_all r (serve_times n r b) (done_with r b n h l);
      as_asked = λ c o. as_asked r b n c h o;
    }

pub promised : (r : Ring) (b : State) (n : ℕ) (d : Done) (m₁ s₁ k₁ : List ℕ) → Sound r b → Serves r b n d m₁ s₁ k₁ → Promised r b n d (state_in m₁ s₁ k₁)
promised r b n d m₁ s₁ k₁ h v =
    subst (λ e. Promised r b n e (state_in m₁ s₁ k₁)) (sym v.result)
    (subst (λ x. Promised r b n (answer r (serve_times n r b)) x) (sym (state_back r b n d m₁ s₁ k₁ v)) (promised_of r b n h))

-- the same servings, with ring and state as the caller has them
pub serves_in : (r r₀ : Ring) (b b₀ : State) (n : ℕ) (d : Done) (m₁ s₁ s₀ k₁ : List ℕ) → r₀ ≡ r → b₀ ≡ b → s₁ ≡ s₀ → Serves r₀ b₀ n d m₁ s₀ k₁ → Serves r b n d m₁ s₁ k₁
serves_in r r₀ b b₀ n d m₁ s₁ s₀ k₁ e f g h =
    subst (λ s. Serves r b n d m₁ s k₁) (sym g) (subst (λ x. Serves x b n d m₁ s₀ k₁) e (subst (λ x. Serves r₀ x n d m₁ s₀ k₁) f h))
