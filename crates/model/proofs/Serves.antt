-- One serving, by cases, and what it leaves; and many.
use Rattle.std.proofs.Common.{◌≡◌, ℕ, zero, suc, ◌-◌, ◌<◌, ◌≤◌, true, false, ◌⊎◌, List, length, get_or, refl, ap, ◌∙◌, inl, inr, arith}
use Rattle.std.proofs.lemmas.Bool.{cond_both, both_ways}
use Rattle.vring.specs.Rings.{Ring, ring_ok}
use Rattle.chains.specs.Laws.{AllFit}
use Rattle.chains.specs.declared.descriptor.Descriptor.{Descriptor}
use Rattle.chains.proofs.Meanings.{all_fit}
use Rattle.transfer.specs.Requests.{request}
use Rattle.transfer.specs.Responses.{following}
use Rattle.device.proofs.Requests.{kept_length}
use Rattle.model.specs.Serving.{pending, regions, nothing, job, offer, look, State, cut, stop, done, act, serve, serve_times}
use Rattle.model.specs.Promises.{Sound, waits, Writes, InCount, InEntry, StaysSound, StaysStopped, DoneWith, WaitsMeans}
use Rattle.model.proofs.Rings.{Stands, stands}
use Rattle.model.proofs.Looks.{offer_job, look_cases, SameRing, pending_same}
use Rattle.model.proofs.Acts.{finished_length, finished_where, finished_ring}

-- ## A job done
-- the next chain is a job, with its request as it stands
abbrev pub Next : Ring → State → (head : ℕ) → List Descriptor → Type 0
Next r b i ds = offer r b.memory b.device.served ≡ job i ds (request b.memory ds)

module _ (r : Ring) (b : State) (i : ℕ) (ds : List Descriptor) (q : List ℕ) (st : Stands r (length b.memory)) (f : AllFit (regions r) (length b.memory) ds) where
  pub done_length : length (done r b i ds q).memory ≡ length b.memory
  unfolding done
  done_length = finished_length r b.device.served i ds (cut b.device.kept ds q) b.memory st f

  pub done_where : (a : ℕ) → (get_or (done r b i ds q).memory a 0 ≡ get_or b.memory a 0) ⊎ (InCount r a ⊎ (InEntry r b.device.served a ⊎ Writes ds a))
  unfolding done
  done_where = finished_where r b.device.served i ds (cut b.device.kept ds q) b.memory st f

  pub done_ring : SameRing r b.memory (done r b i ds q).memory
  unfolding done
  done_ring = finished_ring r b.device.served i ds (cut b.device.kept ds q) b.memory st f

pub ring_stands : (r : Ring) (b : State) → Sound r b → Stands r (length b.memory)
ring_stands r b h = stands r (length b.memory) h.stands

pub fits_all : (r : Ring) (b : State) (i : ℕ) (ds : List Descriptor) → Next r b i ds → AllFit (regions r) (length b.memory) ds
fits_all r b i ds q = all_fit (regions r) (length b.memory) false ds (offer_job r b.memory b.device.served i ds (request b.memory ds) q).good

pub done_sound : (r : Ring) (b : State) (i : ℕ) (ds : List Descriptor) (q : List ℕ) → AllFit (regions r) (length b.memory) ds → Sound r b → Sound r (done r b i ds q)
unfolding done
done_sound r b i ds q f h =
    record {
      stands = ap (λ (n : ℕ). ring_ok r n) (done_length r b i ds q (ring_stands r b h) f) ∙ h.stands;
      kept_len = rw (kept_length b.device.kept q) h.kept_len;
      count = omega arith;
    }

pub stop_sound : (r : Ring) (b : State) → Sound r b → Sound r (stop b)
unfolding stop
stop_sound r b h = record { stands = h.stands; kept_len = h.kept_len; count = h.count }

-- ## Cases of a serving
pub serve_cases : (r : Ring) (b : State) (P : State → Type 0) →
    ((b.device.stopped ≡ true) ⊎ (waits r b ≡ 0) → P b) → P (stop b) →
    ((i : ℕ) (ds : List Descriptor) → b.device.stopped ≡ false → 0 < waits r b → waits r b ≤ r.size → Next r b i ds → P (done r b i ds (request b.memory ds))) → P (serve r b)
unfolding serve act
serve_cases r b P pb ps pd =
    cond_both b.device.stopped b (act r b (look r b.memory b.device.served)) P
    (λ e. pb (inl e))
    (λ e. look_cases r b.memory b.device.served (λ l. P (act r b l)) (λ w. pb (inr w)) ps
    (λ i ds x h1 h2 q. let a = (offer_job r b.memory b.device.served i ds x q).asks in rw a (pd i ds e h1 h2 (rw a at q))))

pub serve_sound : (r : Ring) (b : State) → Sound r b → Sound r (serve r b)
serve_sound r b h = serve_cases r b (λ x. Sound r x) (λ _. h) (stop_sound r b h) (λ i ds _ _ _ q. done_sound r b i ds (request b.memory ds) (fits_all r b i ds q) h)

pub serve_length : (r : Ring) (b : State) → Sound r b → length (serve r b).memory ≡ length b.memory
unfolding stop
serve_length r b h =
    serve_cases r b (λ x. length x.memory ≡ length b.memory) (λ _. refl) refl
    (λ i ds _ _ _ q. done_length r b i ds (request b.memory ds) (ring_stands r b h) (fits_all r b i ds q))

-- ## Many servings
pub stays_sound : StaysSound
unfolding serve_times
stays_sound r b zero h = h
stays_sound r b (suc n) h = serve_sound r (serve_times n r b) (stays_sound r b n h)

pub serve_stopped : (r : Ring) (b : State) → b.device.stopped ≡ true → serve r b ≡ b
unfolding serve
serve_stopped r b h = rw h

-- a state that a serving leaves as it is stays so
pub same_stays : (n : ℕ) (r : Ring) (b : State) → serve r b ≡ b → serve_times n r b ≡ b
unfolding serve_times
same_stays zero r b h = refl
same_stays (suc n) r b h = ap (serve r) (same_stays n r b h) ∙ h

pub stays_stopped : StaysStopped
stays_stopped r b n h = same_stays n r b (serve_stopped r b h)

serve_idle : (r : Ring) (b : State) → look r b.memory b.device.served ≡ nothing → serve r b ≡ b
unfolding serve act
serve_idle r b h = cond_both b.device.stopped b (act r b (look r b.memory b.device.served)) (λ x. x ≡ b) (λ _. refl) (λ _. ap (act r b) h)

pub idle_stays : (n : ℕ) (r : Ring) (b : State) → look r b.memory b.device.served ≡ nothing → serve_times n r b ≡ b
idle_stays n r b h = same_stays n r b (serve_idle r b h)

-- the first serving, and then the others
pub times_more : (n : ℕ) (r : Ring) (b : State) → serve_times (suc n) r b ≡ serve_times n r (serve r b)
unfolding serve_times
times_more zero r b = refl
times_more (suc n) r b = ap (serve r) (times_more n r b)

-- ## What waits
pub pending_less : (r : Ring) (m : List ℕ) (s : ℕ) → s < 65536 → 0 < pending r m s → pending r m (following s) ≡ pending r m s - 1
unfolding pending
pending_less r m s l h = omega arith

pub done_waits : (r : Ring) (b : State) (i : ℕ) (ds : List Descriptor) (q : List ℕ) → Sound r b → 0 < waits r b → AllFit (regions r) (length b.memory) ds → waits r (done r b i ds q) ≡ waits r b - 1
done_waits r b i ds q h l f =
    let st = ring_stands r b h in
    let e : (done r b i ds q).device.served ≡ following b.device.served = unfold done in refl in
    rw (e, pending_same r (length b.memory) b.memory (done r b i ds q).memory (following b.device.served) st (done_ring r b i ds q st f))
    (pending_less r b.memory b.device.served h.count l)

pub count_down : (n : ℕ) (r : Ring) (b : State) → Sound r b → ((serve_times n r b).device.stopped ≡ true) ⊎ (waits r (serve_times n r b) ≡ waits r b - n)
unfolding serve_times stop
count_down zero r b h = inr (omega arith)
count_down (suc n) r b h =
    let ih = count_down n r b h in
    serve_cases r (serve_times n r b) (λ x. (x.device.stopped ≡ true) ⊎ (waits r x ≡ waits r b - suc n))
    (λ p. elim p [ inl e ↦ inl e | inr z ↦ elim ih [ inl e ↦ inl e | inr w ↦ inr (omega arith) ] ])
    (inl refl)
    (λ i ds e l g q. elim ih [
      | inl t ↦ absurd (both_ways (serve_times n r b).device.stopped e t)
      | inr w ↦ inr (omega (arith, done_waits r (serve_times n r b) i ds (request (serve_times n r b).memory ds) (stays_sound r b n h) l (fits_all r (serve_times n r b) i ds q)))
    ])

pub done_with : DoneWith
done_with r b n h l = elim (count_down n r b h) [ inl e ↦ inl e | inr w ↦ inr (omega arith) ]

pub waits_means : WaitsMeans
unfolding pending
waits_means r b h = let c = h.count in (omega arith, omega arith)
