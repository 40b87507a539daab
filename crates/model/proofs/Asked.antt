-- A guest that keeps to the rules is served as by a device that is asked one thing after the other.
use Rattle.std.proofs.Common.{◌≡◌, ℕ, zero, suc, ◌+◌, ◌-◌, ◌%◌, ◌<◌, ◌≤◌, false, ◌⊎◌, List, length, get_or, refl, ap, ◌∙◌, inl, inr, arith}
use Rattle.vring.specs.Rings.{Ring, ends_at}
use Rattle.chains.specs.Laws.{AllFit}
use Rattle.chains.specs.declared.descriptor.Descriptor.{Descriptor}
use Rattle.chains.proofs.Meanings.{all_fit}
use Rattle.transfer.specs.Requests.{request}
use Rattle.device.specs.Device.{kept_after}
use Rattle.model.specs.Serving.{pending, head, regions, job, offer, State, done, act, serve, serve_times}
use Rattle.model.specs.Promises.{Sound, waits, Writes, Reads, Orderly, kept_in_order, AsAsked}
use Rattle.model.proofs.Rings.{Stands, entry_within}
use Rattle.model.proofs.Looks.{reads_clear, offer_job, look_job, SameRing, pending_same, offer_same, offer_round}
use Rattle.model.proofs.Serves.{ring_stands, done_length, done_where, done_ring, done_sound}

-- what holds of the state x after j servings
pub record Along (r : Ring) (b : State) (c : ℕ → List Descriptor) (j : ℕ) (x : State) : Type 0 where
  pub sound : Sound r x
  pub size : length x.memory ≡ length b.memory
  pub ring : SameRing r b.memory x.memory
  pub running : x.device.stopped ≡ false
  pub kept : x.device.kept ≡ kept_in_order b.device.kept b.memory c j
  pub served : x.device.served ≡ (b.device.served + j) % 65536
  pub touched : (a : ℕ) → (get_or x.memory a 0 ≡ get_or b.memory a 0) ⊎ (((r.base ≤ a) × (a < ends_at r)) ⊎ ((k : ℕ) × (k < j) × Writes (c k) a))

pub pending_at : (r : Ring) (m : List ℕ) (s j : ℕ) → s < 65536 → j ≤ pending r m s → pending r m ((s + j) % 65536) ≡ pending r m s - j
unfolding pending
pending_at r m s j l h = omega arith

module _ (r : Ring) (b : State) (n : ℕ) (c : ℕ → List Descriptor) (h : Sound r b) (o : Orderly r b n c) where
  st : Stands r (length b.memory)
  st = ring_stands r b h

  module _ (j : ℕ) (x : State) (l : j < n) (al : Along r b c j x) where
    fit_here : AllFit (regions r) (length b.memory) (c j)
    fit_here =
        all_fit (regions r) (length b.memory) false (c j)
        (offer_job r b.memory (b.device.served + j) (head r b.memory (b.device.served + j)) (c j) (request b.memory (c j)) (o.offers j l)).good

    -- what the chain reads is as it was
    reads_same : (a : ℕ) → Reads (c j) a → get_or x.memory a 0 ≡ get_or b.memory a 0
    reads_same a p =
        elim (al.touched a) [
          | inl e ↦ e
          | inr t ↦
              elim t [
                | inl u ↦ let w = reads_clear r (length b.memory) (c j) a fit_here p in absurd (omega arith)
                | inr w ↦ absurd (o.apart w.0 j a w.1 l w.2 p)
              ]
        ]

    next : offer r x.memory x.device.served ≡ job (head r b.memory (b.device.served + j)) (c j) (request b.memory (c j))
    next =
        ap (λ (k : ℕ). offer r x.memory k) al.served
        ∙ offer_round r x.memory (b.device.served + j) (ring_stands r x al.sound)
        ∙ offer_same r b.memory x.memory (b.device.served + j) (head r b.memory (b.device.served + j)) (c j) (request b.memory (c j)) st al.size al.ring reads_same (o.offers j l)

    waits_now : waits r x ≡ waits r b - j
    waits_now =
        pending_same r (length b.memory) b.memory x.memory x.device.served st al.ring
        ∙ ap (λ (k : ℕ). pending r b.memory k) al.served
        ∙ pending_at r b.memory b.device.served j h.count (omega (arith, o.enough))

    pub serves : serve r x ≡ done r x (head r b.memory (b.device.served + j)) (c j) (request b.memory (c j))
    unfolding serve act
    serves =
        rw (
          al.running,
          look_job r x.memory x.device.served (head r b.memory (b.device.served + j)) (c j) (request b.memory (c j))
              (omega (arith, waits_now, o.enough)) (omega (arith, waits_now, o.not_more)) next,
        )

    fit_now : AllFit (regions r) (length x.memory) (c j)
    fit_now = rw al.size fit_here

    step : Along r b c (suc j) (done r x (head r b.memory (b.device.served + j)) (c j) (request b.memory (c j)))
    unfolding done
    step =
        let sx : Stands r (length x.memory) = ring_stands r x al.sound in
        let i = head r b.memory (b.device.served + j) in
        let q = request b.memory (c j) in
        record {
          sound = done_sound r x i (c j) q fit_now al.sound;
          size = done_length r x i (c j) q sx fit_now ∙ al.size;
          ring = λ a g k. done_ring r x i (c j) q sx fit_now a g k ∙ al.ring a g k;
          running = refl;
          kept = ap (λ (k : List ℕ). kept_after k q) al.kept;
          served = omega (arith, al.served);
          touched = λ a. elim (done_where r x i (c j) q sx fit_now a) [
            | inl e ↦
                elim (al.touched a) [
                  | inl y ↦ inl (e ∙ y)
                  | inr t ↦ elim t [ inl u ↦ inr (inl u) | inr w ↦ inr (inr (w.0, omega (arith, w.1), w.2)) ]
                ]
            | inr t ↦
                let w = entry_within r x.device.served (length x.memory) sx in
                elim t [
                  | inl u ↦ inr (inl (omega arith, omega arith))
                  | inr v ↦ elim v [ inl u ↦ inr (inl (omega arith, omega arith)) | inr y ↦ inr (inr (j, omega arith, y)) ]
                ]
          ];
        }

  start : Along r b c 0 b
  start = record { sound = h; size = refl; ring = λ a _ _. refl; running = o.running; kept = refl; served = omega (arith, h.count); touched = λ a. inl refl }

  pub along : (j : ℕ) → j ≤ n → Along r b c j (serve_times j r b)
  unfolding serve_times
  along zero l = start
  along (suc j) l = let al = along j (omega arith) in rw (serves j (serve_times j r b) l al) (step j (serve_times j r b) l al)

  pub serves_each : (j : ℕ) → j < n →
      serve_times (suc j) r b ≡ done r (serve_times j r b) (head r b.memory (b.device.served + j)) (c j) (request b.memory (c j))
  unfolding serve_times
  serves_each j l = serves j (serve_times j r b) l (along j (omega arith))

pub as_asked : AsAsked
as_asked r b n c h o =
    let al = along r b n c h o n (omega arith) in
    record {
      kept = al.kept;
      served = al.served;
      running = al.running;
      each = λ j l. (serves_each r b n c h o j l, (along r b n c h o j (omega arith)).kept);
    }
