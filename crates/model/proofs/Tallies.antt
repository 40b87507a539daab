-- Which jobs so many servings did.
use Rattle.std.proofs.Common.{◌≡◌, ℕ, zero, suc, ◌+◌, ◌<◌, true, false, ◌⊎◌, List, [], ◌∷◌, ◌++◌, length, get_or, sym, refl, ap, ◌∙◌, inl, inr, arith}
use Rattle.std.proofs.lemmas.List.{get_or_append_left, get_or_push, length_push}
use Rattle.std.proofs.lemmas.Bool.{cases_lt, both_ways}
use Rattle.vring.specs.Rings.{Ring, entry_at}
use Rattle.chains.specs.Usable.{usable}
use Rattle.chains.specs.Laws.{AllFit}
use Rattle.chains.specs.declared.descriptor.Descriptor.{Descriptor}
use Rattle.transfer.specs.Requests.{request}
use Rattle.device.specs.Device.{kept_after}
use Rattle.model.specs.Serving.{head, chain, regions, State, stop, done, serve_times}
use Rattle.model.specs.Promises.{Sound, waits, Writes, InCount, InEntry, Job, no_job, kept_by, EntryIs, Account, Accounts}
use Rattle.model.proofs.Rings.{Stands, entry_round}
use Rattle.model.proofs.Looks.{offer_job, SameRing, head_same, head_of_round, ring_chain_same}
use Rattle.model.proofs.Serves.{Next, ring_stands, fits_all, done_length, done_where, done_ring, done_sound, done_waits, stop_sound, serve_cases}

-- ## One more job
kept_push : (k : List ℕ) (js : List Job) (j : Job) → kept_by k (js ++ (j ∷ [])) ≡ kept_after (kept_by k js) j.request
kept_push k [] j = refl
kept_push k (y ∷ js) j = kept_push (kept_after k y.request) js j

push_each : (P : ℕ → Job → Type 0) (js : List Job) (j : Job) → ((k : ℕ) → k < length js → P k (get_or js k no_job)) → P (length js) j →
    (k : ℕ) → k < length (js ++ (j ∷ [])) → P k (get_or (js ++ (j ∷ [])) k no_job)
push_each P js j old new k l =
    elim (cases_lt k (length js)) [
      | inl g ↦ rw (get_or_append_left js (j ∷ []) no_job k g) (old k g)
      | inr g ↦ let e : length js ≡ k = omega (arith, length_push js j) in rw (get_or_push js j no_job k e, ← e) new
    ]

-- an address that these jobs may have changed
abbrev Touched : Ring → State → List Job → (a : ℕ) → Type 0
Touched r b js a = (k : ℕ) × (k < length js) × (InCount r a ⊎ (InEntry r (b.device.served + k) a ⊎ Writes (get_or js k no_job).chain a))

touched_before : (r : Ring) (b : State) (js : List Job) (j : Job) (a : ℕ) → Touched r b js a → Touched r b (js ++ (j ∷ [])) a
touched_before r b js j a t = (t.0, omega (arith, t.1, length_push js j), rw (get_or_append_left js (j ∷ []) no_job t.0 t.1) t.2)

touched_last : (r : Ring) (b : State) (js : List Job) (j : Job) (a : ℕ) → InCount r a ⊎ (InEntry r (b.device.served + length js) a ⊎ Writes j.chain a) → Touched r b (js ++ (j ∷ [])) a
touched_last r b js j a t = (length js, omega (arith, length_push js j), rw (get_or_push js j no_job (length js) refl) t)

-- ## What holds after n servings
pub record Tally (r : Ring) (b : State) (n : ℕ) (x : State) (js : List Job) : Type 0 where
  pub sound : Sound r x
  pub ring : SameRing r b.memory x.memory
  pub left : waits r x + length js ≡ waits r b
  -- each serving did a job, or there is nothing more to do
  pub spent : (length js ≡ n) ⊎ ((x.device.stopped ≡ true) ⊎ (waits r x ≡ 0))
  pub account : Account r b n x js

start : (r : Ring) (b : State) → Sound r b → Tally r b 0 b []
start r b h =
    record {
      sound = h;
      ring = λ a _ _. refl;
      left = omega arith;
      spent = inl refl;
      account = record {
        within = omega arith;
        waited = omega arith;
        each = λ k l. absurd (omega arith);
        served = omega (arith, h.count);
        kept = refl;
        size = refl;
        only_there = λ a. inl refl;
      };
    }

-- an account stays one with the same memory, count and contents
same_account : (r : Ring) (b : State) (n : ℕ) (x y : State) (js : List Job) →
    y.memory ≡ x.memory → y.device.served ≡ x.device.served → y.device.kept ≡ x.device.kept → Account r b n x js → Account r b (suc n) y js
same_account r b n x y js m s k t =
    record {
      within = omega (arith, t.within);
      waited = t.waited;
      each = t.each;
      served = s ∙ t.served;
      kept = k ∙ t.kept;
      size = ap length m ∙ t.size;
      only_there = λ a. rw m (t.only_there a);
    }

idle : (r : Ring) (b : State) (n : ℕ) (x : State) (js : List Job) → (x.device.stopped ≡ true) ⊎ (waits r x ≡ 0) → Tally r b n x js → Tally r b (suc n) x js
idle r b n x js e t = record { sound = t.sound; ring = t.ring; left = t.left; spent = inr e; account = same_account r b n x x js refl refl refl t.account }

stops : (r : Ring) (b : State) (n : ℕ) (x : State) (js : List Job) → Tally r b n x js → Tally r b (suc n) (stop x) js
unfolding stop
stops r b n x js t =
    record { sound = stop_sound r x t.sound; ring = t.ring; left = t.left; spent = inr (inl refl); account = same_account r b n x (stop x) js refl refl refl t.account }

-- ## A job that is done
module _ (r : Ring) (b : State) (n : ℕ) (x : State) (js : List Job) (h : Sound r b) (t : Tally r b n x js) (same : x.memory ≡ (serve_times n r b).memory)
    (i : ℕ) (ds : List Descriptor) (l : 0 < waits r x) (nx : Next r x i ds) where
  fit : AllFit (regions r) (length x.memory) ds
  fit = fits_all r x i ds nx

  stood : Stands r (length b.memory)
  stood = ring_stands r b h

  now : Stands r (length x.memory)
  now = ring_stands r x t.sound

  abbrev the_job : Job
  the_job = record { head = i; chain = ds; request = request x.memory ds }

  entry : length js ≡ n → EntryIs r b (length js) the_job
  entry e =
      let o = offer_job r x.memory x.device.served i ds (request x.memory ds) nx in
      record {
        first =
            sym o.first
            ∙ ap (λ (k : ℕ). head r x.memory k) t.account.served
            ∙ head_of_round r x.memory (b.device.served + length js) now
            ∙ head_same r (length b.memory) b.memory x.memory (b.device.served + length js) stood t.ring;
        follows = sym (ring_chain_same r b.memory x.memory i t.ring) ∙ ap (λ (k : ℕ). chain r x.memory k) (sym o.first) ∙ o.follows;
        good = ap (λ (z : ℕ). usable (regions r) z false ds) (sym t.account.size) ∙ o.good;
        asks = ap (λ (m : List ℕ). request m ds) same ∙ ap (λ (k : ℕ). request (serve_times k r b).memory ds) (sym e);
      }

  entry_here : entry_at r x.device.served ≡ entry_at r (b.device.served + length js)
  entry_here = ap (entry_at r) t.account.served ∙ entry_round r (length x.memory) (b.device.served + length js) now

  here : (a : ℕ) → InCount r a ⊎ (InEntry r x.device.served a ⊎ Writes ds a) → Touched r b (js ++ (the_job ∷ [])) a
  here a u = touched_last r b js the_job a (elim u [ inl c ↦ inl c | inr v ↦ elim v [ inl e ↦ inr (inl (omega (arith, entry_here), omega (arith, entry_here))) | inr w ↦ inr (inr w) ] ])

  more : length js ≡ n → Tally r b (suc n) (done r x i ds (request x.memory ds)) (js ++ (the_job ∷ []))
  unfolding done
  more e =
      let q = request x.memory ds in
      let lp = length_push js the_job in
      let dw = done_waits r x i ds q t.sound l fit in
      let left = t.left in
      record {
        sound = done_sound r x i ds q fit t.sound;
        ring = λ a g k. done_ring r x i ds q now fit a g k ∙ t.ring a g k;
        left = omega arith;
        spent = inl (omega arith);
        account = record {
          within = omega arith;
          waited = omega arith;
          each = push_each (EntryIs r b) js the_job t.account.each (entry e);
          served = omega (arith, t.account.served);
          kept = ap (λ (k : List ℕ). kept_after k q) t.account.kept ∙ sym (kept_push b.device.kept js the_job);
          size = done_length r x i ds q now fit ∙ t.account.size;
          only_there = λ a. elim (done_where r x i ds q now fit a) [
            | inl p ↦ elim (t.account.only_there a) [ inl y ↦ inl (p ∙ y) | inr u ↦ inr (touched_before r b js the_job a u) ]
            | inr u ↦ inr (here a u)
          ];
        };
      }

  does : x.device.stopped ≡ false → (ks : List Job) × Tally r b (suc n) (done r x i ds (request x.memory ds)) ks
  does run =
      elim t.spent [
        | inl e ↦ (js ++ (the_job ∷ []), more e)
        | inr s ↦ elim s [ inl z ↦ absurd (both_ways x.device.stopped run z) | inr z ↦ absurd (omega arith) ]
      ]

-- ## Many servings
tally : (r : Ring) (b : State) (n : ℕ) → Sound r b → (js : List Job) × Tally r b n (serve_times n r b) js
unfolding serve_times
tally r b zero h = ([], start r b h)
tally r b (suc n) h =
    let t = tally r b n h in
    let x = serve_times n r b in
    serve_cases r x (λ y. (js : List Job) × Tally r b (suc n) y js)
    (λ e. (t.0, idle r b n x t.0 e t.1))
    (t.0, stops r b n x t.0 t.1)
    (λ i ds run l _ nx. does r b n x t.0 h t.1 refl i ds l nx run)

pub accounts : Accounts
accounts r b n h = let t = tally r b n h in (t.0, t.1.account)
