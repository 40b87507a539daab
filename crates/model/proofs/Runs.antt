-- The promises over histories.
use Rattle.std.proofs.Common.{◌≡◌, ℕ, List, [], ◌∷◌, ◌++◌, length, sym, refl, ap, ◌∙◌, arith}
use Rattle.vring.specs.Rings.{Ring, ring_ok}
use Rattle.device.specs.Device.{kept_after}
use Rattle.model.specs.Serving.{State, serve_times}
use Rattle.model.specs.Promises.{Sound, Job, kept_by}
use Rattle.model.specs.Histories.{Event, writes, serves, resets, after, Possible, ServedWell, Throughout, Did, at_end, OverAnyHistory}
use Rattle.model.proofs.Serves.{stays_sound, stays_stopped, done_with}
use Rattle.model.proofs.Asked.{as_asked}
use Rattle.model.proofs.Tallies.{accounts}

served_well : (r : Ring) (b : State) (n : ℕ) → Sound r b → ServedWell r b n (serve_times n r b)
served_well r b n h =
    record {
      account = accounts r b n h;
      stopped = λ s. stays_stopped r b n s;
      served_all = λ l. done_with r b n h l;
      as_asked = λ c o. as_asked r b n c h o;
    }

written_sound : (r : Ring) (b : State) (m : List ℕ) → Sound r b → length m ≡ length b.memory → Sound r (after r b (writes m))
written_sound r b m h e = record { stands = ap (λ (n : ℕ). ring_ok r n) e ∙ h.stands; kept_len = h.kept_len; count = h.count }

reset_sound : (r : Ring) (b : State) → Sound r b → Sound r (after r b resets)
reset_sound r b h = record { stands = h.stands; kept_len = h.kept_len; count = omega arith }

kept_append : (k : List ℕ) (js ks : List Job) → kept_by k (js ++ ks) ≡ kept_by (kept_by k js) ks
kept_append k [] ks = refl
kept_append k (j ∷ js) ks = kept_append (kept_after k j.request) js ks

throughout : (r : Ring) (b : State) (es : List Event) → Sound r b → Possible r b es → Throughout r b es
throughout r b [] h p = h
throughout r b (writes m ∷ es) h p = (h, refl, throughout r (after r b (writes m)) es (written_sound r b m h p.0) p.1)
throughout r b (serves n ∷ es) h p = (h, served_well r b n h, throughout r (after r b (serves n)) es (stays_sound r b n h) p)
throughout r b (resets ∷ es) h p = (h, refl, throughout r (after r b resets) es (reset_sound r b h) p)

contents : (r : Ring) (b : State) (es : List Event) → Sound r b → Possible r b es → (js : List Job) × Did r b es js × ((at_end r b es).device.kept ≡ kept_by b.device.kept js)
contents r b [] h p = ([], refl, refl)
contents r b (writes m ∷ es) h p = contents r (after r b (writes m)) es (written_sound r b m h p.0) p.1
contents r b (serves n ∷ es) h p =
    let a = accounts r b n h in
    let c = contents r (serve_times n r b) es (stays_sound r b n h) p in
    (a.0 ++ c.0, (a.0, c.0, a.1, c.1, refl), c.2 ∙ (ap (λ k. kept_by k c.0) a.1.kept ∙ sym (kept_append b.device.kept a.0 c.0)))
contents r b (resets ∷ es) h p = contents r (after r b resets) es (reset_sound r b h) p

pub over_any_history : OverAnyHistory
over_any_history r b es h p = (throughout r b es h p, contents r b es h p)
