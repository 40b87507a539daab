use Rattle.std.proofs.Common.{◌≡◌, false, [], ◌∷◌, sym, refl, ap, ◌∙◌, ap₂, rules}
use Rattle.std.specs.Result.{is_ok, is_err}
use Rattle.vring.specs.Layouts.{ring_of}
use Rattle.chains.specs.Chains.{listed}
use Rattle.chains.specs.Usable.{usable}
use Rattle.chains.proofs.Meanings.{all_fit}
use Rattle.model.proofs.Acts.{within_all}
use Rattle.serving.proofs.Sights.{next_bad, next_unusable, next_ready}
use Rattle.serving.proofs.look.take_next.Goals as goal

-- The reference that the view hands on is the one that was lent to it (o), so that memory is at the end what the last call left.
pub returns-in_err-followed : goal.returns-in_err-followed
returns-in_err-followed g c =
    let v = c.next-view.result in
    let b = next_bad g.M.GuestMemory.acts (ring_of c.args.layout.now) v.queue.layout.now (ap ring_of c.next-view.ensures.ring) (g.M.GuestMemory.holds c.args.m.now) c.args.served v.head c.args.m.now v.queue.memory.now c.into_memory-m.result.now c.next-view.ensures.head c.next-view.ensures.then _ _ _ c.clear.ensures c.follow-followed.ensures.value (c.into_memory-m.ensures.value ∙ c.follow-followed.ensures.then) (ap is_err c.in_err-followed.was) in
    let o = sym (c.into_memory-m.ensures.same ∙ c.follow-followed.ensures.same ∙ c.next-view.ensures.same) in
    let z = ap g.M.GuestMemory.holds c.into_memory-m.ensures.value ∙ c.follow-followed.ensures.size ∙ c.next-view.ensures.size in
    record { value = rw b.0 c.from_residual.ensures.0; then = search (rules, o, b.1); within = search rules; size = search (rules, o, z) }

pub returns-then-not-is_usable : goal.returns-then-not-is_usable
returns-then-not-is_usable g c =
    let v = c.next-view.result in let n = g.M.GuestMemory.holds c.args.m.now in
    let o = sym (c.into_memory-m.ensures.same ∙ c.follow-followed.ensures.same ∙ c.next-view.ensures.same) in
    let z = ap g.M.GuestMemory.holds c.into_memory-m.ensures.value ∙ c.follow-followed.ensures.size ∙ c.next-view.ensures.size in
    let l : c.len.result ≡ n = cc in
    let u = ap₂ (λ x k. usable (x ∷ []) k false (listed c.follow-followed.new.out)) (sym c.from.ensures) (sym l) ∙ sym c.if-not-is_usable.ensures in
    let b = next_unusable g.M.GuestMemory.acts (ring_of c.args.layout.now) v.queue.layout.now (ap ring_of c.next-view.ensures.ring) n c.args.served v.head c.args.m.now v.queue.memory.now c.into_memory-m.result.now c.next-view.ensures.head c.next-view.ensures.then _ _ _ c.clear.ensures c.follow-followed.ensures.value (c.into_memory-m.ensures.value ∙ c.follow-followed.ensures.then) (ap is_ok c.in_ok-followed.was) u in
    record { value = rw b.0 refl; then = search (rules, o, b.1); within = search rules; size = search (rules, o, z) }

pub gather-requires : goal.gather-requires
gather-requires g c =
    let e : c.len.result ≡ g.M.GuestMemory.holds c.into_memory-m.result.now = c.len.ensures in
    let u = sym c.if-not-is_usable.ensures in
    within_all _ _ _ (all_fit _ _ false _ (ap (λ k. usable (c.from.result ∷ []) k false (listed c.follow-followed.new.out)) (sym e) ∙ u))

pub returns : goal.returns
returns g c =
    let v = c.next-view.result in let n = g.M.GuestMemory.holds c.args.m.now in
    let o = sym (c.into_memory-m.ensures.same ∙ c.follow-followed.ensures.same ∙ c.next-view.ensures.same) in
    let z = ap g.M.GuestMemory.holds c.into_memory-m.ensures.value ∙ c.follow-followed.ensures.size ∙ c.next-view.ensures.size in
    let l : c.len.result ≡ n = cc in
    let u = ap₂ (λ x k. usable (x ∷ []) k false (listed c.follow-followed.new.out)) (sym c.from.ensures) (sym l) ∙ sym c.if-not-is_usable.ensures in
    let b = next_ready g.M.GuestMemory.acts (ring_of c.args.layout.now) v.queue.layout.now (ap ring_of c.next-view.ensures.ring) n c.args.served v.head c.args.m.now v.queue.memory.now c.into_memory-m.result.now c.next-view.ensures.head c.next-view.ensures.then _ _ _ c.clear.ensures c.follow-followed.ensures.value (c.into_memory-m.ensures.value ∙ c.follow-followed.ensures.then) _ _ (ap is_ok c.in_ok-followed.was) u c.gather.ensures.value c.gather.ensures.then in
    record { value = rw b.0 (refl, refl, refl, refl); then = search (rules, o, b.1); within = within_all _ _ _ (all_fit _ _ false _ u); size = search (rules, o, c.gather.ensures.size ∙ z) }
