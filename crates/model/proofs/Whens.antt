-- When a chain is served, when the device stops, and how much of a response is written.
use Rattle.std.proofs.Common.{◌≡◌, ◌<◌, ◌≤◌, true, false, cond, List, length, refl, ap, ◌∙◌, inl, inr, arith}
use Rattle.std.proofs.lemmas.Bool.{eq-eqb, ne_eqb, le-leb, lt-leb, cases_Bool}
use Rattle.std.proofs.lemmas.List.{length-take, get_or-take}
use Rattle.vring.specs.Rings.{Ring}
use Rattle.chains.specs.Chains.{Walk, bad, goes}
use Rattle.chains.specs.Usable.{usable}
use Rattle.chains.specs.declared.descriptor.Descriptor.{Descriptor}
use Rattle.chains.proofs.Meanings.{chain_means, usable_means}
use Rattle.transfer.specs.Requests.{request}
use Rattle.model.specs.Serving.{pending, head, chain, regions, halt, job, look_chain, offer, look, State, cut, stop, act, serve}
use Rattle.transfer.specs.Responses.{capacity}
use Rattle.device.specs.Device.{response}
use Rattle.model.specs.Promises.{waits}
use Rattle.model.specs.Meanings.{Good, ServesWhen, CutOff}

module _ (r : Ring) (b : State) (s : b.device.stopped ≡ false) where
  acts : serve r b ≡ act r b (look r b.memory b.device.served)
  unfolding serve
  acts = ap (λ x. cond x b (act r b (look r b.memory b.device.served))) s

  idle : waits r b ≡ 0 → serve r b ≡ b
  unfolding look act
  idle z = acts ∙ rw (eq-eqb (pending r b.memory b.device.served) 0 z) refl

  many : r.size < waits r b → serve r b ≡ stop b
  unfolding look act
  many l = acts ∙ rw (ne_eqb (pending r b.memory b.device.served) 0 (λ z. omega arith), lt-leb (pending r b.memory b.device.served) r.size l) refl

  next : 0 < waits r b → waits r b ≤ r.size → serve r b ≡ act r b (offer r b.memory b.device.served)
  unfolding look
  next p l = acts ∙ ap (act r b) (rw (ne_eqb (pending r b.memory b.device.served) 0 (λ z. omega arith), le-leb (pending r b.memory b.device.served) r.size l) refl)

-- a chain that was followed, and may be served or not
good : (r : Ring) (b : State) (ds : List Descriptor) → chain r b.memory (head r b.memory b.device.served) ≡ goes ds → usable (regions r) (length b.memory) false ds ≡ true → Good r b ds
unfolding chain
good r b ds e u =
    let c = (chain_means r.size r.base r.size b.memory (head r b.memory b.device.served) ds).0 e in
    let p = (usable_means (regions r) (length b.memory) ds).0 u in
    record { links = c.0; few = c.1; parts = p.0; order = p.1 }

chained : (r : Ring) (b : State) (ds : List Descriptor) → Good r b ds → chain r b.memory (head r b.memory b.device.served) ≡ goes ds
unfolding chain
chained r b ds g = (chain_means r.size r.base r.size b.memory (head r b.memory b.device.served) ds).1 (g.links, g.few)

fits : (r : Ring) (b : State) (ds : List Descriptor) → Good r b ds → usable (regions r) (length b.memory) false ds ≡ true
fits r b ds g = (usable_means (regions r) (length b.memory) ds).1 (g.parts, g.order)

-- no good chain is a halt
halts : (r : Ring) (b : State) (w : Walk) → chain r b.memory (head r b.memory b.device.served) ≡ w → ((ds : List Descriptor) → Good r b ds → ⊥) → look_chain r b.memory (head r b.memory b.device.served) w ≡ halt
unfolding look_chain
halts r b bad e n = refl
halts r b (goes ds) e n = elim (cases_Bool (usable (regions r) (length b.memory) false ds)) [ inl u ↦ absurd (n ds (good r b ds e u)) | inr u ↦ rw u refl ]

offers : (r : Ring) (b : State) (ds : List Descriptor) → Good r b ds → offer r b.memory b.device.served ≡ job (head r b.memory b.device.served) ds (request b.memory ds)
unfolding offer look_chain
offers r b ds g = rw (chained r b ds g, fits r b ds g) refl

pub serves_when : ServesWhen
unfolding act offer
serves_when r b s = (
  idle r b s,
  many r b s,
  λ p l n. next r b s p l ∙ ap (act r b) (halts r b (chain r b.memory (head r b.memory b.device.served)) refl n),
  λ ds p l g. next r b s p l ∙ ap (act r b) (offers r b ds g),
)

pub cut_off : CutOff
unfolding cut
cut_off k ds q = (length-take (capacity ds) (response k q), λ i l. get_or-take (capacity ds) (response k q) i 0 (omega (arith, length-take (capacity ds) (response k q))))
