use Rattle.std.proofs.Common.{OnOk, ◌≡◌, sym, refl, ap, ◌∙◌, subst, arith, rules}
use Rattle.std.specs.Result.{is_ok, is_err}
use Rattle.vring.specs.Programs.{pair, ends, leaves}
use Rattle.vring.specs.Rings.{available_at}
use Rattle.vring.specs.Layouts.{ring_of}
use Rattle.chains.specs.Chains.{listed}
use Rattle.transfer.specs.Responses.{Within}
use Rattle.serving.specs.Turns.{next_prog}
use Rattle.serving.specs.Sees.{Takes}
use Rattle.serving.proofs.Sights.{look_nothing, look_many, look_next, taken, not_taken}
use Rattle.serving.proofs.look.look.Goals as goal

pub returns-then-waiting-eq0 : goal.returns-then-waiting-eq0
returns-then-waiting-eq0 g c =
    let acts = g.M.GuestMemory.acts in let r = ring_of c.args.layout.now in let m = c.args.m.now in
    let e : c.number.result ≡ acts.reads m pair (available_at r) = cc in
    let e₁ : c.number.new.self ≡ acts.after m pair (available_at r) = cc in
    let b = look_nothing acts r (g.M.GuestMemory.holds m) c.args.served c.number.result m c.number.new.self e e₁ (omega arith) in
    record { value = rw b.0 refl; then = b.1; within = search rules; size = cc }

pub returns-then-waiting-layout : goal.returns-then-waiting-layout
returns-then-waiting-layout g c =
    let acts = g.M.GuestMemory.acts in let r = ring_of c.args.layout.now in let m = c.args.m.now in
    let e : c.number.result ≡ acts.reads m pair (available_at r) = cc in
    let e₁ : c.number.new.self ≡ acts.after m pair (available_at r) = cc in
    let b = look_many acts r (g.M.GuestMemory.holds m) c.args.served c.number.result m c.number.new.self e e₁ (λ z. omega arith) (omega arith) in
    record { value = rw b.0 refl; then = b.1; within = search rules; size = cc }

pub returns-in_err-take_next : goal.returns-in_err-take_next
returns-in_err-take_next g c =
    let acts = g.M.GuestMemory.acts in let r = ring_of c.args.layout.now in let m = c.args.m.now in let m₁ = c.number.new.self in
    let e : c.number.result ≡ acts.reads m pair (available_at r) = cc in
    let e₁ : m₁ ≡ acts.after m pair (available_at r) = cc in
    let b = look_next acts r (g.M.GuestMemory.holds m) c.args.served c.number.result m m₁ e e₁ (λ z. omega arith) (omega arith) in
    let k = c.number.ensures.size in
    let v = subst (λ n. Takes (ends acts (next_prog r n c.args.served) m₁) c.take_next.result c.take_next.new.job) k c.take_next.ensures.value in
    let t = c.take_next.ensures.then ∙ ap (λ n. leaves acts (next_prog r n c.args.served) m₁) k in
    record { value = rw b.0 (not_taken _ _ _ _ (ap is_err c.in_err-take_next.was) c.from_residual.ensures.0 v); then = t ∙ sym b.1; within = search rules; size = cc }

pub returns : goal.returns
returns g c =
    let acts = g.M.GuestMemory.acts in let r = ring_of c.args.layout.now in let m = c.args.m.now in let m₁ = c.number.new.self in
    let e : c.number.result ≡ acts.reads m pair (available_at r) = cc in
    let e₁ : m₁ ≡ acts.after m pair (available_at r) = cc in
    let b = look_next acts r (g.M.GuestMemory.holds m) c.args.served c.number.result m m₁ e e₁ (λ z. omega arith) (omega arith) in
    let k = c.number.ensures.size in
    let v = subst (λ n. Takes (ends acts (next_prog r n c.args.served) m₁) c.take_next.result c.take_next.new.job) k c.take_next.ensures.value in
    let t = c.take_next.ensures.then ∙ ap (λ n. leaves acts (next_prog r n c.args.served) m₁) k in
    let w = subst (λ n. OnOk c.take_next.result (Within n (listed c.take_next.new.job.chain))) k c.take_next.ensures.within in
    let ok = c.in_ok-take_next.was in
    record { value = rw b.0 (taken _ _ _ (ap is_ok ok) v); then = t ∙ sym b.1; within = λ _. subst (λ a. OnOk a (Within (g.M.GuestMemory.holds m) (listed c.take_next.new.job.chain))) ok w; size = cc }
