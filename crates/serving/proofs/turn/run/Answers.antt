use Rattle.std.proofs.Common.{◌≡◌, ◌+◌, ◌-◌, true, false, sym, refl, ap, ◌∙◌, subst, arith}
use Rattle.vring.specs.Layouts.{ring_of}
use Rattle.device.specs.Responds.{device_of}
use Rattle.serving.specs.Turns.{turned}
use Rattle.serving.proofs.Turning.{Turns, run_none, run_ends, run_more}
use Rattle.serving.proofs.turn.run.Goals as goal

-- a turn that served a chain: the rest of the budget goes on from there
pub loop-done-preserved : goal.loop-done-preserved
loop-done-preserved g c =
    let acts = g.M.GuestMemory.acts in let r = ring_of c.args.layout.now in let n = g.M.GuestMemory.holds c.args.m.now in let left = c.args.times - c.loop-done._done in
    let d = device_of c.loop-done.progress c.loop-done.kept in let e = device_of c.turn.new.progress c.turn.new.kept in let i = c.loop-done.invariant in
    let t = subst (λ k. Turns acts r k d c.loop-done.m c.turn.new.m true e) i.0 (c.turn.ensures.value ∙ ap (λ b. turned b e) c.if-not-turn.false, c.turn.ensures.then) in
    let b = run_more acts r n d e _ c.loop-done.m c.turn.new.m _ left (omega arith) t (refl, refl) in
    let s : c.args.times - (c.loop-done._done + 1) ≡ left - 1 = omega arith in
    rw s (c.turn.ensures.size ∙ i.0, sym b.0 ∙ i.1, b.1 ∙ i.2)

-- a turn that served nothing ends the run
pub returns-then-not-turn : goal.returns-then-not-turn
returns-then-not-turn g c =
    let acts = g.M.GuestMemory.acts in let r = ring_of c.args.layout.now in let n = g.M.GuestMemory.holds c.args.m.now in
    let d = device_of c.loop-done.progress c.loop-done.kept in let e = device_of c.turn.new.progress c.turn.new.kept in let i = c.loop-done.invariant in
    let t = subst (λ k. Turns acts r k d c.loop-done.m c.turn.new.m false e) i.0 (c.turn.ensures.value ∙ ap (λ b. turned b e) c.if-not-turn.true, c.turn.ensures.then) in
    let b = run_ends acts r n d c.loop-done.m (c.args.times - c.loop-done._done) c.turn.new.m e (omega arith) t in
    record { value = sym i.1 ∙ b.0; then = b.1 ∙ i.2; size = c.turn.ensures.size ∙ i.0 }

-- and so does a budget that is spent
pub returns-after-loop-done : goal.returns-after-loop-done
returns-after-loop-done g c =
    let acts = g.M.GuestMemory.acts in let r = ring_of c.args.layout.now in let n = g.M.GuestMemory.holds c.args.m.now in let i = c.loop-done.invariant in
    let b = run_none acts r n (device_of c.loop-done.progress c.loop-done.kept) c.loop-done.m (c.args.times - c.loop-done._done) (omega (arith, c.loop-done-test.false)) in
    record { value = sym i.1 ∙ b.0; then = b.1 ∙ i.2; size = i.0 }
