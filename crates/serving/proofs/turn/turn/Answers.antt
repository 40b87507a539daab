use Rattle.std.proofs.Common.{Ok, refl, ap, ◌∙◌}
use Rattle.vring.specs.Layouts.{ring_of}
use Rattle.device.specs.Responds.{device_of}
use Rattle.serving.proofs.Sights.{seen_nothing, seen_halt, seen_ready}
use Rattle.serving.proofs.Turning.{turn_stopped, turn_nothing, turn_halts, turn_serves}
use Rattle.serving.proofs.turn.turn.Goals as goal

pub returns-then-progress : goal.returns-then-progress
returns-then-progress g c =
    let b = turn_stopped g.M.GuestMemory.acts (ring_of c.args.layout.now) (g.M.GuestMemory.holds c.args.m.now) (device_of c.args.progress.now c.args.kept.now) c.args.m.now c.if-progress.true in
    record { value = b.0; then = b.1; size = refl }

pub returns-in-Ok-false : goal.returns-in-Ok-false
returns-in-Ok-false g c =
    let l = c.in-Ok-false.is ∙ ap Ok c.in-Ok-false.field-0-test in
    let b = turn_nothing g.M.GuestMemory.acts (ring_of c.args.layout.now) (g.M.GuestMemory.holds c.args.m.now) (device_of c.args.progress.now c.args.kept.now) c.args.m.now c.look.new.m _ c.if-progress.false refl c.look.ensures.then (seen_nothing _ _ _ l c.look.ensures.value) in
    record { value = b.0; then = b.1; size = c.look.ensures.size }

pub returns-in-Err : goal.returns-in-Err
returns-in-Err g c =
    let b = turn_halts g.M.GuestMemory.acts (ring_of c.args.layout.now) (g.M.GuestMemory.holds c.args.m.now) (device_of c.args.progress.now c.args.kept.now) c.args.m.now c.look.new.m _ c.if-progress.false refl c.look.ensures.then (seen_halt _ _ _ _ c.in-Err.is c.look.ensures.value) in
    record { value = b.0; then = b.1; size = c.look.ensures.size }

pub returns-in-Ok-true : goal.returns-in-Ok-true
returns-in-Ok-true g c =
    let l = c.in-Ok-true.is ∙ ap Ok c.in-Ok-true.field-0-test in
    let b = turn_serves g.M.GuestMemory.acts (ring_of c.args.layout.now) (g.M.GuestMemory.holds c.args.m.now) (device_of c.args.progress.now c.args.kept.now) c.args.m.now c.look.new.m _ c.if-progress.false refl c.look.ensures.then c.complete.new.m _ _ _ _ (seen_ready _ _ _ l c.look.ensures.value) c.complete.ensures.device c.complete.ensures.then in
    record { value = b.0; then = b.1; size = cc }
