use Rattle.std.proofs.Common.{◌≡◌, ◌-◌}
use Rattle.vring.specs.Programs.{ends, leaves}
use Rattle.vring.specs.Layouts.{ring_of}
use Rattle.device.specs.Responds.{device_of}
use Rattle.serving.specs.Turns.{run_prog}
use Rattle.serving.proofs.turn.run.Given as goal

-- what is left of the budget, from here, ends as all of it from the beginning
abbrev pub invariant-loop-done : goal.invariant-loop-done
invariant-loop-done g l =
    let acts = g.M.GuestMemory.acts in let r = ring_of l.layout in let n = g.M.GuestMemory.holds l.initial.m in
    let p = run_prog (l.times - l._done) r n (device_of l.progress l.kept) in let q = run_prog l.times r n (device_of l.initial.progress l.initial.kept) in
    (g.M.GuestMemory.holds l.m ≡ n) × (ends acts p l.m ≡ ends acts q l.initial.m) × (leaves acts p l.m ≡ leaves acts q l.initial.m)
