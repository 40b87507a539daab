use Rattle.std.proofs.Common.{◌≡◌, ◌≤◌, length, drop}
use Rattle.vring.specs.Programs.{leaves}
use Rattle.chains.specs.Chains.{listed}
use Rattle.transfer.specs.Responses.{fill_prog}
use Rattle.transfer.proofs.finish.fill.Given as goal

-- what is left of the response goes into the descriptors that are left
abbrev pub invariant-loop-d : goal.invariant-loop-d
invariant-loop-d g l =
    (l.used ≤ length l.response) × (g.M.GuestMemory.holds l.m ≡ g.M.GuestMemory.holds l.initial.m)
    × (leaves g.M.GuestMemory.acts (fill_prog (drop l.d-index l.d-items) (drop l.used l.response)) l.m ≡ leaves g.M.GuestMemory.acts (fill_prog (listed l.chain) l.response) l.initial.m)
