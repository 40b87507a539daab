use Rattle.std.proofs.Common.{◌≡◌, ◌-◌, ◌≤◌, ◌++◌, length, drop}
use Rattle.vring.specs.Programs.{ends, leaves}
use Rattle.chains.specs.Chains.{listed}
use Rattle.transfer.specs.Requests.{request_prog}
use Rattle.transfer.proofs.gather.gather.Given as goal

abbrev pub invariant-loop-d : goal.invariant-loop-d
invariant-loop-d g l =
    let acts = g.M.GuestMemory.acts in let p = request_prog (19 - length l.out.items) (drop l.d-index l.d-items) in
    (g.M.GuestMemory.holds l.m ≡ g.M.GuestMemory.holds l.initial.m)
    × (l.out.items ++ ends acts p l.m ≡ ends acts (request_prog 19 (listed l.chain)) l.initial.m)
    × (leaves acts p l.m ≡ leaves acts (request_prog 19 (listed l.chain)) l.initial.m)
    × (length l.out.items ≤ 19)
