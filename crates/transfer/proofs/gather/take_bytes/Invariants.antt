use Rattle.std.proofs.Common.{◌≡◌, ◌+◌, ◌-◌, ◌++◌, length}
use Rattle.vring.specs.Programs.{get_bytes, ends, leaves}
use Rattle.transfer.proofs.gather.take_bytes.Given as goal

-- what is left to read goes behind what was read
abbrev pub invariant-loop-address : goal.invariant-loop-address
invariant-loop-address g l =
    let acts = g.M.GuestMemory.acts in let p = get_bytes (l.at + l.n - l.address) l.address in
    (g.M.GuestMemory.holds l.m ≡ g.M.GuestMemory.holds l.initial.m)
    × (length l.out.items + l.at ≡ length l.initial.out.items + l.address)
    × (l.out.items ++ ends acts p l.m ≡ l.initial.out.items ++ ends acts (get_bytes l.n l.at) l.initial.m)
    × (leaves acts p l.m ≡ leaves acts (get_bytes l.n l.at) l.initial.m)
