use Rattle.std.proofs.Common.{◌≡◌, ◌+◌, ◌-◌, List, length, Result}
use Rattle.vring.specs.Programs.{ends, leaves}
use Rattle.chains.specs.Chains.{chain_prog, listed, Follows}
use Rattle.chains.specs.declared.breach.Breach.{Breach}
use Rattle.chains.specs.declared.descriptor.Descriptor.{Descriptor}
use Rattle.chains.proofs.follow.follow.Given as goal

-- what is left of the chain leaves what the whole of it leaves, and is listed behind what was listed
abbrev pub invariant-loop-taken : goal.invariant-loop-taken
invariant-loop-taken g l =
    (length (listed l.out) ≡ length (listed l.initial.out) + l._taken) × (g.M.GuestMemory.holds l.m ≡ g.M.GuestMemory.holds l.initial.m)
    × (leaves g.M.GuestMemory.acts (chain_prog (l.left - l._taken) l.table.at l.table.count l.next) l.m ≡ leaves g.M.GuestMemory.acts (chain_prog l.left l.table.at l.table.count l.i) l.initial.m)
    × ((r : Result (Unit {0}) Breach) (zs : List Descriptor) → Follows (ends g.M.GuestMemory.acts (chain_prog (l.left - l._taken) l.table.at l.table.count l.next) l.m) r (listed l.out) zs
    → Follows (ends g.M.GuestMemory.acts (chain_prog l.left l.table.at l.table.count l.i) l.initial.m) r (listed l.initial.out) zs)
