-- One serving and many, as programs of single reads and writes.
use Rattle.std.specs.Prelude.{ℕ, zero, suc, Bool, true, false, cond, ◌==◌, nat_le}
use Rattle.vring.specs.Programs.{Prog, ret, get, then, pair}
use Rattle.vring.specs.Rings.{Ring, available_at, head_at}
use Rattle.chains.specs.Chains.{Walk, bad, goes, chain_prog}
use Rattle.chains.specs.Usable.{usable}
use Rattle.transfer.specs.Requests.{request_prog}
use Rattle.transfer.specs.Responses.{finish_prog}
use Rattle.device.specs.Device.{Device}
use Rattle.model.specs.Serving.{pending_by, regions, Look, nothing, halt, job, cut, device_after, halted}

-- ## Look, in a memory of n bytes
-- a chain that was followed is checked, and the first bytes of its request are gathered
unfoldable pub take_prog : Ring → (n head : ℕ) → Walk → Prog Look
take_prog r n h bad = ret halt
take_prog r n h (goes ds) = cond (usable (regions r) n false ds) (then (request_prog 19 ds) (λ q. ret (job h ds q))) (ret halt)

-- the chain that is next
unfoldable pub next_prog : Ring → (n served : ℕ) → Prog Look
next_prog r n s = get pair (head_at r s) (λ h. then (chain_prog r.size r.base r.size h) (λ w. take_prog r n h w))

unfoldable pub look_prog : Ring → (n served : ℕ) → Prog Look
look_prog r n s =
    get pair (available_at r) (λ c. cond (pending_by c s == 0) (ret nothing) (cond (nat_le (pending_by c s) r.size) (next_prog r n s) (ret halt)))

-- ## A turn: one serving, and whether a chain was served, so that another may wait
pub record Turn : Type 0 where
  pub again : Bool
  pub device : Device

abbrev pub turned : Bool → Device → Turn
turned b d = record { again = b; device = d }

unfoldable pub act_prog : Ring → Device → Look → Prog Turn
act_prog r d nothing = ret (turned false d)
act_prog r d halt = ret (turned false (halted d))
act_prog r d (job i ds q) = then (finish_prog r d.served i ds (cut d.kept ds q)) (λ _. ret (turned true (device_after d q)))

unfoldable pub turn_prog : Ring → (n : ℕ) → Device → Prog Turn
turn_prog r n d = cond d.stopped (ret (turned false d)) (then (look_prog r n d.served) (λ l. act_prog r d l))

-- at most so many servings: no more once a turn served nothing
unfoldable pub run_prog : (times : ℕ) → Ring → (n : ℕ) → Device → Prog Device
run_prog zero r n d = ret d
run_prog (suc f) r n d = then (turn_prog r n d) (λ t. cond t.again (run_prog f r n t.device) (ret t.device))
