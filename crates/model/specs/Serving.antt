-- What one serving does, over a memory that nobody else writes: a look, which only reads, and an act, which reads nothing.
use Rattle.std.specs.Prelude.{ℕ, zero, suc, ◌+◌, ◌-◌, ◌%◌, true, false, cond, List, [], ◌∷◌, length, take, ◌==◌, nat_le}
use Rattle.vring.specs.Words.{word}
use Rattle.vring.specs.Rings.{Ring, available_at, ends_at, head_at}
use Rattle.chains.specs.Chains.{Walk, bad, goes, chain_from}
use Rattle.chains.specs.Usable.{usable}
use Rattle.chains.specs.declared.descriptor.Descriptor.{Descriptor}
use Rattle.chains.specs.declared.region.Region.{Region}
use Rattle.transfer.specs.Requests.{request}
use Rattle.transfer.specs.Responses.{capacity, following, finished}
use Rattle.device.specs.Device.{Device, response, kept_after}

-- ## Look
-- how many chains wait, of a device that has served so many: counts go from 65,535 to 0
abbrev pub pending_by : (count served : ℕ) → ℕ
pending_by c s = (c + 65536 - s) % 65536

unfoldable pub pending : Ring → (memory : List ℕ) → (served : ℕ) → ℕ
pending r m s = pending_by (word m (available_at r)) s

-- the head of the k-th chain that was made available
unfoldable pub head : Ring → (memory : List ℕ) → (k : ℕ) → ℕ
head r m k = word m (head_at r k)

-- the chain with a head: at most as many descriptors as the ring has
unfoldable pub chain : Ring → (memory : List ℕ) → (head : ℕ) → Walk
chain r m i = chain_from r.size r.base r.size m i

-- what descriptors keep clear of
abbrev pub regions : Ring → List Region
regions r = record { from = r.base; to = ends_at r } ∷ []

-- what a look finds: nothing waits, the guest breaks the rules, or a chain to be served: its head, its descriptors and its request
pub data Look : Type 0 where
  nothing : Look
  halt : Look
  job : (head : ℕ) → List Descriptor → (request : List ℕ) → Look

unfoldable pub look_chain : Ring → (memory : List ℕ) → (head : ℕ) → Walk → Look
look_chain r m i bad = halt
look_chain r m i (goes ds) = cond (usable (regions r) (length m) false ds) (job i ds (request m ds)) halt

-- the k-th chain, as a job
unfoldable pub offer : Ring → (memory : List ℕ) → (k : ℕ) → Look
offer r m k = look_chain r m (head r m k) (chain r m (head r m k))

unfoldable pub look : Ring → (memory : List ℕ) → (served : ℕ) → Look
look r m s = cond (pending r m s == 0) nothing (cond (nat_le (pending r m s) r.size) (offer r m s) halt)

-- ## Act
-- guest memory and device together
pub record State : Type 0 where
  pub memory : List ℕ
  pub device : Device

-- the response, cut off at the capacity
unfoldable pub cut : (kept : List ℕ) → List Descriptor → (request : List ℕ) → List ℕ
cut k ds q = take (capacity ds) (response k q)

-- the device after a request, and when it has stopped
abbrev pub device_after : Device → (request : List ℕ) → Device
device_after d q = record { kept = kept_after d.kept q; served = following d.served; stopped = false }

abbrev pub halted : Device → Device
halted d = record { kept = d.kept; served = d.served; stopped = true }

unfoldable pub stop : State → State
stop b = record { memory = b.memory; device = halted b.device }

-- a job done: all that it needs was read before
unfoldable pub done : Ring → State → (head : ℕ) → List Descriptor → (request : List ℕ) → State
done r b i ds q = record { memory = finished r b.device.served i ds (cut b.device.kept ds q) b.memory; device = device_after b.device q }

unfoldable pub act : Ring → State → Look → State
act r b nothing = b
act r b halt = stop b
act r b (job i ds q) = done r b i ds q

-- ## Serving
unfoldable pub serve : Ring → State → State
serve r b = cond b.device.stopped b (act r b (look r b.memory b.device.served))

-- so many servings, one after the other
unfoldable pub serve_times : ℕ → Ring → State → State
serve_times zero r b = b
serve_times (suc n) r b = serve r (serve_times n r b)

-- the device reset, with whatever memory the guest then has: as new, with its contents kept
abbrev pub reset : (memory : List ℕ) → State → State
reset m b = record { memory = m; device = record { kept = b.device.kept; served = 0; stopped = false } }
