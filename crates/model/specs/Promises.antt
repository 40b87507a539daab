-- What is promised of every memory, every state and every number of servings. Each statement is proved, and stands on a contract.
use Rattle.std.specs.Prelude.{◌≡◌, ℕ, zero, suc, ◌+◌, ◌%◌, ◌<◌, ◌≤◌, true, false, ◌⊎◌, List, [], ◌∷◌, length, slice_index, slice_index_or}
use Rattle.vring.specs.Words.{word}
use Rattle.vring.specs.Rings.{Ring, available_at, used_at, entry_at, ring_ok}
use Rattle.chains.specs.Descriptors.{writable}
use Rattle.chains.specs.Chains.{goes}
use Rattle.chains.specs.Usable.{usable}
use Rattle.chains.specs.declared.descriptor.Descriptor.{Descriptor}
use Rattle.transfer.specs.Requests.{request}
use Rattle.device.specs.Device.{kept_after}
use Rattle.model.specs.Serving.{pending, head, chain, regions, job, offer, State, done, serve_times, reset}

-- the ring stands in memory, and the device is one that the entries take
pub record Sound (r : Ring) (b : State) : Type 0 where
  pub stands : ring_ok r (length b.memory) ≡ true
  pub kept_len : length b.device.kept ≤ 4096
  pub count : b.device.served < 65536

abbrev pub waits : Ring → State → ℕ
waits r b = pending r b.memory b.device.served

-- ## Addresses
-- in a descriptor's part; in a writable part of a chain; in a readable one
abbrev pub InPart : Descriptor → (a : ℕ) → Type 0
InPart d a = (d.addr ≤ a) × (a < d.addr + d.len)

abbrev pub Writes : List Descriptor → (a : ℕ) → Type 0
Writes [] a = ⊥
Writes (d ∷ ds) a = ((writable d ≡ true) × InPart d a) ⊎ Writes ds a

abbrev pub Reads : List Descriptor → (a : ℕ) → Type 0
Reads [] a = ⊥
Reads (d ∷ ds) a = ((writable d ≡ false) × InPart d a) ⊎ Reads ds a

-- in the used count; in the k-th used entry
abbrev pub InCount : Ring → (a : ℕ) → Type 0
InCount r a = (used_at r ≤ a) × (a < used_at r + 2)

abbrev pub InEntry : Ring → (k a : ℕ) → Type 0
InEntry r k a = (entry_at r k ≤ a) × (a < entry_at r k + 4)

-- ## What so many servings did
-- a chain that was served: its head, its descriptors and its request as it stood then
pub record Job : Type 0 where
  pub head : ℕ
  pub chain : List Descriptor
  pub request : List ℕ

abbrev pub no_job : Job
no_job = record { head = 0; chain = []; request = [] }

-- what a device keeps that was asked these, one after the other
abbrev pub kept_by : (kept : List ℕ) → List Job → List ℕ
kept_by k [] = k
kept_by k (j ∷ js) = kept_by (kept_after k j.request) js

-- job k is the chain that stands in the memory b at the k-th place behind what was served, and may be served
pub record EntryIs (r : Ring) (b : State) (k : ℕ) (j : Job) : Type 0 where
  pub first : j.head ≡ head r b.memory (b.device.served + k)
  pub follows : chain r b.memory j.head ≡ goes j.chain
  pub good : usable (regions r) (length b.memory) false j.chain ≡ true
  pub asks : j.request ≡ request (serve_times k r b).memory j.chain

-- from the state b on, at most n servings came to the state x, and these jobs were done, each of another available entry, in order:
-- nothing else was changed than their writable parts, their used entries and the used count, and contents are as they asked
pub record Account (r : Ring) (b : State) (n : ℕ) (x : State) (js : List Job) : Type 0 where
  pub within : length js ≤ n
  pub waited : length js ≤ waits r b
  pub each : (k : ℕ) → k < length js → EntryIs r b k (slice_index_or js k no_job)
  pub served : x.device.served ≡ (b.device.served + length js) % 65536
  pub kept : x.device.kept ≡ kept_by b.device.kept js
  pub size : length x.memory ≡ length b.memory
  pub only_there : (a : ℕ) → (slice_index x.memory a ≡ slice_index b.memory a)
      ⊎ ((k : ℕ) × (k < length js) × (InCount r a ⊎ (InEntry r (b.device.served + k) a ⊎ Writes (slice_index_or js k no_job).chain a)))

abbrev pub Accounts : Type 0
Accounts = (r : Ring) (b : State) (n : ℕ) → Sound r b → (js : List Job) × Account r b n (serve_times n r b) js

-- a state that is taken stays one
abbrev pub StaysSound : Type 0
StaysSound = (r : Ring) (b : State) (n : ℕ) → Sound r b → Sound r (serve_times n r b)

-- ## Stopped, done, reset
-- once stopped nothing changes
abbrev pub StaysStopped : Type 0
StaysStopped = (r : Ring) (b : State) (n : ℕ) → b.device.stopped ≡ true → serve_times n r b ≡ b

-- with so many servings as wait none waits, or the device has stopped
abbrev pub DoneWith : Type 0
DoneWith =
    (r : Ring) (b : State) (n : ℕ) → Sound r b → waits r b ≤ n →
    ((serve_times n r b).device.stopped ≡ true) ⊎ (waits r (serve_times n r b) ≡ 0)

-- reset, with whatever memory the ring stands in, the device has served none and has not stopped, and its contents stay
abbrev pub Recovers : Type 0
Recovers =
    (r : Ring) (b : State) (m : List ℕ) → Sound r b → ring_ok r (length m) ≡ true →
    Sound r (reset m b) × ((reset m b).memory ≡ m) × ((reset m b).device.served ≡ 0) × ((reset m b).device.stopped ≡ false) × ((reset m b).device.kept ≡ b.device.kept)

-- ## A guest that keeps to the rules
-- n chains wait, all may be served, and none writes what a later one reads
pub record Orderly (r : Ring) (b : State) (n : ℕ) (c : ℕ → List Descriptor) : Type 0 where
  pub running : b.device.stopped ≡ false
  pub enough : n ≤ waits r b
  pub not_more : waits r b ≤ r.size
  pub offers : (j : ℕ) → j < n → offer r b.memory (b.device.served + j) ≡ job (head r b.memory (b.device.served + j)) (c j) (request b.memory (c j))
  pub apart : (j k a : ℕ) → j < k → k < n → Writes (c j) a → Reads (c k) a → ⊥

-- what a device keeps that is asked the first n in order, all as they stood in the memory m
abbrev pub kept_in_order : (kept m : List ℕ) → (ℕ → List Descriptor) → (n : ℕ) → List ℕ
kept_in_order k m c zero = k
kept_in_order k m c (suc n) = kept_after (kept_in_order k m c n) (request m (c n))

-- it is served as by a device that is asked one thing after the other
pub record InOrder (r : Ring) (b : State) (n : ℕ) (c : ℕ → List Descriptor) : Type 0 where
  pub kept : (serve_times n r b).device.kept ≡ kept_in_order b.device.kept b.memory c n
  pub served : (serve_times n r b).device.served ≡ (b.device.served + n) % 65536
  pub running : (serve_times n r b).device.stopped ≡ false
  -- the j-th serving answers its request from what such a device then keeps
  pub each : (j : ℕ) → j < n →
      (serve_times (suc j) r b ≡ done r (serve_times j r b) (head r b.memory (b.device.served + j)) (c j) (request b.memory (c j)))
      × ((serve_times j r b).device.kept ≡ kept_in_order b.device.kept b.memory c j)

abbrev pub AsAsked : Type 0
AsAsked = (r : Ring) (b : State) (n : ℕ) (c : ℕ → List Descriptor) → Sound r b → Orderly r b n c → InOrder r b n c

-- ## What waits
-- with what was served it is what the guest says is available
abbrev pub WaitsMeans : Type 0
WaitsMeans =
    (r : Ring) (b : State) → Sound r b →
    (waits r b < 65536) × ((b.device.served + waits r b) % 65536 ≡ word b.memory (available_at r) % 65536)
