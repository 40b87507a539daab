-- When a chain is served and when the device stops, in the ring's own words; and what the guest finds in memory afterwards.
use Rattle.std.specs.Prelude.{◌≡◌, ℕ, ◌+◌, ◌%◌, ◌<◌, ◌≤◌, min, true, false, cond, List, [], ◌∷◌, ◌++◌, length, take, drop, slice_index}
use Rattle.vring.specs.Words.{word}
use Rattle.vring.specs.Rings.{Ring, used_at, entry_at, ring_ok}
use Rattle.chains.specs.Descriptors.{writable}
use Rattle.chains.specs.Laws.{Linked, AllFit, InOrder}
use Rattle.chains.specs.declared.descriptor.Descriptor.{Descriptor}
use Rattle.transfer.specs.Responses.{capacity, following, finished}
use Rattle.transfer.specs.Requests.{request}
use Rattle.device.specs.Device.{response}
use Rattle.model.specs.Serving.{head, regions, State, cut, stop, done, serve}
use Rattle.model.specs.Promises.{InPart, Writes, waits}

-- the bytes of the writable parts, in order
abbrev pub read_back : List ℕ → List Descriptor → List ℕ
read_back m [] = []
read_back m (d ∷ ds) = cond (writable d) (take d.len (drop d.addr m) ++ read_back m ds) (read_back m ds)

-- no two writable parts overlap
abbrev pub Apart : List Descriptor → Type 0
Apart [] = Unit {0}
Apart (d ∷ ds) = ((a : ℕ) → writable d ≡ true → InPart d a → Writes ds a → ⊥) × Apart ds

-- the used count, the used entry, and, if the writable parts do not overlap, the response in them
abbrev pub Found : Type 0
Found =
    (r : Ring) (k i : ℕ) (ds : List Descriptor) (xs m : List ℕ) → ring_ok r (length m) ≡ true → AllFit (regions r) (length m) ds → length xs ≤ capacity ds →
    (word (finished r k i ds xs m) (used_at r) ≡ following k)
    × (word (finished r k i ds xs m) (entry_at r k) ≡ i % 65536)
    × (word (finished r k i ds xs m) (entry_at r k + 2) ≡ length xs % 65536)
    × (Apart ds → take (length xs) (read_back (finished r k i ds xs m) ds) ≡ xs)

-- the next chain: its descriptors are linked from its head on and not too many, each part lies in memory and clear of the ring, and the
-- writable ones stand last
pub record Good (r : Ring) (b : State) (ds : List Descriptor) : Type 0 where
  pub links : Linked r.base r.size b.memory (head r b.memory b.device.served) ds
  pub few : length ds ≤ r.size
  pub parts : AllFit (regions r) (length b.memory) ds
  pub order : InOrder ds

-- of a device that has not stopped: with nothing waiting nothing is done; with more waiting than the ring has places, or a next chain that
-- is not good, it stops; and a good chain is served
abbrev pub ServesWhen : Type 0
ServesWhen =
    (r : Ring) (b : State) → b.device.stopped ≡ false →
    (waits r b ≡ 0 → serve r b ≡ b)
    × (r.size < waits r b → serve r b ≡ stop b)
    × (0 < waits r b → waits r b ≤ r.size → ((ds : List Descriptor) → Good r b ds → ⊥) → serve r b ≡ stop b)
    × ((ds : List Descriptor) → 0 < waits r b → waits r b ≤ r.size → Good r b ds → serve r b ≡ done r b (head r b.memory b.device.served) ds (request b.memory ds))

-- what is written of a response are its first bytes, as many as the capacity allows
abbrev pub CutOff : Type 0
CutOff =
    (k : List ℕ) (ds : List Descriptor) (q : List ℕ) →
    (length (cut k ds q) ≡ min (capacity ds) (length (response k q))) × ((i : ℕ) → i < length (cut k ds q) → slice_index (cut k ds q) i ≡ slice_index (response k q) i)
