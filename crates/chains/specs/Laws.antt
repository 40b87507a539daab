-- What the definitions of chains mean, in the ring's own words.
use Rattle.std.specs.Prelude.{◌≡◌, ℕ, ◌+◌, ◌*◌, ◌<◌, ◌≤◌, Bool, true, false, ◌⊎◌, ◌↔◌, List, [], ◌∷◌, length}
use Rattle.vring.specs.Programs.{ends, leaves}
use Rattle.vring.specs.Plain.{plain}
use Rattle.chains.specs.Descriptors.{has_next, writable, described, descriptor_at, next_at}
use Rattle.chains.specs.Chains.{goes, chain_from, chain_prog}
use Rattle.chains.specs.Usable.{usable}
use Rattle.chains.specs.declared.descriptor.Descriptor.{Descriptor}
use Rattle.chains.specs.declared.region.Region.{Region}

-- descriptor i of the table of n at t begins the chain ds
pub data Linked (t n : ℕ) (m : List ℕ) : ℕ → List Descriptor → Type 0 where
  last : {i : ℕ} → i < n → has_next (descriptor_at m (t + 8 * i)) ≡ false → Linked t n m i (descriptor_at m (t + 8 * i) ∷ [])
  more : {i : ℕ} {ds : List Descriptor} → i < n → has_next (descriptor_at m (t + 8 * i)) ≡ true → Linked t n m (next_at m (t + 8 * i)) ds →
      Linked t n m i (descriptor_at m (t + 8 * i) ∷ ds)

-- a chain is good if its descriptors are linked so and are not too many
abbrev pub ChainMeans : Type 0
ChainMeans = (f t n : ℕ) (m : List ℕ) (i : ℕ) (ds : List Descriptor) → (chain_from f t n m i ≡ goes ds) ↔ (Linked t n m i ds × (length ds ≤ f))

-- a part in a memory of so many bytes, wholly before or wholly behind each region
abbrev pub Clear : Region → Descriptor → Type 0
Clear g d = (d.addr + d.len ≤ g.from) ⊎ (g.to ≤ d.addr)

abbrev pub AllClear : List Region → Descriptor → Type 0
AllClear [] d = Unit {0}
AllClear (g ∷ gs) d = Clear g d × AllClear gs d

pub record Fit (gs : List Region) (n : ℕ) (d : Descriptor) : Type 0 where
  pub inside : d.addr + d.len ≤ n
  pub apart : AllClear gs d

abbrev pub AllFit : List Region → (n : ℕ) → List Descriptor → Type 0
AllFit gs n [] = Unit {0}
AllFit gs n (d ∷ ds) = Fit gs n d × AllFit gs n ds

abbrev pub AllWritable : List Descriptor → Type 0
AllWritable [] = Unit {0}
AllWritable (d ∷ ds) = (writable d ≡ true) × AllWritable ds

-- behind a writable descriptor all are writable
abbrev pub InOrder : List Descriptor → Type 0
InOrder [] = Unit {0}
InOrder (d ∷ ds) = (writable d ≡ true → AllWritable ds) × InOrder ds

abbrev pub UsableMeans : Type 0
UsableMeans = (gs : List Region) (n : ℕ) (ds : List Descriptor) → (usable gs n false ds ≡ true) ↔ (AllFit gs n ds × InOrder ds)

-- followed over memory as it stands, a chain is the one that stands there, and memory stays
abbrev pub FollowsPlainly : Type 0
FollowsPlainly = (f t n i : ℕ) (m : List ℕ) → (ends plain (chain_prog f t n i) m ≡ chain_from f t n m i) × (leaves plain (chain_prog f t n i) m ≡ m)

-- a flag as a number
abbrev pub bit : Bool → ℕ
bit true = 1
bit false = 0

-- flag 1 says that another follows, flag 2 that the device writes the part, and other flag bits do not count
abbrev pub FlagsMean : Type 0
FlagsMean =
    (a l others : ℕ) (follows writes : Bool) →
    (has_next (described a l (bit follows + 2 * bit writes + 4 * others)) ≡ follows) × (writable (described a l (bit follows + 2 * bit writes + 4 * others)) ≡ writes)
