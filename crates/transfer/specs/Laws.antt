-- What gathering and finishing do to memory as it stands.
use Rattle.std.specs.Prelude.{◌≡◌, ℕ, ◌<◌, ◌≤◌, List, length, take}
use Rattle.vring.specs.Programs.{ends, leaves}
use Rattle.vring.specs.Plain.{plain}
use Rattle.vring.specs.Rings.{Ring, ends_at}
use Rattle.chains.specs.declared.descriptor.Descriptor.{Descriptor}
use Rattle.transfer.specs.Requests.{request, request_prog}
use Rattle.transfer.specs.Responses.{finished, finish_prog, Within}

-- what is gathered are the request's first bytes, and memory stays
abbrev pub GathersPlainly : Type 0
GathersPlainly =
    (n : ℕ) (ds : List Descriptor) (m : List ℕ) → Within (length m) ds →
    (ends plain (request_prog n ds) m ≡ take n (request m ds)) × (leaves plain (request_prog n ds) m ≡ m)

-- what finishing writes is what a finished chain leaves
abbrev pub FinishesPlainly : Type 0
FinishesPlainly =
    (r : Ring) (k h : ℕ) (ds : List Descriptor) (xs m : List ℕ) → 0 < r.size → ends_at r ≤ length m → Within (length m) ds →
    leaves plain (finish_prog r k h ds xs) m ≡ finished r k h ds xs m
