-- The device state that is lent: how many chains were served, and 1 if the device has stopped.
use Rattle.std.specs.Prelude.{ℕ, Bool, cond, ◌&&◌, List, [], ◌∷◌, length, ◌==◌, nat_le, nat_lt, slice_index}
use Rattle.device.specs.Device.{Device}

-- whether numbers say a state: two of them, the first below 65,536, the second at most 1
abbrev pub state_ok : (state : List ℕ) → Bool
state_ok s = length s == 2 && (nat_lt (slice_index s 0) 65536 && nat_le (slice_index s 1) 1)

-- the device of this state that keeps these bytes
abbrev pub device_in : (state kept : List ℕ) → Device
device_in s k = record { kept = k; served = slice_index s 0; stopped = (slice_index s 1 == 1) }

-- the two numbers of a device
abbrev pub numbers_of : Device → List ℕ
numbers_of d = d.served ∷ cond d.stopped 1 0 ∷ []
