-- What the code's states stand for.
use Rattle.std.specs.Prelude.{ℕ, List}
use Rattle.device.specs.Device.{Device}
use Rattle.device.specs.declared.progress.Progress.{Progress}

-- a device that has come so far and keeps these bytes
abbrev pub device_of : Progress → (kept : List ℕ) → Device
device_of p k = record { kept = k; served = p.served; stopped = p.stopped }
