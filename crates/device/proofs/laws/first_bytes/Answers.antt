use Rattle.device.proofs.Requests.{first_bytes}
use Rattle.device.proofs.laws.first_bytes.Goals as goal

pub returns : goal.returns
returns c = first_bytes
