use Rattle.device.proofs.Requests.{writes}
use Rattle.device.proofs.laws.writes.Goals as goal

pub returns : goal.returns
returns c = writes
