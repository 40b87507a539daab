use Rattle.device.proofs.Requests.{refuses}
use Rattle.device.proofs.laws.refuses.Goals as goal

pub returns : goal.returns
returns c = refuses
