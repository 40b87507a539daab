use Rattle.device.proofs.Requests.{keeps}
use Rattle.device.proofs.laws.keeps.Goals as goal

pub returns : goal.returns
returns c = keeps
