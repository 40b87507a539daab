use Rattle.transfer.proofs.Plainly.{gathers_plainly}
use Rattle.transfer.proofs.laws.gathers_plainly.Goals as goal

pub returns : goal.returns
returns c = gathers_plainly
