use Rattle.transfer.proofs.Plainly.{finishes_plainly}
use Rattle.transfer.proofs.laws.finishes_plainly.Goals as goal

pub returns : goal.returns
returns c = finishes_plainly
