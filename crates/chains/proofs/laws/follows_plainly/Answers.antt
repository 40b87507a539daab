use Rattle.chains.proofs.Walks.{follows_plainly}
use Rattle.chains.proofs.laws.follows_plainly.Goals as goal

pub returns : goal.returns
returns c = follows_plainly
