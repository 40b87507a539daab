use Rattle.model.proofs.Tallies.{accounts}
use Rattle.model.proofs.accounts.Goals as goal

pub returns : goal.returns
returns c = accounts
