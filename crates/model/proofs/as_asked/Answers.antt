use Rattle.model.proofs.Asked.{as_asked}
use Rattle.model.proofs.as_asked.Goals as goal

pub returns : goal.returns
returns c = as_asked
