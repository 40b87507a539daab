use Rattle.model.proofs.Founds.{found}
use Rattle.model.proofs.found.Goals as goal

pub returns : goal.returns
returns c = found
