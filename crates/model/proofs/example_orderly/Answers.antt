use Rattle.model.proofs.Examples.{orderly}
use Rattle.model.proofs.example_orderly.Goals as goal

pub returns : goal.returns
returns c = orderly
