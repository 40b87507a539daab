use Rattle.model.proofs.Examples.{served}
use Rattle.model.proofs.example_served.Goals as goal

pub returns : goal.returns
returns c = served
