use Rattle.model.proofs.Serves.{done_with}
use Rattle.model.proofs.done_with.Goals as goal

pub returns : goal.returns
returns c = done_with
