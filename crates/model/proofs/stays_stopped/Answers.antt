use Rattle.model.proofs.Serves.{stays_stopped}
use Rattle.model.proofs.stays_stopped.Goals as goal

pub returns : goal.returns
returns c = stays_stopped
