use Rattle.model.proofs.Serves.{waits_means}
use Rattle.model.proofs.waits_means.Goals as goal

pub returns : goal.returns
returns c = waits_means
