use Rattle.model.proofs.Runs.{over_any_history}
use Rattle.model.proofs.over_any_history.Goals as goal

pub returns : goal.returns
returns c = over_any_history
