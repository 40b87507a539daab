use Rattle.model.proofs.Whens.{serves_when}
use Rattle.model.proofs.serves_when.Goals as goal

pub returns : goal.returns
returns c = serves_when
