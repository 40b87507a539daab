use Rattle.model.proofs.Whens.{cut_off}
use Rattle.model.proofs.cut_off.Goals as goal

pub returns : goal.returns
returns c = cut_off
