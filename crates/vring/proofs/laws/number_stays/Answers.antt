use Rattle.vring.proofs.Meanings.{number_stays}
use Rattle.vring.proofs.laws.number_stays.Goals as goal

pub returns : goal.returns
returns c = number_stays
