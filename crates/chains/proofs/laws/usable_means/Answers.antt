use Rattle.chains.proofs.Meanings.{usable_means}
use Rattle.chains.proofs.laws.usable_means.Goals as goal

pub returns : goal.returns
returns c = usable_means
