use Rattle.chains.proofs.Meanings.{chain_means}
use Rattle.chains.proofs.laws.chain_means.Goals as goal

pub returns : goal.returns
returns c = chain_means
