use Rattle.vring.proofs.Meanings.{sizes_mean}
use Rattle.vring.proofs.laws.sizes_mean.Goals as goal

pub returns : goal.returns
returns c = sizes_mean
