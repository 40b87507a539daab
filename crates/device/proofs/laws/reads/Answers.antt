use Rattle.device.proofs.Requests.{reads}
use Rattle.device.proofs.laws.reads.Goals as goal

pub returns : goal.returns
returns c = reads
