use Rattle.model.proofs.Serves.{stays_sound}
use Rattle.model.proofs.stays_sound.Goals as goal

pub returns : goal.returns
returns c = stays_sound
