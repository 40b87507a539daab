use Rattle.script.proofs.Bounds.{reads_sound}
use Rattle.script.proofs.laws.reads_sound_commands.Goals as goal

pub returns : goal.returns
returns c = reads_sound
