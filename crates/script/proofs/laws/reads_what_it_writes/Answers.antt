use Rattle.script.proofs.Trips.{whole_round_trip}
use Rattle.script.proofs.laws.reads_what_it_writes.Goals as goal

pub returns : goal.returns
returns c = whole_round_trip
