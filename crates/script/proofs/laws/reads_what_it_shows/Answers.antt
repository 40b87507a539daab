use Rattle.script.proofs.Trips.{round_trip}
use Rattle.script.proofs.laws.reads_what_it_shows.Goals as goal

pub returns : goal.returns
returns c = round_trip
