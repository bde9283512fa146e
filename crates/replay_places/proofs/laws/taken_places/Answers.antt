use Rattle.replay_places.proofs.Stands.{stands_on}
use Rattle.replay_places.proofs.laws.taken_places.Goals as goal

pub returns : goal.returns
returns c = record { stands = stands_on }
