use Rattle.topology.proofs.Accepted.{accepted}
use Rattle.topology.proofs.laws.accepted_files.Goals as goal

pub returns : goal.returns
returns c = record { each = accepted }
