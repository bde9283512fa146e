use Rattle.honest_logs.proofs.Accepted.{accepted_good}
use Rattle.honest_logs.proofs.accepted_replies.Goals as goal

pub returns : goal.returns
returns c = record { good = accepted_good }
