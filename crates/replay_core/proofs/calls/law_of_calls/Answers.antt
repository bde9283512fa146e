use Rattle.replay_core.proofs.AfterCalls.{agrees-after}
use Rattle.replay_core.proofs.calls.law_of_calls.Goals as goal

pub returns : goal.returns
returns c = record { law = agrees-after }
