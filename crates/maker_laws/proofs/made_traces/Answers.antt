use Rattle.maker_laws.proofs.Members.{is_trace, length-members_of}
use Rattle.maker_laws.proofs.made_traces.Goals as goal

pub returns-clause-trace : goal.returns-clause-trace
returns-clause-trace c = is_trace

pub returns-clause-number : goal.returns-clause-number
returns-clause-number c = length-members_of
