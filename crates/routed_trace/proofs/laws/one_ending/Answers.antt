use Rattle.routed_trace.proofs.Fronts.{accepted_trace, one_trace_fault}
use Rattle.routed_trace.proofs.laws.one_ending.Goals as goal

pub returns-clause-not_both : goal.returns-clause-not_both
returns-clause-not_both c = accepted_trace

pub returns-clause-one_fault : goal.returns-clause-one_fault
returns-clause-one_fault c = one_trace_fault
