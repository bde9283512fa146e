use Rattle.trace_maker.proofs.Traces.{length-generated_trace}
use Rattle.trace_maker.proofs.laws.one_size.Goals as goal

pub returns : goal.returns
returns c = record { size = length-generated_trace }
