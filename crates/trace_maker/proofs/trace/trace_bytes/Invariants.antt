-- The records so far.
use Rattle.trace_maker.proofs.Traces.{Made}
use Rattle.trace_maker.proofs.trace.trace_bytes.Given as goal

abbrev pub invariant-loop-number : goal.invariant-loop-number
invariant-loop-number l = Made l.seed l.flows l.number l.trace.items l.stream
