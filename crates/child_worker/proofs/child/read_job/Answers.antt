use Rattle.std.proofs.Common.{take, ◌∙◌}
use Rattle.child_worker.proofs.Readings.{read_on, stopped_within}
use Rattle.child_worker.proofs.child.read_job.Goals as goal

pub returns-in-Err-clause-reads : goal.returns-in-Err-clause-reads
returns-in-Err-clause-reads g c =
    let read = c.loop.invariant.0 in
    rw c.status_of.ensures.value (stopped_within (g.I.Inputs.state c.args.inputs.now) (g.I.Inputs.state c.read.new.self)
    _ read.bytes (take c.in-Ok.count c.read.new.buf) c.in-Err.stop read.took c.in-Ok.ensures.bytes.0
    (λ rest. c.in-Err.ensures.breach read.bytes rest read.worked))

pub loop-preserved : goal.loop-preserved
loop-preserved g c = (
  read_on (g.I.Inputs.state c.args.inputs.now) (g.I.Inputs.state c.loop.inputs) (g.I.Inputs.state c.read.new.self)
      c.loop.work c.take.new.self (take c.in-Ok.count c.read.new.buf) c.loop.invariant.0 c.in-Ok.ensures.bytes.0
      c.in-Ok.ensures.stays c.in-Ok.ensures.cause.later c.in-Ok-take.ensures.takes,
  c.read.auto.buf ∙ c.loop.invariant.1,
  λ earlier stood. c.in-Ok.ensures.picks earlier (c.loop.invariant.2 earlier stood),
)
