use Rattle.child_worker.proofs.Readings.{replied, stopped_behind}
use Rattle.child_worker.proofs.child.reply_to_input.Goals as goal

pub returns-in-Ok-finish-clause-replies : goal.returns-in-Ok-finish-clause-replies
returns-in-Ok-finish-clause-replies g c =
    let all = c.in-Ok-read_job.ensures.reads in (
      all.over,
      replied c.in-Ok-finish.reply.items all.took all.over (c.in-Ok-finish.ensures.answers all.bytes all.worked),
    )

pub returns-clause-replies : goal.returns-clause-replies
returns-clause-replies g c =
    let all = c.in-Ok-read_job.ensures.reads in
    rw c.status_of.ensures.value (stopped_behind (g.I.Inputs.state c.args.inputs.now)
    (g.I.Inputs.state c.read_job.new.inputs) all.bytes c.in-Err-finish.stop all.took all.over
    (c.in-Err-finish.ensures.breach all.bytes all.worked))
