use Rattle.replay_supervisor.specs.Follows.{plan_of}
use Rattle.replay_supervisor.specs.Steps.Moment.{Idle}
use Rattle.replay_supervisor.proofs.Turns.{agrees-follows}
use Rattle.replay_supervisor.proofs.run.turn_all.Goals as goal

pub start_ticket-requires-clause-agrees : goal.start_ticket-requires-clause-agrees
start_ticket-requires-clause-agrees g c = agrees-follows (plan_of (g.J.Jobs.state c.args.jobs.now) c.args.core.now)
    (g.S.Spawner.state c.args.crew.now) (g.S.Spawner.state c.turns.crew) (g.J.Jobs.state c.turns.jobs)
    (g.J.Jobs.stands c.turns.jobs) c.turns.core Idle c.turns.invariant.follows

pub take_event-requires-clause-agrees : goal.take_event-requires-clause-agrees
take_event-requires-clause-agrees g c = agrees-follows (plan_of (g.J.Jobs.state c.args.jobs.now) c.args.core.now)
    (g.S.Spawner.state c.args.crew.now) (g.S.Spawner.state c.turns.crew) (g.J.Jobs.state c.turns.jobs)
    (g.J.Jobs.stands c.turns.jobs) c.turns.core Idle c.turns.invariant.follows
