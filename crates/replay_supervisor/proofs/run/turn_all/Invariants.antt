-- All is as a call keeps it between two turns.
use Rattle.replay_core.specs.Next.{turns_left}
use Rattle.replay_supervisor.specs.Follows.{Turns, plan_of}
use Rattle.replay_supervisor.proofs.run.turn_all.Given as goal

abbrev pub invariant-turns : goal.invariant-turns
invariant-turns g l = Turns (plan_of (g.J.Jobs.state l.fn.jobs) l.fn.core) (g.S.Spawner.state l.fn.crew)
    (g.S.Spawner.state l.crew) (g.J.Jobs.state l.jobs) (g.J.Jobs.stands l.jobs) l.core

abbrev pub decreases-turns : goal.decreases-turns
decreases-turns g l = turns_left l.core
