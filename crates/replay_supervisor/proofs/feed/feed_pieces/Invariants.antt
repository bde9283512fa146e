-- The pieces before this one are fed, and the ticket is out and open.
use Rattle.replay_supervisor.specs.Follows.{Feeding}
use Rattle.replay_supervisor.proofs.feed.feed_pieces.Given as goal

abbrev pub invariant-loop-index : goal.invariant-loop-index
invariant-loop-index g l = Feeding l.ticket l.job l.index (g.S.Spawner.state l.fn.crew) (g.S.Spawner.state l.crew)
    (g.J.Jobs.state l.fn.jobs) (g.J.Jobs.state l.jobs) (g.J.Jobs.stands l.fn.jobs) (g.J.Jobs.stands l.jobs)
