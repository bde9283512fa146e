-- The rest of the tickets is still to be stopped.
use Rattle.replay_supervisor.specs.Stopping.{StopsRest}
use Rattle.replay_supervisor.proofs.run.stop_all.Given as goal

abbrev pub invariant-loop-turn : goal.invariant-loop-turn
invariant-loop-turn g l = StopsRest l.turn (g.S.Spawner.state l.fn.crew) (g.S.Spawner.state l.crew) l.fn.core l.core
