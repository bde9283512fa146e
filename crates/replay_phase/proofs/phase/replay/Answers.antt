use Rattle.std.proofs.Common.{sym, subst}
use Rattle.replay_jobs.specs.ReplayJobs.{replay_stands, replay_state}
use Rattle.replay_jobs.specs.Replays.{IsReplayWork}
use Rattle.replay_phase.proofs.Ends.{has_replayed, has_stopped, is_replay}
use Rattle.replay_phase.proofs.phase.replay.Goals as goal
use Rattle.replay_supervisor.specs.Jobs.{Work}

pub returns-in-Ok-clause-replayed : goal.returns-in-Ok-clause-replayed
returns-in-Ok-clause-replayed g c = λ r window restarts work.
    let old = g.S.Spawner.state c.args.crew.now in
    let replays = is_replay r old.issued c.args.window c.args.restarts (replay_state c.args.jobs) window restarts work in
    let s = c.in-Ok.ensures.outcome in
    has_replayed r old (g.S.Spawner.state c.supervise.new.crew) (replay_state c.supervise.new.jobs)
    (replay_stands c.supervise.new.jobs) _ replays s c.merged.result.items
    (c.merged.ensures.gathered r.setting r.epochs r.switches r.placement r.routed s.taken
    (subst (λ (w : Work). IsReplayWork r.setting r.epochs r.switches r.placement r.routed w) (sym s.work) work) s.stands)
