use Rattle.std.proofs.Common.{Err, inl, inr, refl, sym, ◌∙◌, ap, subst}
use Rattle.crew.specs.declared.event.CrewStop.{CrewStop}
use Rattle.replay_core.specs.Book.{Book, after_feed_failed}
use Rattle.replay_supervisor.specs.Follows.{Follows, FedOutcome}
use Rattle.replay_supervisor.specs.Steps.Moment.{Idle}
use Rattle.replay_supervisor.proofs.Halting.{halts-feeds}
use Rattle.replay_supervisor.proofs.Turns.{follows-failed}
use Rattle.replay_supervisor.proofs.feed.feed_ticket.Goals as goal

pub returns-in-Fault-clause-follows : goal.returns-in-Fault-clause-follows
returns-in-Fault-clause-follows g c p start f =
    let b = c.args.core.now in
    let fed = subst (λ (e : CrewStop). FedOutcome p start (g.S.Spawner.state c.feed_pieces.new.crew)
    (g.J.Jobs.state c.feed_pieces.new.jobs) (g.J.Jobs.stands c.feed_pieces.new.jobs) b c.args.ticket (Err e))
    c.in-Fault.is (c.in-Err.ensures.follows p start b c.requires.known f) in
    subst (λ (x : Book). Follows p start (g.S.Spawner.state c.stop.new.self) (g.J.Jobs.state c.feed_pieces.new.jobs)
    (g.J.Jobs.stands c.feed_pieces.new.jobs) x Idle) (sym
    (c.feed_failed.ensures.book ∙ ap (after_feed_failed c.args.core.now c.args.ticket) c.requires.known))
    (follows-failed p start (g.S.Spawner.state c.feed_pieces.new.crew) (g.S.Spawner.state c.stop.new.self)
    (g.J.Jobs.state c.feed_pieces.new.jobs) (g.J.Jobs.stands c.feed_pieces.new.jobs) b c.args.ticket c.args.job
    c.requires.known fed c.stop.ensures.stopped)

pub stop-requires : goal.stop-requires
stop-requires g c = record { out = c.feed_pieces.ensures.outs c.args.ticket ∙ c.requires.out }

pub returns-in-Memory-clause-outs : goal.returns-in-Memory-clause-outs
returns-in-Memory-clause-outs g c t = c.feed_pieces.ensures.outs t ∙ c.requires.outs t

pub returns-in-Memory-clause-stopped : goal.returns-in-Memory-clause-stopped
returns-in-Memory-clause-stopped g c p start f =
    let b = c.args.core.now in
    let fed = subst (λ (e : CrewStop). FedOutcome p start (g.S.Spawner.state c.feed_pieces.new.crew)
    (g.J.Jobs.state c.feed_pieces.new.jobs) (g.J.Jobs.stands c.feed_pieces.new.jobs) b c.args.ticket (Err e))
    c.in-Memory.is (c.in-Err.ensures.follows p start b c.requires.known f) in
    halts-feeds p start (g.S.Spawner.state c.feed_pieces.new.crew) (g.J.Jobs.state c.feed_pieces.new.jobs)
    (g.J.Jobs.stands c.feed_pieces.new.jobs) b c.args.ticket fed.0 fed.1

pub returns-in-Ok-clause-moved : goal.returns-in-Ok-clause-moved
returns-in-Ok-clause-moved g c = inl refl

pub returns-in-Fault-clause-moved : goal.returns-in-Fault-clause-moved
returns-in-Fault-clause-moved g c = inr (c.feed_failed.ensures.book
    ∙ ap (after_feed_failed c.args.core.now c.args.ticket) c.requires.known)
