use Rattle.std.proofs.Common.{◌≡◌, ℕ, ◌+◌, [], Some, Err, length, arith, sym, ◌∙◌, ap, subst}
use Rattle.crew.specs.Crew.{CrewState, Started, Joins, Fails}
use Rattle.crew.specs.Log.Entry.{StartFailed}
use Rattle.crew.specs.declared.event.CrewStop.{CrewStop}
use Rattle.replay_core.specs.Attempts.{job_of, is_out}
use Rattle.replay_core.specs.Book.{Book, ticket}
use Rattle.replay_core.specs.Kept.{IsBook}
use Rattle.replay_core.specs.Next.{Turned}
use Rattle.replay_core.proofs.Turned.{turned-start_failed}
use Rattle.replay_supervisor.proofs.Halting.{halts-same, on-err, turned-then}
use Rattle.replay_core.proofs.Attempts.{job-push, out-below}
use Rattle.replay_supervisor.specs.Follows.{Follows, Feeds}
use Rattle.replay_supervisor.specs.Steps.Moment.{Idle}
use Rattle.replay_supervisor.proofs.Turns.{feeds-started, follows-start_failed, joined-outs, on-ok}
use Rattle.replay_supervisor.proofs.turn.start_ticket.Goals as goal

pub feed_ticket-requires-clause-known : goal.feed_ticket-requires-clause-known
feed_ticket-requires-clause-known g c =
    let b = c.args.core.now in
    subst (λ (t : ℕ). job_of c.started.new.self.outs t ≡ Some c.args.job) (sym c.ticket-ticket.ensures.value)
    (ap (λ (x : Book). job_of x.outs (ticket b)) c.started.ensures.book
    ∙ job-push b.outs (ticket b) c.args.job (out-below (ticket b) (length b.accounts) b.outs
    c.ticket-ticket.ensures.kept.outs))

pub returns-in-Ok-clause-follows : goal.returns-in-Ok-clause-follows
returns-in-Ok-clause-follows g c =
    let b = c.args.core.now in
    let joins = subst (λ (t : ℕ). Joins t (g.S.Spawner.state c.args.crew.now) (g.S.Spawner.state c.start.new.self))
    c.ticket-ticket.ensures.value c.in-Ok.ensures.started in
    on-ok c.feed_ticket.result _ _ (λ step p start f. step p start
    (subst (λ (t : ℕ). Feeds p start (g.S.Spawner.state c.start.new.self) (g.J.Jobs.state c.args.jobs.now)
    (g.J.Jobs.stands c.args.jobs.now) c.started.new.self t []) (sym c.ticket-ticket.ensures.value)
    (subst (λ (x : Book). Feeds p start (g.S.Spawner.state c.start.new.self) (g.J.Jobs.state c.args.jobs.now)
    (g.J.Jobs.stands c.args.jobs.now) x (ticket b) []) (sym c.started.ensures.book)
    (feeds-started p start (g.S.Spawner.state c.args.crew.now) (g.S.Spawner.state c.start.new.self)
    (g.J.Jobs.state c.args.jobs.now) (g.J.Jobs.stands c.args.jobs.now) b c.args.job c.requires.facts
    (subst (λ (x : Book). IsBook x) c.started.ensures.book c.started.ensures.kept) joins f))))
    c.feed_ticket.ensures.follows

pub returns-in-Fault-clause-follows : goal.returns-in-Fault-clause-follows
returns-in-Fault-clause-follows g c p start f =
    let b = c.args.core.now in
    let failed = subst (λ (e : CrewStop). Started c.ticket-ticket.result (g.S.Spawner.state c.args.crew.now)
    (g.S.Spawner.state c.start.new.self) (Err e)) c.in-Fault.is c.in-Err.ensures.started in
    let fails = subst (λ (t : ℕ). Fails (StartFailed t) ((g.S.Spawner.state c.args.crew.now).issued + 1)
    (g.S.Spawner.state c.args.crew.now) (g.S.Spawner.state c.start.new.self)) c.ticket-ticket.ensures.value
    failed in
    subst (λ (x : Book). Follows p start (g.S.Spawner.state c.start.new.self) (g.J.Jobs.state c.args.jobs.now)
    (g.J.Jobs.stands c.args.jobs.now) x Idle) (sym c.start_failed.ensures.book)
    (follows-start_failed p start (g.S.Spawner.state c.args.crew.now) (g.S.Spawner.state c.start.new.self)
    (g.J.Jobs.state c.args.jobs.now) (g.J.Jobs.stands c.args.jobs.now) b c.args.job c.requires.facts
    (subst (λ (x : Book). IsBook x) c.start_failed.ensures.book c.start_failed.ensures.kept) fails f)

pub feed_ticket-requires-clause-outs : goal.feed_ticket-requires-clause-outs
feed_ticket-requires-clause-outs g c =
    let b = c.args.core.now in
    let joins = subst (λ (t : ℕ). Joins t (g.S.Spawner.state c.args.crew.now) (g.S.Spawner.state c.start.new.self))
    c.ticket-ticket.ensures.value c.in-Ok.ensures.started in
    subst (λ (x : Book). (t : ℕ) → (g.S.Spawner.state c.start.new.self).is_out t ≡ is_out x.outs t)
    (sym c.started.ensures.book)
    (joined-outs (g.S.Spawner.state c.args.crew.now) (g.S.Spawner.state c.start.new.self) b c.args.job
    c.requires.agrees.outs joins)

pub returns-in-Memory-clause-outs : goal.returns-in-Memory-clause-outs
returns-in-Memory-clause-outs g c t =
    let same = subst (λ (e : CrewStop). Started c.ticket-ticket.result (g.S.Spawner.state c.args.crew.now)
    (g.S.Spawner.state c.start.new.self) (Err e)) c.in-Memory.is c.in-Err.ensures.started in
    ap (λ (x : CrewState). x.is_out t) same ∙ c.requires.agrees.outs t

pub feed_ticket-requires-clause-numbered : goal.feed_ticket-requires-clause-numbered
feed_ticket-requires-clause-numbered g c =
    omega (arith, c.requires.facts.known, c.requires.agrees.count)

pub returns-in-Ok-clause-stopped : goal.returns-in-Ok-clause-stopped
returns-in-Ok-clause-stopped g c =
    let b = c.args.core.now in
    let joins = subst (λ (t : ℕ). Joins t (g.S.Spawner.state c.args.crew.now) (g.S.Spawner.state c.start.new.self))
    c.ticket-ticket.ensures.value c.in-Ok.ensures.started in
    on-err c.feed_ticket.result _ _ (λ step p start f. step p start
    (subst (λ (t : ℕ). Feeds p start (g.S.Spawner.state c.start.new.self) (g.J.Jobs.state c.args.jobs.now)
    (g.J.Jobs.stands c.args.jobs.now) c.started.new.self t []) (sym c.ticket-ticket.ensures.value)
    (subst (λ (x : Book). Feeds p start (g.S.Spawner.state c.start.new.self) (g.J.Jobs.state c.args.jobs.now)
    (g.J.Jobs.stands c.args.jobs.now) x (ticket b) []) (sym c.started.ensures.book)
    (feeds-started p start (g.S.Spawner.state c.args.crew.now) (g.S.Spawner.state c.start.new.self)
    (g.J.Jobs.state c.args.jobs.now) (g.J.Jobs.stands c.args.jobs.now) b c.args.job c.requires.facts
    (subst (λ (x : Book). IsBook x) c.started.ensures.book c.started.ensures.kept) joins f))))
    c.feed_ticket.ensures.stopped

pub returns-in-Ok-clause-turned : goal.returns-in-Ok-clause-turned
returns-in-Ok-clause-turned g c =
    let b = c.args.core.now in
    let is : job_of c.started.new.self.outs c.ticket-ticket.result ≡ Some c.args.job = subst
    (λ (t : ℕ). job_of c.started.new.self.outs t ≡ Some c.args.job) (sym c.ticket-ticket.ensures.value)
    (ap (λ (x : Book). job_of x.outs (ticket b)) c.started.ensures.book
    ∙ job-push b.outs (ticket b) c.args.job (out-below (ticket b) (length b.accounts) b.outs
    c.ticket-ticket.ensures.kept.outs)) in
    on-ok c.feed_ticket.result _ _ (λ moved. turned-then b c.started.new.self c.feed_ticket.new.core
    c.ticket-ticket.result c.args.job c.requires.facts c.started.ensures.book c.started.ensures.kept is moved)
    c.feed_ticket.ensures.moved

pub returns-in-Fault-clause-turned : goal.returns-in-Fault-clause-turned
returns-in-Fault-clause-turned g c = subst (λ (x : Book). Turned c.args.core.now x) (sym c.start_failed.ensures.book)
    (turned-start_failed c.args.core.now c.args.job c.requires.facts
    (subst (λ (x : Book). IsBook x) c.start_failed.ensures.book c.start_failed.ensures.kept))

pub returns-in-Memory-clause-stopped : goal.returns-in-Memory-clause-stopped
returns-in-Memory-clause-stopped g c p start f =
    let same = subst (λ (e : CrewStop). Started c.ticket-ticket.result (g.S.Spawner.state c.args.crew.now)
    (g.S.Spawner.state c.start.new.self) (Err e)) c.in-Memory.is c.in-Err.ensures.started in
    halts-same p start (g.S.Spawner.state c.args.crew.now) (g.S.Spawner.state c.start.new.self)
    (g.J.Jobs.state c.args.jobs.now) (g.J.Jobs.stands c.args.jobs.now) c.args.core.now Idle same f
