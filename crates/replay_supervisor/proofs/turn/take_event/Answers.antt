use Rattle.std.proofs.Common.{ℕ, List, Ok, sym, ◌∙◌, subst}
use Rattle.crew.specs.Crew.{Waited, Leaves}
use Rattle.crew.specs.Log.Entry.{Reply}
use Rattle.crew.specs.declared.event.Event.{Event}
use Rattle.replay_core.specs.Book.{Book}
use Rattle.replay_supervisor.specs.Follows.{Follows}
use Rattle.replay_supervisor.specs.Steps.Moment.{Idle}
use Rattle.replay_core.specs.Next.{Turned}
use Rattle.replay_core.proofs.Turned.{turned-died}
use Rattle.replay_supervisor.proofs.Halting.{halts-rests, on-err}
use Rattle.replay_supervisor.proofs.Turns.{follows-died, replied, on-ok}
use Rattle.replay_supervisor.proofs.turn.take_event.Goals as goal

pub wait-requires : goal.wait-requires
wait-requires g c =
    let some = c.requires.waits.some in
    record { some = (some.0, c.requires.agrees.outs some.0 ∙ some.1) }

pub died-requires : goal.died-requires
died-requires g c = record { fresh = c.requires.waits.unspent.fresh }

pub returns-in-Died-clause-follows : goal.returns-in-Died-clause-follows
returns-in-Died-clause-follows g c p start f =
    let dies = subst (λ (e : Event). Waited (g.S.Spawner.state c.args.crew.now) (g.S.Spawner.state c.wait.new.self)
    (Ok e)) c.in-Died.is c.in-Ok.ensures.waited in
    subst (λ (x : Book). Follows p start (g.S.Spawner.state c.wait.new.self) (g.J.Jobs.state c.args.jobs.now)
    (g.J.Jobs.stands c.args.jobs.now) x Idle) (sym c.died.ensures.book)
    (follows-died p start (g.S.Spawner.state c.args.crew.now) (g.S.Spawner.state c.wait.new.self)
    (g.J.Jobs.state c.args.jobs.now) (g.J.Jobs.stands c.args.jobs.now) c.args.core.now c.in-Died.ticket
    c.requires.waits dies f)

pub returns-in-Reply-clause-follows : goal.returns-in-Reply-clause-follows
returns-in-Reply-clause-follows g c =
    let left = subst (λ (e : Event). Waited (g.S.Spawner.state c.args.crew.now) (g.S.Spawner.state c.wait.new.self)
    (Ok e)) c.in-Reply.is c.in-Ok.ensures.waited in
    let here = subst (λ (bytes : List ℕ). Leaves c.in-Reply.ticket (Reply c.in-Reply.ticket bytes)
    (g.S.Spawner.state c.args.crew.now) (g.S.Spawner.state c.wait.new.self)) (sym c.deref.ensures.value) left in
    on-ok c.take_reply.result _ _ (λ step p start f. step p start
    (replied p start (g.S.Spawner.state c.args.crew.now) (g.S.Spawner.state c.wait.new.self)
    (g.J.Jobs.state c.args.jobs.now) (g.J.Jobs.stands c.args.jobs.now) c.args.core.now c.in-Reply.ticket
    c.deref.result.now c.requires.waits here f)) c.take_reply.ensures.follows

pub returns-in_default-clause-stopped : goal.returns-in_default-clause-stopped
returns-in_default-clause-stopped g c p start f =
    halts-rests p start (g.S.Spawner.state c.args.crew.now) (g.S.Spawner.state c.wait.new.self)
    (g.J.Jobs.state c.args.jobs.now) (g.J.Jobs.stands c.args.jobs.now) c.args.core.now Idle
    c.in_default.ensures.waited f

pub returns-in-Died-clause-turned : goal.returns-in-Died-clause-turned
returns-in-Died-clause-turned g c = subst (λ (x : Book). Turned c.args.core.now x) (sym c.died.ensures.book)
    (turned-died c.args.core.now c.in-Died.ticket c.requires.waits c.requires.book)

pub returns-in-Reply-clause-stopped : goal.returns-in-Reply-clause-stopped
returns-in-Reply-clause-stopped g c =
    let left = subst (λ (e : Event). Waited (g.S.Spawner.state c.args.crew.now) (g.S.Spawner.state c.wait.new.self)
    (Ok e)) c.in-Reply.is c.in-Ok.ensures.waited in
    let here = subst (λ (bytes : List ℕ). Leaves c.in-Reply.ticket (Reply c.in-Reply.ticket bytes)
    (g.S.Spawner.state c.args.crew.now) (g.S.Spawner.state c.wait.new.self)) (sym c.deref.ensures.value) left in
    on-err c.take_reply.result _ _ (λ step p start f. step p start
    (replied p start (g.S.Spawner.state c.args.crew.now) (g.S.Spawner.state c.wait.new.self)
    (g.J.Jobs.state c.args.jobs.now) (g.J.Jobs.stands c.args.jobs.now) c.args.core.now c.in-Reply.ticket
    c.deref.result.now c.requires.waits here f)) c.take_reply.ensures.stopped
