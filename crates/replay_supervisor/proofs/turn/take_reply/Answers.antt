use Rattle.std.proofs.Common.{◌≡◌, ◌+◌, length, false, Some, None, arith, sym, ◌∙◌, ap, subst}
use Rattle.replay_core.proofs.Kept.{undone}
use Rattle.replay_core.specs.Attempts.{job_of, is_out}
use Rattle.replay_core.specs.Book.{Book, after_reply, take_of, rival_in}
use Rattle.replay_core.proofs.Attempts.{job-known, out-without}
use Rattle.replay_core.specs.Next.{Turned}
use Rattle.replay_core.proofs.Turned.{turned-reply}
use Rattle.replay_supervisor.proofs.Halting.{halts-take}
use Rattle.replay_supervisor.specs.Follows.{Follows, Halts}
use Rattle.replay_supervisor.specs.Steps.Moment.{Idle}
use Rattle.replay_supervisor.proofs.Turns.{follows-stale, follows-none, follows-some, rival-some, rival-is-out}
use Rattle.replay_supervisor.proofs.turn.take_reply.Goals as goal

pub reply-requires : goal.reply-requires
reply-requires g c = record { fresh = c.requires.waits.unspent.fresh }

pub take-requires-clause-known : goal.take-requires-clause-known
take-requires-clause-known g c =
    let b = c.args.core.now in
    let known = job-known (b.first + b.drawn) (length b.accounts) b.outs c.args.ticket c.in-Some.job
    c.requires.book.outs (sym c.in-Some.ensures.value) in
    omega (arith, known, c.requires.agrees.count)

pub take-requires-clause-free : goal.take-requires-clause-free
take-requires-clause-free g c = c.requires.agrees.marks c.in-Some.job
    ∙ undone c.args.core.now c.args.ticket c.in-Some.job c.requires.book (sym c.in-Some.ensures.value)

pub reply-requires-2 : goal.reply-requires-2
reply-requires-2 g c = record { fresh = c.requires.waits.unspent.fresh }

pub stop-requires : goal.stop-requires
stop-requires g c =
    let is : job_of c.args.core.now.outs c.args.ticket ≡ Some c.in-Some.job = sym c.in-Some.ensures.value in
    let to_stop : rival_in (take_of c.args.core.now c.args.ticket c.in-Ok.good (Some c.in-Some.job)) ≡ Some
    c.in-Some-rival.rival =
    ap (λ o. rival_in (take_of c.args.core.now c.args.ticket c.in-Ok.good o)) (sym is)
    ∙ ap rival_in (sym c.reply-2.ensures.value) ∙ sym c.in-Some-rival.ensures.value in
    record {
      out = rival-is-out c.args.core.now c.args.ticket c.in-Some.job c.in-Some-rival.rival
          (λ s. (g.S.Spawner.state c.args.crew.now).is_out s) c.requires.book c.requires.agrees.outs
          (rival-some c.in-Ok.good c.args.core.now c.args.ticket c.in-Some.job c.in-Some-rival.rival to_stop).1;
    }

pub returns-in_default-clause-follows : goal.returns-in_default-clause-follows
returns-in_default-clause-follows g c p start r =
    let is : job_of c.args.core.now.outs c.args.ticket ≡ None = sym c.in_default.ensures.value in
    subst (λ (x : Book). Follows p start (g.S.Spawner.state c.args.crew.now) (g.J.Jobs.state c.args.jobs.now)
    (g.J.Jobs.stands c.args.jobs.now) x Idle)
    (sym (c.reply.ensures.book ∙ ap (λ o. after_reply c.args.core.now c.args.ticket false o) is))
    (follows-stale p start (g.S.Spawner.state c.args.crew.now) (g.J.Jobs.state c.args.jobs.now)
    (g.J.Jobs.stands c.args.jobs.now) c.args.core.now c.args.ticket c.args.bytes.now r
    c.requires.waits.unspent.fresh is)

pub returns-in-Some-rival-clause-follows : goal.returns-in-Some-rival-clause-follows
returns-in-Some-rival-clause-follows g c p start r =
    let is : job_of c.args.core.now.outs c.args.ticket ≡ Some c.in-Some.job = sym c.in-Some.ensures.value in
    let to_stop : rival_in (take_of c.args.core.now c.args.ticket c.in-Ok.good (Some c.in-Some.job)) ≡ Some
    c.in-Some-rival.rival =
    ap (λ o. rival_in (take_of c.args.core.now c.args.ticket c.in-Ok.good o)) (sym is)
    ∙ ap rival_in (sym c.reply-2.ensures.value) ∙ sym c.in-Some-rival.ensures.value in
    subst (λ (x : Book). Follows p start (g.S.Spawner.state c.stop.new.self) (g.J.Jobs.state c.take.new.self)
    (g.J.Jobs.stands c.take.new.self) x Idle)
    (sym (c.reply-2.ensures.book ∙ ap (λ o. after_reply c.args.core.now c.args.ticket c.in-Ok.good o) is))
    (follows-some c.in-Ok.good p start (g.S.Spawner.state c.args.crew.now) (g.S.Spawner.state c.stop.new.self)
    (g.J.Jobs.state c.args.jobs.now) (g.J.Jobs.state c.take.new.self) (g.J.Jobs.stands c.args.jobs.now)
    (g.J.Jobs.stands c.take.new.self)
    c.args.core.now c.args.ticket c.in-Some.job c.in-Some-rival.rival c.args.bytes.now r is c.in-Ok.ensures.took to_stop
    c.stop.ensures.stopped)

pub returns-in-None-clause-follows : goal.returns-in-None-clause-follows
returns-in-None-clause-follows g c p start r =
    let is : job_of c.args.core.now.outs c.args.ticket ≡ Some c.in-Some.job = sym c.in-Some.ensures.value in
    let to_stop : rival_in (take_of c.args.core.now c.args.ticket c.in-Ok.good (Some c.in-Some.job)) ≡ None =
    ap (λ o. rival_in (take_of c.args.core.now c.args.ticket c.in-Ok.good o)) (sym is)
    ∙ ap rival_in (sym c.reply-2.ensures.value) ∙ sym c.in-None.ensures.value in
    subst (λ (x : Book). Follows p start (g.S.Spawner.state c.args.crew.now) (g.J.Jobs.state c.take.new.self)
    (g.J.Jobs.stands c.take.new.self) x Idle)
    (sym (c.reply-2.ensures.book ∙ ap (λ o. after_reply c.args.core.now c.args.ticket c.in-Ok.good o) is))
    (follows-none c.in-Ok.good p start (g.S.Spawner.state c.args.crew.now) (g.J.Jobs.state c.args.jobs.now)
    (g.J.Jobs.state c.take.new.self) (g.J.Jobs.stands c.args.jobs.now) (g.J.Jobs.stands c.take.new.self)
    c.args.core.now c.args.ticket c.in-Some.job c.args.bytes.now r is c.in-Ok.ensures.took to_stop)

pub returns-in_default-take-clause-outs : goal.returns-in_default-take-clause-outs
returns-in_default-take-clause-outs g c t =
    let b = c.args.core.now in
    c.requires.agrees.outs t ∙ sym (out-without (b.first + b.drawn) (length b.accounts) b.outs c.args.ticket t
    c.requires.book.outs) ∙ ap (λ (x : Book). is_out x.outs t) (sym c.stopped.ensures.book)

pub returns-in_default-take-clause-stopped : goal.returns-in_default-take-clause-stopped
returns-in_default-take-clause-stopped g c p start r =
    subst (λ (x : Book). Halts p start (g.S.Spawner.state c.args.crew.now) (g.J.Jobs.state c.take.new.self)
    (g.J.Jobs.stands c.take.new.self) x) (sym c.stopped.ensures.book)
    (halts-take p start (g.S.Spawner.state c.args.crew.now) (g.J.Jobs.state c.args.jobs.now)
    (g.J.Jobs.state c.take.new.self) (g.J.Jobs.stands c.args.jobs.now) (g.J.Jobs.stands c.take.new.self)
    c.args.core.now c.args.ticket c.in-Some.job c.args.bytes.now r (sym c.in-Some.ensures.value)
    c.in_default-take.ensures.took)

pub returns-in_default-clause-turned : goal.returns-in_default-clause-turned
returns-in_default-clause-turned g c = subst (λ (x : Book). Turned c.args.core.now x) (sym c.reply.ensures.book)
    (turned-reply c.args.core.now c.args.ticket false c.requires.waits c.requires.book)

pub returns-in-Some-rival-clause-turned : goal.returns-in-Some-rival-clause-turned
returns-in-Some-rival-clause-turned g c = subst (λ (x : Book). Turned c.args.core.now x) (sym c.reply-2.ensures.book)
    (turned-reply c.args.core.now c.args.ticket c.in-Ok.good c.requires.waits c.requires.book)

pub returns-in-None-clause-turned : goal.returns-in-None-clause-turned
returns-in-None-clause-turned g c = subst (λ (x : Book). Turned c.args.core.now x) (sym c.reply-2.ensures.book)
    (turned-reply c.args.core.now c.args.ticket c.in-Ok.good c.requires.waits c.requires.book)
