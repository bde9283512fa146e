use Rattle.std.proofs.Common.{◌≡◌, ℕ, Ok, Err, refl, sym, ◌∙◌, ap, subst}
use Rattle.replay_core.specs.Book.{Book, new_book}
use Rattle.replay_core.specs.Kept.{IsBook}
use Rattle.replay_supervisor.specs.Follows.{Ended, Turns, plan_of}
use Rattle.replay_supervisor.specs.Steps.{Plan}
use Rattle.replay_supervisor.proofs.Starting.{start-turns, finish, halt, nothing}
use Rattle.replay_supervisor.proofs.run.supervise.Goals as goal

pub turn_all-requires : goal.turn_all-requires
turn_all-requires g c =
    let book : c.in-Ok.core ≡ new_book (g.S.Spawner.state c.args.crew.now).issued
    (g.J.Jobs.state c.args.jobs.now).work.count c.args.window c.args.restarts =
    c.in-Ok.ensures.book ∙ ap (λ (n : ℕ). new_book n c.count-count.result c.args.window c.args.restarts)
    c.issued-first.ensures.value
    ∙ ap (λ (n : ℕ). new_book (g.S.Spawner.state c.args.crew.now).issued n c.args.window c.args.restarts)
    c.count-count.ensures.value in
    record {
      starts = subst (λ (x : Book). Turns (plan_of (g.J.Jobs.state c.args.jobs.now) x)
          (g.S.Spawner.state c.args.crew.now) (g.S.Spawner.state c.args.crew.now) (g.J.Jobs.state c.args.jobs.now)
          (g.J.Jobs.stands c.args.jobs.now) x) (sym book)
          (start-turns (g.S.Spawner.state c.args.crew.now) (g.J.Jobs.state c.args.jobs.now)
          (g.J.Jobs.stands c.args.jobs.now) c.args.window c.args.restarts
          (subst (λ (x : Book). IsBook x) book c.in-Ok.ensures.kept) c.requires.none_out c.requires.fresh
          (g.met.J.Jobs.starts c.args.jobs.now c.requires.fresh));
    }

pub returns-in-Ok-turn_all : goal.returns-in-Ok-turn_all
unfolding new_book
returns-in-Ok-turn_all g c =
    let book : c.in-Ok.core ≡ new_book (g.S.Spawner.state c.args.crew.now).issued
    (g.J.Jobs.state c.args.jobs.now).work.count c.args.window c.args.restarts =
    c.in-Ok.ensures.book ∙ ap (λ (n : ℕ). new_book n c.count-count.result c.args.window c.args.restarts)
    c.issued-first.ensures.value
    ∙ ap (λ (n : ℕ). new_book (g.S.Spawner.state c.args.crew.now).issued n c.args.window c.args.restarts)
    c.count-count.ensures.value in
    record {
      outcome = finish (record {
        work = (g.J.Jobs.state c.args.jobs.now).work;
        first = (g.S.Spawner.state c.args.crew.now).issued;
        window = c.args.window;
        restarts = c.args.restarts;
      })
          (g.S.Spawner.state c.args.crew.now) (g.S.Spawner.state c.turn_all.new.crew)
          (g.J.Jobs.state c.turn_all.new.jobs) (g.J.Jobs.stands c.turn_all.new.jobs) c.turn_all.new.core tt
          (subst (λ (p : Plan). Ended p (g.S.Spawner.state c.args.crew.now) (g.S.Spawner.state c.turn_all.new.crew)
          (g.J.Jobs.state c.turn_all.new.jobs) (g.J.Jobs.stands c.turn_all.new.jobs) c.turn_all.new.core (Ok tt))
          (ap (λ (x : Book). plan_of (g.J.Jobs.state c.args.jobs.now) x) book) c.in-Ok-turn_all.ensures.ended) refl;
    }

pub returns : goal.returns
unfolding new_book
returns g c =
    let book : c.in-Ok.core ≡ new_book (g.S.Spawner.state c.args.crew.now).issued
    (g.J.Jobs.state c.args.jobs.now).work.count c.args.window c.args.restarts =
    c.in-Ok.ensures.book ∙ ap (λ (n : ℕ). new_book n c.count-count.result c.args.window c.args.restarts)
    c.issued-first.ensures.value
    ∙ ap (λ (n : ℕ). new_book (g.S.Spawner.state c.args.crew.now).issued n c.args.window c.args.restarts)
    c.count-count.ensures.value in
    record {
      outcome = halt c.in-Err.stop
          (record {
            work = (g.J.Jobs.state c.args.jobs.now).work;
            first = (g.S.Spawner.state c.args.crew.now).issued;
            window = c.args.window;
            restarts = c.args.restarts;
          }) (g.S.Spawner.state c.args.crew.now)
          (g.S.Spawner.state c.turn_all.new.crew) (g.S.Spawner.state c.stop_all.new.crew)
          (g.J.Jobs.state c.turn_all.new.jobs) (g.J.Jobs.stands c.turn_all.new.jobs) c.turn_all.new.core
          (subst (λ (p : Plan). Ended p (g.S.Spawner.state c.args.crew.now) (g.S.Spawner.state c.turn_all.new.crew)
          (g.J.Jobs.state c.turn_all.new.jobs) (g.J.Jobs.stands c.turn_all.new.jobs) c.turn_all.new.core
          (Err c.in-Err.stop)) (ap (λ (x : Book). plan_of (g.J.Jobs.state c.args.jobs.now) x) book)
          c.in-Err.ensures.ended) refl c.stop_all.ensures.stopped;
    }

pub returns-in_default : goal.returns-in_default
returns-in_default g c =
    record {
      outcome = nothing
          (record {
            work = (g.J.Jobs.state c.args.jobs.now).work;
            first = (g.S.Spawner.state c.args.crew.now).issued;
            window = c.args.window;
            restarts = c.args.restarts;
          }) (g.S.Spawner.state c.args.crew.now)
          (g.J.Jobs.state c.args.jobs.now) (g.J.Jobs.stands c.args.jobs.now) refl c.requires.none_out c.requires.fresh
          (g.met.J.Jobs.starts c.args.jobs.now c.requires.fresh);
    }
