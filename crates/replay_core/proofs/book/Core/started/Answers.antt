use Rattle.std.proofs.Common.{arith, ◌∙◌, ap}
use Rattle.replay_core.specs.Book.{Book, after_started}
use Rattle.replay_core.specs.Next.{next_of}
use Rattle.replay_core.proofs.Inside.{book_of}
use Rattle.replay_core.proofs.Kept.{started-kept}
use Rattle.replay_core.proofs.Starts.{start-facts}
use Rattle.replay_core.proofs.book.Core.started.Goals as goal

pub count_drawn-requires-clause-known : goal.count_drawn-requires-clause-known
count_drawn-requires-clause-known c =
    (start-facts (book_of c.self.inside) c.args.job (ap next_of c.self.view_is ∙ c.requires.wanted)).facts.known

pub count_drawn-requires-clause-small : goal.count_drawn-requires-clause-small
count_drawn-requires-clause-small c =
    let few = (c.self.invariant.1.each c.args.job (count_drawn-requires-clause-known c)).few in
    omega (arith, few, c.self.invariant.1.restarts)

pub push_reserved-requires : goal.push_reserved-requires
push_reserved-requires c =
    let facts = start-facts (book_of c.self.inside) c.args.job (ap next_of c.self.view_is ∙ c.requires.wanted) in
    omega (arith, facts.room, c.self.invariant.0)

pub invariant_of-self : goal.invariant_of-self
invariant_of-self c =
    let wants = ap next_of c.self.view_is ∙ c.requires.wanted in
    let running = ap (λ (x : Book). x.is_stopping) c.self.view_is ∙ c.requires.running in (
      omega (arith, c.self.invariant.0, c.push_reserved.ensures.capacity),
      rw (c.push_reserved.ensures.items, c.count_drawn.ensures.value)
          (started-kept (book_of c.self.inside) c.args.job wants running c.self.invariant.1),
    )

pub returns-clause-book : goal.returns-clause-book
returns-clause-book c =
    rw (c.push_reserved.ensures.items, c.count_drawn.ensures.value)
    (ap (λ (x : Book). after_started x c.args.job) c.self.view_is)

pub returns-clause-kept : goal.returns-clause-kept
returns-clause-kept c = (invariant_of-self c).1
