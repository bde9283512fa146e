use Rattle.std.proofs.Common.{arith, ◌∙◌, ap}
use Rattle.replay_core.specs.Book.{Book, after_start_failed, count_drawn, count_bad, total}
use Rattle.replay_core.specs.Next.{next_of}
use Rattle.replay_core.specs.declared.account.Account.{Account}
use Rattle.replay_core.specs.declared.bad.Kind.TheVariants as kinds
use Rattle.replay_core.proofs.Books.{with-twice, account-here, length-with}
use Rattle.replay_core.proofs.Inside.{book_of}
use Rattle.replay_core.proofs.Kept.{start_failed-kept, account-small}
use Rattle.replay_core.proofs.Starts.{start-facts}
use Rattle.replay_core.proofs.book.Core.start_failed.Goals as goal

pub count_drawn-requires-clause-known : goal.count_drawn-requires-clause-known
count_drawn-requires-clause-known c =
    (start-facts (book_of c.self.inside) c.args.job (ap next_of c.self.view_is ∙ c.requires.wanted)).facts.known

pub count_drawn-requires-clause-small : goal.count_drawn-requires-clause-small
count_drawn-requires-clause-small c =
    let few = (c.self.invariant.1.each c.args.job (count_drawn-requires-clause-known c)).few in
    omega (arith, few, c.self.invariant.1.restarts)

pub count_bad-requires-clause-known : goal.count_bad-requires-clause-known
count_bad-requires-clause-known c =
    let facts = start-facts (book_of c.self.inside) c.args.job (ap next_of c.self.view_is ∙ c.requires.wanted) in
    let size = length-with (book_of c.self.inside).accounts c.args.job count_drawn in
    rw c.count_drawn.ensures.value (omega (arith, facts.facts.known, size))

pub count_bad-requires-clause-small : goal.count_bad-requires-clause-small
count_bad-requires-clause-small c =
    let b = book_of c.self.inside in
    let known = (start-facts b c.args.job (ap next_of c.self.view_is ∙ c.requires.wanted)).facts.known in
    let same = ap (λ (a : Account). total a.bad) (account-here b.accounts c.args.job count_drawn known) in
    let small = account-small b c.args.job c.self.invariant.1 known in
    rw c.count_drawn.ensures.value (omega (arith, same, small))

pub invariant_of-self : goal.invariant_of-self
invariant_of-self c =
    let b = book_of c.self.inside in
    let wants = ap next_of c.self.view_is ∙ c.requires.wanted in
    let running = ap (λ (x : Book). x.is_stopping) c.self.view_is ∙ c.requires.running in
    let known = (start-facts b c.args.job wants).facts.known in
    let twice = with-twice b.accounts c.args.job count_drawn (count_bad kinds.Start) known in (
      c.self.invariant.0,
      rw (c.count_bad.ensures.value, c.count_drawn.ensures.value, twice)
          (start_failed-kept b c.args.job wants running c.self.invariant.1),
    )

pub returns-clause-book : goal.returns-clause-book
returns-clause-book c =
    let b = book_of c.self.inside in
    let known = (start-facts b c.args.job (ap next_of c.self.view_is ∙ c.requires.wanted)).facts.known in
    let twice = with-twice b.accounts c.args.job count_drawn (count_bad kinds.Start) known in
    rw (c.count_bad.ensures.value, c.count_drawn.ensures.value, twice)
    (ap (λ (x : Book). after_start_failed x c.args.job) c.self.view_is)

pub returns-clause-kept : goal.returns-clause-kept
returns-clause-kept c = (invariant_of-self c).1
