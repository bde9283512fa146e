use Rattle.std.proofs.Common.{◌≡◌, Some, arith}
use Rattle.replay_core.specs.Attempts.{job_of}
use Rattle.replay_core.specs.declared.bad.Kind.TheVariants as kinds
use Rattle.replay_core.proofs.Attempts.{job-known}
use Rattle.replay_core.proofs.Inside.{book_of}
use Rattle.replay_core.proofs.Kept.{bad-kept, account-small}
use Rattle.replay_core.proofs.book.Core.feed_failed.Goals as goal

pub count_bad-requires-clause-known : goal.count_bad-requires-clause-known
count_bad-requires-clause-known c =
    let is : job_of (book_of c.self.inside).outs c.args.ticket ≡ Some c.in-Some.job = cc in
    job-known _ _ _ _ _ c.self.invariant.1.outs is

pub count_bad-requires-clause-small : goal.count_bad-requires-clause-small
count_bad-requires-clause-small c =
    account-small (book_of c.self.inside) c.in-Some.job c.self.invariant.1 (count_bad-requires-clause-known c)

pub invariant_of-self : goal.invariant_of-self
invariant_of-self c =
    let is : job_of (book_of c.self.inside).outs c.args.ticket ≡ Some c.in-Some.job = cc in (
      omega (arith, c.self.invariant.0, c.remove.ensures.capacity),
      rw (c.remove.ensures.items, c.count_bad.ensures.value) (bad-kept _ _ _ kinds.Feed is c.self.invariant.1),
    )

pub returns-in-Some-clause-kept : goal.returns-in-Some-clause-kept
returns-in-Some-clause-kept c = (invariant_of-self c).1
