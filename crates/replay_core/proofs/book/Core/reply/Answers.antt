use Rattle.std.proofs.Common.{◌≡◌, Some, None, arith}
use Rattle.replay_core.specs.Attempts.{job_of, without, ticket_of}
use Rattle.replay_core.specs.declared.bad.Kind.TheVariants as kinds
use Rattle.replay_core.proofs.Attempts.{job-known}
use Rattle.replay_core.proofs.Inside.{book_of}
use Rattle.replay_core.proofs.Kept.{bad-kept, first-alone-kept, first-rival-kept, account-small}
use Rattle.replay_core.proofs.book.Core.reply.Goals as goal

pub count_bad-requires-clause-known : goal.count_bad-requires-clause-known
count_bad-requires-clause-known c =
    let is : job_of (book_of c.self.inside).outs c.args.ticket ≡ Some c.in-Some.job = cc in
    job-known _ _ _ _ _ c.self.invariant.1.outs is

pub count_bad-requires-clause-small : goal.count_bad-requires-clause-small
count_bad-requires-clause-small c =
    account-small (book_of c.self.inside) c.in-Some.job c.self.invariant.1 (count_bad-requires-clause-known c)

pub set_done-requires : goal.set_done-requires
set_done-requires c =
    let is : job_of (book_of c.self.inside).outs c.args.ticket ≡ Some c.in-Some.job = cc in
    record { known = job-known _ _ _ _ _ c.self.invariant.1.outs is }

pub invariant_of-self-then-not-good : goal.invariant_of-self-then-not-good
invariant_of-self-then-not-good c =
    let is : job_of (book_of c.self.inside).outs c.args.ticket ≡ Some c.in-Some.job = cc in (
      omega (arith, c.self.invariant.0, c.remove.ensures.capacity),
      rw (c.remove.ensures.items, c.count_bad.ensures.value) (bad-kept _ _ _ kinds.Reply is c.self.invariant.1),
    )

pub returns-then-not-good-clause-kept : goal.returns-then-not-good-clause-kept
returns-then-not-good-clause-kept c = (invariant_of-self-then-not-good c).1

pub invariant_of-self-in-Some-ticket_of : goal.invariant_of-self-in-Some-ticket_of
invariant_of-self-in-Some-ticket_of c =
    let b = book_of c.self.inside in
    let is : job_of b.outs c.args.ticket ≡ Some c.in-Some.job = cc in
    let other : ticket_of (without c.args.ticket b.outs) c.in-Some.job ≡ Some c.in-Some-ticket_of.rival = cc in (
      omega (arith, c.self.invariant.0, c.remove.ensures.capacity, c.remove-in-Some-ticket_of.ensures.capacity),
      rw (c.remove-in-Some-ticket_of.ensures.items, c.remove.ensures.items, c.set_done.ensures.value)
          (first-rival-kept b _ _ _ is other c.self.invariant.1),
    )

pub invariant_of-self-in-None : goal.invariant_of-self-in-None
invariant_of-self-in-None c =
    let b = book_of c.self.inside in
    let is : job_of b.outs c.args.ticket ≡ Some c.in-Some.job = cc in
    let alone : ticket_of (without c.args.ticket b.outs) c.in-Some.job ≡ None = cc in (
      omega (arith, c.self.invariant.0, c.remove.ensures.capacity),
      rw (c.remove.ensures.items, c.set_done.ensures.value) (first-alone-kept b _ _ is alone c.self.invariant.1),
    )

pub returns-in-Some-ticket_of-clause-kept : goal.returns-in-Some-ticket_of-clause-kept
returns-in-Some-ticket_of-clause-kept c = (invariant_of-self-in-Some-ticket_of c).1

pub returns-in-None-clause-kept : goal.returns-in-None-clause-kept
returns-in-None-clause-kept c = (invariant_of-self-in-None c).1
