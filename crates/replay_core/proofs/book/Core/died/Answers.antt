use Rattle.std.proofs.Common.{◌≡◌, Some, None, is_some, arith, sym, ◌∙◌, ap}
use Rattle.replay_core.specs.Attempts.{job_of, is_out}
use Rattle.replay_core.specs.Book.{Book}
use Rattle.replay_core.proofs.Inside.{book_of}
use Rattle.replay_core.specs.declared.bad.Kind.TheVariants as kinds
use Rattle.replay_core.proofs.Attempts.{out-job, job-known}
use Rattle.replay_core.proofs.Kept.{bad-kept, account-small}
use Rattle.replay_core.proofs.book.Core.died.Goals as goal

pub count_bad-requires-clause-known : goal.count_bad-requires-clause-known
count_bad-requires-clause-known c =
    let is : job_of (book_of c.self.inside).outs c.args.ticket ≡ Some c.in-Some.job = cc in
    job-known _ _ _ _ _ c.self.invariant.1.outs is

pub count_bad-requires-clause-small : goal.count_bad-requires-clause-small
count_bad-requires-clause-small c =
    account-small (book_of c.self.inside) c.in-Some.job c.self.invariant.1 (count_bad-requires-clause-known c)

pub invariant_of-self : goal.invariant_of-self
invariant_of-self c =
    let is : job_of (book_of c.self.inside).outs c.args.ticket ≡ Some c.in-Some.job = cc in (
      omega (arith, c.self.invariant.0, c.remove.ensures.capacity),
      rw (c.remove.ensures.items, c.count_bad.ensures.value) (bad-kept _ _ _ kinds.Died is c.self.invariant.1),
    )

pub returns-in-Some-clause-value : goal.returns-in-Some-clause-value
returns-in-Some-clause-value c =
    let is : job_of (book_of c.self.inside).outs c.args.ticket ≡ Some c.in-Some.job = cc in
    sym (ap (λ (x : Book). is_out x.outs c.args.ticket) (sym c.self.view_is) ∙ out-job _ _ ∙ ap is_some is)

pub returns-in-None-clause-value : goal.returns-in-None-clause-value
returns-in-None-clause-value c =
    let is : job_of (book_of c.self.inside).outs c.args.ticket ≡ None = cc in
    sym (ap (λ (x : Book). is_out x.outs c.args.ticket) (sym c.self.view_is) ∙ out-job _ _ ∙ ap is_some is)

pub returns-in-Some-clause-kept : goal.returns-in-Some-clause-kept
returns-in-Some-clause-kept c = (invariant_of-self c).1
