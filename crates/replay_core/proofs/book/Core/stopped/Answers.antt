use Rattle.std.proofs.Common.{IsSome, arith, sym, subst}
use Rattle.replay_core.specs.Attempts.{job_of}
use Rattle.replay_core.specs.Book.{Book}
use Rattle.replay_core.proofs.Attempts.{out-known}
use Rattle.replay_core.proofs.Inside.{book_of}
use Rattle.replay_core.proofs.Kept.{stopped-kept}
use Rattle.replay_core.proofs.book.Core.stopped.Goals as goal

pub invariant_of-self : goal.invariant_of-self
invariant_of-self c =
    let b = book_of c.self.inside in
    let out = subst (λ (x : Book). IsSome (job_of x.outs c.args.ticket)) (sym c.self.view_is) c.requires.out in
    let is = out-known b.outs c.args.ticket out in (
      omega (arith, c.self.invariant.0, c.remove.ensures.capacity),
      rw c.remove.ensures.items (stopped-kept b c.args.ticket is.0 is.1 c.self.invariant.1),
    )

pub returns-clause-kept : goal.returns-clause-kept
returns-clause-kept c = (invariant_of-self c).1
