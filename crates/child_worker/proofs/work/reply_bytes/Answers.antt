use Rattle.std.proofs.Common.{List, ℕ, [], subst, append-nil}
use Rattle.child_worker.specs.Work.{StopsAt}
use Rattle.child_worker.proofs.work.reply_bytes.Goals as goal

pub returns-in-Err-clause-breach : goal.returns-in-Err-clause-breach
returns-in-Err-clause-breach c =
    subst (λ (l : List ℕ). StopsAt l c.in-Err.stop) (append-nil c.args.job.now) (c.in-Err.ensures.breach [] [] c.in-Ok.ensures.start)
