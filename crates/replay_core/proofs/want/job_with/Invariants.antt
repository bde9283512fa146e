-- No job so far passes.
use Rattle.std.proofs.Common.{◌≡◌, None}
use Rattle.replay_core.specs.Attempts.{job_with}
use Rattle.replay_core.specs.Book.{account_at}
use Rattle.replay_core.proofs.want.job_with.Given as goal

abbrev pub invariant-loop-job : goal.invariant-loop-job
invariant-loop-job l = job_with l.job (λ job. (account_at l.accounts job).done) l.outs l.count ≡ None
