-- No job so far is spent.
use Rattle.std.proofs.Common.{◌≡◌, None, nat_lt}
use Rattle.replay_core.specs.Below.{first_below}
use Rattle.replay_core.specs.Book.{account_at, total}
use Rattle.replay_core.proofs.want.first_spent.Given as goal

abbrev pub invariant-loop-job : goal.invariant-loop-job
invariant-loop-job l = first_below (λ job. nat_lt l.restarts (total (account_at l.accounts job).bad)) l.job ≡ None
