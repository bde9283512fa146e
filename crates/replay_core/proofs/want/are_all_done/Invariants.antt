-- Each job so far is done.
use Rattle.std.proofs.Common.{◌≡◌, true}
use Rattle.replay_core.specs.Below.{all_below}
use Rattle.replay_core.specs.Book.{account_at}
use Rattle.replay_core.proofs.want.are_all_done.Given as goal

abbrev pub invariant-loop-job : goal.invariant-loop-job
invariant-loop-job l = all_below (λ job. (account_at l.accounts job).done) l.job ≡ true
