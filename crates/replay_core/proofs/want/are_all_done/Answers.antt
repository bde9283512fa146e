use Rattle.std.proofs.Common.{sym, ◌∙◌, ap, length, arith}
use Rattle.replay_core.specs.Book.{account_at}
use Rattle.replay_core.specs.declared.account.Account.{Account}
use Rattle.replay_core.proofs.Below.{all_below_fails}
use Rattle.replay_core.proofs.want.are_all_done.Goals as goal

pub returns-then-not-account_of : goal.returns-then-not-account_of
returns-then-not-account_of c =
    record {
      value = sym (all_below_fails (λ job. (account_at c.args.accounts.now job).done) (length c.args.accounts.now)
          c.loop-job.job (omega arith)
          (ap (λ (a : Account). a.done) (sym c.account_of.ensures.value) ∙ c.if-not-account_of.true));
    }
