use Rattle.std.proofs.Common.{◌≡◌, sym, ◌∙◌, ap, length, nat_lt, arith}
use Rattle.std.proofs.lemmas.Bool.{lt-ltb}
use Rattle.replay_core.specs.Book.{account_at, total}
use Rattle.replay_core.specs.declared.account.Account.{Account}
use Rattle.replay_core.proofs.Below.{first_below_found}
use Rattle.replay_core.proofs.want.first_spent.Goals as goal

pub returns-then-restarts-total : goal.returns-then-restarts-total
returns-then-restarts-total c =
    let value : c.total.result ≡ total (account_at c.args.accounts.now c.loop-job.job).bad =
    c.total.ensures.value ∙ ap (λ (a : Account). total a.bad) c.account_of.ensures.value in
    let passes = lt-ltb c.args.restarts (total (account_at c.args.accounts.now c.loop-job.job).bad)
    (omega (arith, value, c.if-restarts-total.true)) in
    record {
      value = sym (first_below_found (λ job. nat_lt c.args.restarts (total (account_at c.args.accounts.now job).bad))
          (length c.args.accounts.now) c.loop-job.job c.loop-job.invariant passes (omega arith));
    }
