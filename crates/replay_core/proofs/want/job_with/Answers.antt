use Rattle.std.proofs.Common.{sym, ◌∙◌, ap, length, not, ◌&&◌, ◌==◌, arith}
use Rattle.replay_core.specs.Attempts.{job_with, tickets_of}
use Rattle.replay_core.specs.Book.{account_at}
use Rattle.replay_core.specs.declared.account.Account.{Account}
use Rattle.replay_core.proofs.Below.{first_below_found}
use Rattle.replay_core.proofs.want.job_with.Goals as goal

pub returns-then-is_ready : goal.returns-then-is_ready
unfolding job_with
returns-then-is_ready c =
    let passes = ap (λ (a : Account). not a.done && tickets_of c.args.outs.now c.loop-job.job == c.args.count)
    (sym c.account_of.ensures.value)
    ∙ sym c.is_ready.ensures.value ∙ c.if-is_ready.true in
    record {
      value = sym (first_below_found (λ job. not (account_at c.args.accounts.now job).done && tickets_of c.args.outs.now
          job == c.args.count)
          (length c.args.accounts.now) c.loop-job.job c.loop-job.invariant passes (omega arith));
    }
