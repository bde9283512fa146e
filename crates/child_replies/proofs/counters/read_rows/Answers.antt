use Rattle.std.proofs.Common.{◌≡◌, ◌∙◌, ◌<◌, ◌*◌, [], length, ℕ, sym, ap, subst, arith}
use Rattle.child_replies.specs.Heads.{head_of_job}
use Rattle.child_replies.specs.Steps.{Moves}
use Rattle.child_replies.proofs.Limits.{rows_less}
use Rattle.child_replies.proofs.Moves.{may_stop_on}
use Rattle.child_replies.proofs.Rows.{row_last, row_more}
use Rattle.reply_format.specs.Places.{Place, RowCount}
use Rattle.reply_format.specs.Reply.{counter_count}
use Rattle.child_replies.proofs.counters.read_rows.Goals as goal

pub returns-in-Err-clause-stop : goal.returns-in-Err-clause-stop
returns-in-Err-clause-stop c =
    let e = head_of_job c.args.job.now in
    let less : length c.loop.counters.items < counter_count e.setting =
    subst (λ (n : ℕ). n < counter_count e.setting) (sym c.loop.invariant.number)
    (rows_less e.setting c.args.job.now.params.within c.loop.counter
    (subst (λ (n : ℕ). c.loop.counter < n) c.requires.count c.loop-test.true)) in
    may_stop_on e (RowCount []) (RowCount c.loop.counters.items) c.args.bytes.now c.loop.rest.now c.in-Err.fault
    (subst (λ (place : Place). Moves e (RowCount []) c.args.bytes.now place c.loop.rest.now)
    (row_more e c.loop.counters.items less) c.loop.invariant.on)
    c.in-Err.ensures.stop

pub returns-clause-on : goal.returns-clause-on
returns-clause-on c =
    let e = head_of_job c.args.job.now in
    let end : c.loop.counter ≡ c.args.count = omega (arith, c.loop-test.false, c.loop.auto.counter-end) in
    let all : length c.loop.counters.items ≡ counter_count e.setting =
    c.loop.invariant.number ∙ ap (λ (n : ℕ). n * e.setting.width) (end ∙ c.requires.count) in
    subst (λ (place : Place). Moves e (RowCount []) c.args.bytes.now place c.loop.rest.now)
    (row_last e c.loop.counters.items all) c.loop.invariant.on
