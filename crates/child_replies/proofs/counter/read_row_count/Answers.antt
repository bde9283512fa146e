use Rattle.std.proofs.Common.{refl, arith}
use Rattle.child_replies.specs.Heads.{head_of_job}
use Rattle.child_replies.proofs.CounterFields.{row_count_on, row_count_stop}
use Rattle.child_replies.proofs.Moves.{stops_short}
use Rattle.reply_format.specs.Places.{RowCount}
use Rattle.child_replies.proofs.counter.read_row_count.Goals as goal

pub returns-in_default-clause-stop : goal.returns-in_default-clause-stop
returns-in_default-clause-stop c counters = stops_short (head_of_job c.args.job.now)
    (RowCount counters) c.args.rest.now c.in_default.ensures.short refl

pub returns-then-count-job-clause-stop : goal.returns-then-count-job-clause-stop
returns-then-count-job-clause-stop c counters =
    row_count_stop (head_of_job c.args.job.now) counters c.in-Some.field.now c.in-Some.after.now c.args.rest.now
    c.in-Some.ensures.parts c.in-Some.ensures.whole c.read_u16-count.result c.read_u16-count.ensures
    (omega (arith, c.if-count-job.true))

pub returns-clause-on : goal.returns-clause-on
returns-clause-on c counters =
    row_count_on (head_of_job c.args.job.now) counters c.in-Some.field.now c.in-Some.after.now c.args.rest.now
    c.in-Some.ensures.parts c.in-Some.ensures.whole c.read_u16-count.result c.read_u16-count.ensures
    (omega (arith, c.if-count-job.false))
