use Rattle.std.proofs.Common.{◌∙◌, refl, FitsSigned, rules, w64, to_z-of_z, arith}
use Rattle.child_replies.specs.Heads.{head_of_job}
use Rattle.child_replies.proofs.CounterFields.{value_heavy, value_on, value_zero}
use Rattle.child_replies.proofs.Moves.{stops_short}
use Rattle.reply_format.specs.Places.{Value}
use Rattle.child_replies.proofs.counter.read_value.Goals as goal

pub returns-in_default-clause-stop : goal.returns-in_default-clause-stop
returns-in_default-clause-stop c counters from left = stops_short (head_of_job c.args.job.now)
    (Value counters from left) c.args.rest.now c.in_default.ensures.short refl

pub returns-then-number-eq0-clause-stop : goal.returns-then-number-eq0-clause-stop
returns-then-number-eq0-clause-stop c counters from left =
    value_zero (head_of_job c.args.job.now) counters c.in-Some.field.now c.in-Some.after.now c.args.rest.now
    c.in-Some.ensures.parts c.in-Some.ensures.whole c.read_u64-number.result c.read_u64-number.ensures from left
    c.if-number-eq0.true

pub returns-then-magnitude-job-clause-stop : goal.returns-then-magnitude-job-clause-stop
returns-then-magnitude-job-clause-stop c counters from left =
    value_heavy (head_of_job c.args.job.now) counters c.in-Some.field.now c.in-Some.after.now c.args.rest.now
    c.in-Some.ensures.parts c.in-Some.ensures.whole c.read_u64-number.result c.read_u64-number.ensures from left
    (omega (arith, c.magnitude.ensures, c.if-magnitude-job.true))

pub returns-clause-on : goal.returns-clause-on
returns-clause-on c counters from left =
    let fits : FitsSigned w64 c.signed.result = search rules in
    value_on (head_of_job c.args.job.now) counters c.in-Some.field.now c.in-Some.after.now c.args.rest.now
    c.in-Some.ensures.parts c.in-Some.ensures.whole c.read_u64-number.result c.read_u64-number.ensures from left
    _ (to_z-of_z fits ∙ c.signed.ensures) (omega (arith, c.if-number-eq0.false))
    (omega (arith, c.magnitude.ensures, c.if-magnitude-job.false))
