use Rattle.std.proofs.Common.{◌∙◌, sym, refl}
use Rattle.child_replies.proofs.SolveFields.{kind_on, kind_stop, number_on, number_stop, stops_empty, stops_on, stops_short}
use Rattle.reply_format.specs.Outcomes as solves
use Rattle.reply_format.specs.declared.fault.ReplyFault.TheVariants as faults
use Rattle.child_replies.proofs.solve_front.read_job.Goals as goal

pub returns-in_default-clause-stop : goal.returns-in_default-clause-stop
returns-in_default-clause-stop c = stops_empty c.args.job solves.Kind c.args.bytes.now c.in_default.ensures.short refl

pub returns-then-kind-ne1-clause-stop : goal.returns-then-kind-ne1-clause-stop
returns-then-kind-ne1-clause-stop c = kind_stop c.args.job c.args.bytes.now c.in-Some.rest.now c.in-Some.kind
    c.in-Some.ensures.parts c.if-kind-ne1.true

pub returns-in_default-next_field-clause-stop : goal.returns-in_default-next_field-clause-stop
returns-in_default-next_field-clause-stop c =
    stops_on c.args.job solves.Kind solves.Number c.args.bytes.now c.in-Some.rest.now faults.Short
    (kind_on c.args.job c.args.bytes.now c.in-Some.rest.now c.in-Some.kind c.in-Some.ensures.parts c.if-kind-ne1.false)
    (stops_short c.args.job solves.Number c.in-Some.rest.now c.in_default-next_field.ensures.short refl)

pub returns-then-read_u32-job-clause-on : goal.returns-then-read_u32-job-clause-on
returns-then-read_u32-job-clause-on c =
    kind_on c.args.job c.args.bytes.now c.in-Some.rest.now c.in-Some.kind c.in-Some.ensures.parts c.if-kind-ne1.false
    ∙ number_on c.args.job c.in-Some.rest.now c.in-Some-next_field.field.now c.in-Some-next_field.rest.now
    c.in-Some-next_field.ensures.parts c.in-Some-next_field.ensures.whole
    (sym c.read_u32.ensures ∙ c.if-read_u32-job.true)

pub returns-else-read_u32-job-clause-stop : goal.returns-else-read_u32-job-clause-stop
returns-else-read_u32-job-clause-stop c =
    stops_on c.args.job solves.Kind solves.Number c.args.bytes.now c.in-Some.rest.now faults.Job
    (kind_on c.args.job c.args.bytes.now c.in-Some.rest.now c.in-Some.kind c.in-Some.ensures.parts c.if-kind-ne1.false)
    (number_stop c.args.job c.in-Some.rest.now c.in-Some-next_field.field.now c.in-Some-next_field.rest.now
    c.in-Some-next_field.ensures.parts c.in-Some-next_field.ensures.whole
    (λ same. c.if-read_u32-job.false (c.read_u32.ensures ∙ same)))
