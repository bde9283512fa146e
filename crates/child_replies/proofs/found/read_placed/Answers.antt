use Rattle.std.proofs.Common.{◌∙◌, [], inr, refl, arith}
use Rattle.child_replies.proofs.SolveFields.{count_many, count_none, count_on, may_stop_on, stops_empty}
use Rattle.reply_format.specs.Outcomes as solves
use Rattle.child_replies.proofs.found.read_placed.Goals as goal

pub returns-in_default-clause-stop : goal.returns-in_default-clause-stop
returns-in_default-clause-stop c number = inr
    (stops_empty number solves.Count c.args.bytes.now c.in_default.ensures.short refl)

pub returns-then-count-eq0-clause-stop : goal.returns-then-count-eq0-clause-stop
returns-then-count-eq0-clause-stop c number = inr
    (count_none number c.args.bytes.now c.in-Some.rest.now c.in-Some.count c.in-Some.ensures.parts c.if-count-eq0.true)

pub returns-then-count-gt64-clause-stop : goal.returns-then-count-gt64-clause-stop
returns-then-count-gt64-clause-stop c number = inr
    (count_many number c.args.bytes.now c.in-Some.rest.now c.in-Some.count c.in-Some.ensures.parts
    (omega (arith, c.if-count-gt64.true)))

pub returns-in-Ok-clause-on : goal.returns-in-Ok-clause-on
returns-in-Ok-clause-on c number =
    count_on number c.args.bytes.now c.in-Some.rest.now c.in-Some.count c.in-Some.ensures.parts
    (omega (arith, c.if-count-eq0.false)) (omega (arith, c.if-count-gt64.false))
    ∙ c.in-Ok.ensures.on number

pub returns-in-Err-clause-stop : goal.returns-in-Err-clause-stop
returns-in-Err-clause-stop c number =
    may_stop_on number solves.Count (solves.Site [] c.in-Some.count) c.args.bytes.now c.in-Some.rest.now c.in-Err.fault
    (count_on number c.args.bytes.now c.in-Some.rest.now c.in-Some.count c.in-Some.ensures.parts
    (omega (arith, c.if-count-eq0.false)) (omega (arith, c.if-count-gt64.false)))
    (c.in-Err.ensures.stop number)
