use Rattle.std.proofs.Common.{◌∙◌, ◌<◌, ◌∷◌, ℕ, ap, inr, refl, arith}
use Rattle.child_replies.proofs.SolveFields.{may_stop_on, outcome_on, outcome_stop, stops_empty}
use Rattle.reply_format.specs.Outcomes as solves
use Rattle.child_replies.proofs.found.read_found.Goals as goal

pub returns-in_default-clause-stop : goal.returns-in_default-clause-stop
returns-in_default-clause-stop c number = inr
    (stops_empty number solves.Outcome c.args.bytes.now c.in_default.ensures.short refl)

pub returns-then-kind-eq1-clause-on : goal.returns-then-kind-eq1-clause-on
returns-then-kind-eq1-clause-on c number =
    outcome_on number c.args.bytes.now c.in-Some.rest.now 1
    (c.in-Some.ensures.parts ∙ ap (λ (kind : ℕ). kind ∷ c.in-Some.rest.now) c.if-kind-eq1.true) (omega arith)

pub returns-then-kind-eq2-clause-on : goal.returns-then-kind-eq2-clause-on
returns-then-kind-eq2-clause-on c number =
    outcome_on number c.args.bytes.now c.in-Some.rest.now 2
    (c.in-Some.ensures.parts ∙ ap (λ (kind : ℕ). kind ∷ c.in-Some.rest.now) c.if-kind-eq2.true) (omega arith)

pub returns-in-Ok-clause-on : goal.returns-in-Ok-clause-on
returns-in-Ok-clause-on c number =
    outcome_on number c.args.bytes.now c.in-Some.rest.now 0
    (c.in-Some.ensures.parts ∙ ap (λ (kind : ℕ). kind ∷ c.in-Some.rest.now) c.if-kind-eq0.true) (omega arith)
    ∙ c.in-Ok.ensures.on number

pub returns-in-Err-clause-stop : goal.returns-in-Err-clause-stop
returns-in-Err-clause-stop c number =
    may_stop_on number solves.Outcome solves.Count c.args.bytes.now c.in-Some.rest.now c.in-Err.fault
    (outcome_on number c.args.bytes.now c.in-Some.rest.now 0
    (c.in-Some.ensures.parts ∙ ap (λ (kind : ℕ). kind ∷ c.in-Some.rest.now) c.if-kind-eq0.true) (omega arith))
    (c.in-Err.ensures.stop number)

pub returns-clause-stop : goal.returns-clause-stop
returns-clause-stop c number =
    let many : 2 < c.in-Some.kind = omega (arith, c.if-kind-eq0.false, c.if-kind-eq1.false, c.if-kind-eq2.false) in
    inr (outcome_stop number c.args.bytes.now c.in-Some.rest.now c.in-Some.kind c.in-Some.ensures.parts many)
