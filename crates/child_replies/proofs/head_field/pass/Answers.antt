use Rattle.std.proofs.Common.{◌≡◌, ◌<◌, ℕ, ◌∙◌, sym, subst, length}
use Rattle.child_replies.specs.Heads.{head_of_job, place_of}
use Rattle.child_replies.specs.Steps.{Stops}
use Rattle.child_replies.proofs.Heads.{known_inside, known_on, known_size, known_wrong}
use Rattle.child_replies.proofs.Moves.{stops_short}
use Rattle.reply_format.specs.Places.{place_size}
use Rattle.reply_format.specs.declared.fault.ReplyFault.{ReplyFault}
use Rattle.child_replies.proofs.head_field.pass.Goals as goal

pub returns-in_default-clause-stop : goal.returns-in_default-clause-stop
returns-in_default-clause-stop c version =
    let e = head_of_job c.args.job.now in
    let size : c.size.result ≡ place_size e (place_of c.args.field version) = c.size.ensures
    ∙ known_size e c.args.field version in
    stops_short e (place_of c.args.field version) c.args.rest.now
    (subst (λ (n : ℕ). length c.args.rest.now < n) size c.in_default.ensures.short) (known_inside c.args.field version)

pub returns-then-number-wanted-clause-on : goal.returns-then-number-wanted-clause-on
returns-then-number-wanted-clause-on c version =
    known_on (head_of_job c.args.job.now) c.args.field version c.in-Some.bytes.now c.in-Some.after.now c.args.rest.now
    c.in-Some.ensures.parts (c.in-Some.ensures.whole ∙ c.size.ensures)
    (sym c.number.ensures ∙ c.if-number-wanted.true ∙ c.wanted.ensures)

pub returns-else-number-wanted-clause-stop : goal.returns-else-number-wanted-clause-stop
returns-else-number-wanted-clause-stop c version =
    let e = head_of_job c.args.job.now in
    subst (λ (fault : ReplyFault). Stops e (place_of c.args.field version) c.args.rest.now fault) (sym c.fault.ensures)
    (known_wrong e c.args.field version c.in-Some.bytes.now c.in-Some.after.now c.args.rest.now
    c.in-Some.ensures.parts (c.in-Some.ensures.whole ∙ c.size.ensures)
    (λ same. c.if-number-wanted.false (c.number.ensures ∙ same ∙ sym c.wanted.ensures)))
