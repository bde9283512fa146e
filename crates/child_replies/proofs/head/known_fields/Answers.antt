use Rattle.std.proofs.Common.{◌∙◌, sym, subst, Option}
use Rattle.child_replies.specs.Heads.{head_of_job, next_place, place_of}
use Rattle.child_replies.specs.Steps.{Moves}
use Rattle.child_replies.specs.declared.head_field.HeadField.{HeadField}
use Rattle.child_replies.proofs.Moves.{stops_on}
use Rattle.reply_format.specs.Places as places
use Rattle.child_replies.proofs.head.known_fields.Goals as goal

pub returns-in-Err-clause-stop : goal.returns-in-Err-clause-stop
returns-in-Err-clause-stop c version =
    let e = head_of_job c.args.job.now in
    stops_on e (places.Kind version) (place_of c.in-Some.field version) c.args.bytes.now c.loop-next.rest.now
    c.in-Err.fault
    (subst (λ (next : Option HeadField). Moves e (places.Kind version) c.args.bytes.now
    (next_place next version) c.loop-next.rest.now) c.in-Some.is
    (c.loop-next.invariant version))
    (c.in-Err.ensures.stop version)

pub loop-next-preserved : goal.loop-next-preserved
loop-next-preserved c version =
    let e = head_of_job c.args.job.now in
    subst (λ (next : Option HeadField). Moves e (places.Kind version) c.args.bytes.now
    (next_place next version) c.in-Ok.after.now) (sym c.following-next.ensures)
    (subst (λ (next : Option HeadField). Moves e (places.Kind version) c.args.bytes.now
    (next_place next version) c.loop-next.rest.now) c.in-Some.is
    (c.loop-next.invariant version)
    ∙ c.in-Ok.ensures.on version)

pub returns-clause-on : goal.returns-clause-on
returns-clause-on c version =
    subst (λ (next : Option HeadField). Moves (head_of_job c.args.job.now) (places.Kind version) c.args.bytes.now
    (next_place next version) c.loop-next.rest.now) c.in_default.is
    (c.loop-next.invariant version)
