use Rattle.std.proofs.Common.{◌∙◌}
use Rattle.child_replies.specs.Heads.{head_of_job}
use Rattle.child_replies.specs.Steps.{Moves}
use Rattle.child_replies.proofs.Heads.{magic_on, magic_stop, version_on, version_stop}
use Rattle.child_replies.proofs.Moves.{stops_on}
use Rattle.reply_format.specs.Places as places
use Rattle.child_replies.proofs.head.read_head.Goals as goal

pub returns-in-Err-clause-stop : goal.returns-in-Err-clause-stop
returns-in-Err-clause-stop c = magic_stop (head_of_job c.args.job.now) c.args.bytes.now c.in-Err.fault
    c.in-Err.ensures.fault

pub returns-in-Err-version-clause-stop : goal.returns-in-Err-version-clause-stop
returns-in-Err-version-clause-stop c =
    let e = head_of_job c.args.job.now in
    stops_on e places.Magic places.Version c.args.bytes.now c.in-Ok.rest.now c.in-Err-version.fault
    (magic_on e c.args.bytes.now c.in-Ok.field-0-0.now c.in-Ok.rest.now c.in-Ok.ensures.on)
    (version_stop e c.in-Ok.rest.now c.in-Err-version.fault c.in-Err-version.ensures.fault)

pub returns-in-Ok-known_fields-clause-on : goal.returns-in-Ok-known_fields-clause-on
returns-in-Ok-known_fields-clause-on c =
    let e = head_of_job c.args.job.now in
    magic_on e c.args.bytes.now c.in-Ok.field-0-0.now c.in-Ok.rest.now c.in-Ok.ensures.on
    ∙ version_on e c.in-Ok.rest.now c.in-Ok-version.read.1.now c.in-Ok-version.read.0 c.in-Ok-version.ensures.on
    ∙ c.in-Ok-known_fields.ensures.on c.in-Ok-version.read.0

pub returns-in-Err-known_fields-clause-stop : goal.returns-in-Err-known_fields-clause-stop
returns-in-Err-known_fields-clause-stop c =
    let e = head_of_job c.args.job.now in
    let to : Moves e places.Magic c.args.bytes.now (places.Kind c.in-Ok-version.read.0) c.in-Ok-version.read.1.now =
    magic_on e c.args.bytes.now c.in-Ok.field-0-0.now c.in-Ok.rest.now c.in-Ok.ensures.on
    ∙ version_on e c.in-Ok.rest.now c.in-Ok-version.read.1.now c.in-Ok-version.read.0 c.in-Ok-version.ensures.on in
    stops_on e places.Magic (places.Kind c.in-Ok-version.read.0) c.args.bytes.now c.in-Ok-version.read.1.now
    c.in-Err-known_fields.fault
    to (c.in-Err-known_fields.ensures.stop c.in-Ok-version.read.0)
