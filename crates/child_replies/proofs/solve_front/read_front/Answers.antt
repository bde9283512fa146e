use Rattle.std.proofs.Common.{◌∙◌}
use Rattle.child_replies.proofs.SolveFields.{magic_on, magic_stop, stops_on, version_on, version_stop}
use Rattle.reply_format.specs.Outcomes as solves
use Rattle.child_replies.proofs.solve_front.read_front.Goals as goal

pub returns-in-Err-clause-stop : goal.returns-in-Err-clause-stop
returns-in-Err-clause-stop c = magic_stop c.args.job c.args.bytes.now c.in-Err.fault c.in-Err.ensures.fault

pub returns-in-Err-version-clause-stop : goal.returns-in-Err-version-clause-stop
returns-in-Err-version-clause-stop c =
    stops_on c.args.job solves.Magic solves.Version c.args.bytes.now c.in-Ok.rest.now c.in-Err-version.fault
    (magic_on c.args.job c.args.bytes.now c.in-Ok.field-0-0.now c.in-Ok.rest.now c.in-Ok.ensures.on)
    (version_stop c.args.job c.in-Ok.rest.now c.in-Err-version.fault c.in-Err-version.ensures.fault)

pub returns-in-Ok-read_job-clause-on : goal.returns-in-Ok-read_job-clause-on
returns-in-Ok-read_job-clause-on c =
    magic_on c.args.job c.args.bytes.now c.in-Ok.field-0-0.now c.in-Ok.rest.now c.in-Ok.ensures.on
    ∙ version_on c.args.job c.in-Ok.rest.now c.in-Ok-version.rest.now c.in-Ok-version.field-0-0
    c.in-Ok-version.ensures.on
    ∙ c.in-Ok-read_job.ensures.on

pub returns-in-Err-read_job-clause-stop : goal.returns-in-Err-read_job-clause-stop
returns-in-Err-read_job-clause-stop c =
    stops_on c.args.job solves.Magic solves.Kind c.args.bytes.now c.in-Ok-version.rest.now c.in-Err-read_job.fault
    (magic_on c.args.job c.args.bytes.now c.in-Ok.field-0-0.now c.in-Ok.rest.now c.in-Ok.ensures.on
    ∙ version_on c.args.job c.in-Ok.rest.now c.in-Ok-version.rest.now c.in-Ok-version.field-0-0
    c.in-Ok-version.ensures.on)
    c.in-Err-read_job.ensures.stop
