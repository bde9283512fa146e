use Rattle.std.proofs.Common.{refl, arith}
use Rattle.child_replies.specs.Heads.{head_of_job}
use Rattle.child_replies.proofs.CounterFields.{bucket_high, bucket_low, bucket_on}
use Rattle.child_replies.proofs.Moves.{stops_short}
use Rattle.reply_format.specs.Places.{Bucket}
use Rattle.child_replies.proofs.counter.read_bucket.Goals as goal

pub returns-in_default-clause-stop : goal.returns-in_default-clause-stop
returns-in_default-clause-stop c counters left = stops_short (head_of_job c.args.job.now)
    (Bucket counters c.args.from left) c.args.rest.now c.in_default.ensures.short refl

pub returns-then-bucket-from-clause-stop : goal.returns-then-bucket-from-clause-stop
returns-then-bucket-from-clause-stop c counters left =
    bucket_low (head_of_job c.args.job.now) counters c.in-Some.field.now c.in-Some.after.now c.args.rest.now
    c.in-Some.ensures.parts c.in-Some.ensures.whole c.read_u16-bucket.result c.read_u16-bucket.ensures c.args.from
    left
    (omega (arith, c.if-bucket-from.true))

pub returns-then-bucket-job-clause-stop : goal.returns-then-bucket-job-clause-stop
returns-then-bucket-job-clause-stop c counters left =
    bucket_high (head_of_job c.args.job.now) counters c.in-Some.field.now c.in-Some.after.now c.args.rest.now
    c.in-Some.ensures.parts c.in-Some.ensures.whole c.read_u16-bucket.result c.read_u16-bucket.ensures c.args.from
    left
    (omega (arith, c.if-bucket-job.true))

pub returns-clause-on : goal.returns-clause-on
returns-clause-on c counters left =
    bucket_on (head_of_job c.args.job.now) counters c.in-Some.field.now c.in-Some.after.now c.args.rest.now
    c.in-Some.ensures.parts c.in-Some.ensures.whole c.read_u16-bucket.result c.read_u16-bucket.ensures c.args.from
    left
    (omega (arith, c.if-bucket-from.false)) (omega (arith, c.if-bucket-job.false))
