use Rattle.std.proofs.Common.{subst, arith}
use Rattle.child_replies.specs.Heads.{head_of_job}
use Rattle.child_replies.specs.Steps.{Moves}
use Rattle.child_replies.proofs.Moves.{may_stop_on}
use Rattle.child_replies.proofs.Rows.{value_more}
use Rattle.reply_format.specs.Places.{Bucket, Place, behind_value}
use Rattle.child_replies.proofs.counters.read_entries.Goals as goal

pub returns-in-Err-clause-stop : goal.returns-in-Err-clause-stop
returns-in-Err-clause-stop c =
    let e = head_of_job c.args.job.now in
    let start : Place = behind_value e c.args.counters.now.items 0 c.args.count in
    may_stop_on e start (Bucket c.loop-left.counters.items c.loop-left.from c.loop-left.left) c.args.bytes.now
    c.loop-left.rest.now c.in-Err.fault
    (subst (λ (place : Place). Moves e start c.args.bytes.now place c.loop-left.rest.now)
    (value_more e c.loop-left.counters.items c.loop-left.from c.loop-left.left (omega (arith, c.loop-left-test.true)))
    c.loop-left.invariant.on)
    (c.in-Err.ensures.stop c.loop-left.left)
