use Rattle.std.proofs.Common.{◌<◌, [], length, inr, subst, arith}
use Rattle.child_replies.specs.Heads.{head_of_job}
use Rattle.child_replies.specs.Steps.{Moves}
use Rattle.child_replies.proofs.Moves.{stops_on}
use Rattle.child_replies.proofs.Rows.{counter_more}
use Rattle.reply_format.specs.Places.{Counter, Place}
use Rattle.reply_format.specs.Reply.{counter_count}
use Rattle.child_replies.proofs.counters.read_each.Goals as goal

pub returns-in-Err-clause-stop : goal.returns-in-Err-clause-stop
returns-in-Err-clause-stop c =
    let e = head_of_job c.args.job.now in
    let less : length c.loop.counters.items < counter_count e.setting = omega
    (arith, c.requires.count, c.loop.invariant.number, c.loop-test.true) in
    inr (stops_on e (Counter []) (Counter c.loop.counters.items) c.args.bytes.now c.loop.rest.now c.in-Err.fault
    (subst (λ (place : Place). Moves e (Counter []) c.args.bytes.now place c.loop.rest.now)
    (counter_more e c.loop.counters.items less) c.loop.invariant.on)
    (c.in-Err.ensures.stop c.loop.counters.items))
