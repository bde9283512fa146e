use Rattle.std.proofs.Common.{◌+◌, ◌-◌, ◌++◌, List, ℤ, inr}
use Rattle.child_replies.specs.Heads.{head_of_job}
use Rattle.child_replies.proofs.Moves.{stops_on}
use Rattle.reply_format.specs.Places.{Bucket, Value, zeros}
use Rattle.child_replies.proofs.counters.read_entry.Goals as goal

pub returns-in-Err-clause-stop : goal.returns-in-Err-clause-stop
returns-in-Err-clause-stop c left = inr (c.in-Err.ensures.stop c.args.counters.now.items left)

pub returns-in-Err-read_value-clause-stop : goal.returns-in-Err-read_value-clause-stop
returns-in-Err-read_value-clause-stop c left =
    let e = head_of_job c.args.job.now in
    let counters : List ℤ = c.args.counters.now.items ++ zeros (c.in-Ok.read.0 - c.args.from) in
    inr (stops_on e (Bucket c.args.counters.now.items c.args.from left) (Value counters (c.in-Ok.read.0 + 1) (left - 1))
    c.args.bytes.now c.in-Ok.read.1.now c.in-Err-read_value.fault
    (c.in-Ok.ensures.on c.args.counters.now.items left)
    (c.in-Err-read_value.ensures.stop counters (c.in-Ok.read.0 + 1) (left - 1)))
