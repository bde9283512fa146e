use Rattle.std.proofs.Common.{◌%◌, [], nat_le, inr}
use Rattle.child_replies.specs.Heads.{head_of_job}
use Rattle.child_replies.proofs.Moves.{may_stop_on}
use Rattle.reply_format.specs.Places.{HeapLength, behind_key}
use Rattle.child_replies.proofs.heaps.read_heap.Goals as goal

pub returns-in-Err-clause-stop : goal.returns-in-Err-clause-stop
returns-in-Err-clause-stop c counters heaps = inr (c.in-Err.ensures.stop counters heaps)

pub returns-in-Err-read_keys-clause-stop : goal.returns-in-Err-read_keys-clause-stop
returns-in-Err-read_keys-clause-stop c counters heaps =
    let e = head_of_job c.args.job.now in
    let length = c.in-Ok.read.0 in
    may_stop_on e (HeapLength counters heaps)
    (behind_key e counters heaps (record { dropped = nat_le 32768 length; keys = [] }) (length % 32768))
    c.args.bytes.now c.in-Ok.read.1.now c.in-Err-read_keys.fault
    (c.in-Ok.ensures.on counters heaps) (c.in-Err-read_keys.ensures.stop counters heaps)
