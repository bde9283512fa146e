-- The keys so far stand.
use Rattle.std.proofs.Common.{◌-◌, [], List, ℤ}
use Rattle.child_replies.specs.Heads.{head_of_job}
use Rattle.child_replies.specs.Steps.{Moves}
use Rattle.reply_format.specs.Places.{behind_key}
use Rattle.reply_format.specs.declared.heap.Heap.{Heap}
use Rattle.child_replies.proofs.heaps.read_keys.Given as goal

abbrev pub invariant-loop : goal.invariant-loop
invariant-loop l =
    (counters : List ℤ) (heaps : List Heap) → Moves (head_of_job l.job)
    (behind_key (head_of_job l.job) counters heaps (record { dropped = l.dropped; keys = [] }) l.count) l.fn.bytes
    (behind_key (head_of_job l.job) counters heaps (record { dropped = l.dropped; keys = l.keys })
    (l.count - l.counter)) l.rest
