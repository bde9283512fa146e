-- What is written, with the heaps that are left, is what is to be written.
use Rattle.std.proofs.Common.{◌≡◌, ◌++◌, drop}
use Rattle.reply_format.specs.Reply.{heaps_bytes}
use Rattle.child_replies.proofs.write_heap.put_heaps.Given as goal

abbrev pub invariant-loop-heap : goal.invariant-loop-heap
invariant-loop-heap l = l.out.items ++ heaps_bytes (drop l.heap-index l.heaps) ≡ l.initial.out.items
    ++ heaps_bytes l.heaps
