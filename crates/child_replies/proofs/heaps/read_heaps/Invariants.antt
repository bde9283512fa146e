-- The heaps so far stand.
use Rattle.std.proofs.Common.{◌≡◌, [], List, ℤ, length}
use Rattle.child_replies.specs.Heads.{head_of_job}
use Rattle.child_replies.specs.Steps.{Moves}
use Rattle.reply_format.specs.Places.{HeapLength, behind_heap}
use Rattle.child_replies.proofs.heaps.read_heaps.Given as goal

abbrev pub invariant-loop : goal.invariant-loop
invariant-loop l = record {
  on : (counters : List ℤ) → Moves (head_of_job l.job) (HeapLength counters []) l.fn.bytes
      (behind_heap (head_of_job l.job) counters l.heaps) l.rest;
  number : length l.heaps ≡ l.counter;
}
