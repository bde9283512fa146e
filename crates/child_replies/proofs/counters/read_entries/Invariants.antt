-- The counters of the row so far stand.
use Rattle.std.proofs.Common.{◌≡◌, ◌≤◌, ◌+◌, length}
use Rattle.child_replies.specs.Heads.{head_of_job}
use Rattle.child_replies.specs.Steps.{Moves}
use Rattle.reply_format.specs.Places.{behind_value}
use Rattle.child_replies.proofs.counters.read_entries.Given as goal

abbrev pub invariant-loop-left : goal.invariant-loop-left
invariant-loop-left l = record {
  on : Moves (head_of_job l.job) (behind_value (head_of_job l.job) l.fn.counters.items 0 l.fn.count) l.fn.bytes
      (behind_value (head_of_job l.job) l.counters.items l.from l.left) l.rest;
  within : l.from ≤ l.job.params.width;
  number : length l.counters.items ≡ length l.fn.counters.items + l.from;
}

abbrev pub decreases-loop-left : goal.decreases-loop-left
decreases-loop-left l = l.left
