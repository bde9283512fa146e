-- The counters so far stand.
use Rattle.std.proofs.Common.{◌≡◌, [], length}
use Rattle.child_replies.specs.Heads.{head_of_job}
use Rattle.child_replies.specs.Steps.{Moves}
use Rattle.reply_format.specs.Places.{Counter, behind_counter}
use Rattle.child_replies.proofs.counters.read_each.Given as goal

abbrev pub invariant-loop : goal.invariant-loop
invariant-loop l = record {
  on : Moves (head_of_job l.job) (Counter []) l.fn.bytes (behind_counter (head_of_job l.job) l.counters.items) l.rest;
  number : length l.counters.items ≡ l.counter;
}
