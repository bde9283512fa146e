-- What is written, with the entries that are left, is what is to be written.
use Rattle.std.proofs.Common.{◌≡◌, ◌≤◌, ◌-◌, ◌++◌, length, drop}
use Rattle.reply_format.specs.Reply.{entries_bytes}
use Rattle.child_replies.proofs.write_row.put_entries.Given as goal

abbrev pub invariant-loop-place : goal.invariant-loop-place
invariant-loop-place l = record {
  items : l.out.items ++ entries_bytes l.from (drop l.from l.row) ≡ l.initial.out.items ++ entries_bytes 0 l.row;
  within : l.from ≤ length l.row;
}

abbrev pub decreases-loop-place : goal.decreases-loop-place
decreases-loop-place l = length l.row - l.from
