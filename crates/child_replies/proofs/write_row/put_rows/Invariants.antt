-- The rows so far are written.
use Rattle.std.proofs.Common.{◌≡◌, ◌++◌}
use Rattle.reply_format.specs.Reply.{sparse_bytes}
use Rattle.child_replies.proofs.write_row.put_rows.Given as goal

abbrev pub invariant-loop-row : goal.invariant-loop-row
invariant-loop-row l = l.out.items ≡ l.initial.out.items ++ sparse_bytes l.row l.width l.counters
