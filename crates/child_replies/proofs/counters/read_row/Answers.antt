use Rattle.std.proofs.Common.{inr}
use Rattle.child_replies.proofs.counters.read_row.Goals as goal

pub returns-in-Err-clause-stop : goal.returns-in-Err-clause-stop
returns-in-Err-clause-stop c = inr (c.in-Err.ensures.stop c.args.counters.now.items)
