use Rattle.std.proofs.Common.{ℕ, List, ◌<◌, get_or}
use Rattle.flow_keys.specs.Key.{IsKey}
use Rattle.child_worker.proofs.reply.check_keys.Given as goal

abbrev pub invariant-loop-key : goal.invariant-loop-key
invariant-loop-key l = (k : ℕ) (d : List ℕ) → k < l.key-index → IsKey (get_or l.keys k d)
