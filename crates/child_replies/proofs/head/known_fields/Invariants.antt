-- The fields up to the next one stand.
use Rattle.std.proofs.Common.{ℕ}
use Rattle.child_replies.specs.Heads.{fields_left, head_of_job, next_place}
use Rattle.child_replies.specs.Steps.{Moves}
use Rattle.reply_format.specs.Places as places
use Rattle.child_replies.proofs.head.known_fields.Given as goal

abbrev pub invariant-loop-next : goal.invariant-loop-next
invariant-loop-next l =
    (version : ℕ) → Moves (head_of_job l.job) (places.Kind version) l.fn.bytes (next_place l.next version) l.rest

abbrev pub decreases-loop-next : goal.decreases-loop-next
decreases-loop-next l = fields_left l.next
