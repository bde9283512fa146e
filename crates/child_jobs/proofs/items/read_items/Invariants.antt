use Rattle.std.proofs.Common.{length, ◌-◌, ◌+◌, ◌≡◌, ◌≤◌, ℕ, take, vec_capacity}
use Rattle.job_format.specs.declared.place.HeadNumbers.{HeadNumbers}
use Rattle.child_jobs.specs.Items.{ReadsItems, place_in_frame}
use Rattle.child_jobs.proofs.items.read_items.Given as goal

abbrev pub invariant-loop-left : goal.invariant-loop-left
invariant-loop-left l = (l.taken ≤ length l.piece)
    × ((h : HeadNumbers) (items : ℕ) → ReadsItems (place_in_frame h items l.fn.weight l.fn.left)
    (place_in_frame h items l.weight l.left) (take l.taken l.piece) l.fn.frame.items l.frame.items)
    × (length l.frame.items + l.left ≡ length l.fn.frame.items + l.fn.left)
    × (4096 ≤ vec_capacity l.frame)

abbrev pub decreases-loop-left : goal.decreases-loop-left
decreases-loop-left l = length l.piece - l.taken
