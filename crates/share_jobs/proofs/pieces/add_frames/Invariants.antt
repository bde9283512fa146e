use Rattle.std.proofs.Common.{◌+◌, ◌-◌, ◌≤◌, length, map}
use Rattle.share_jobs.proofs.Frames.{FramesAdded}
use Rattle.share_jobs.proofs.pieces.add_frames.Given as goal

abbrev pub invariant-loop-done : goal.invariant-loop-done
invariant-loop-done l =
    (l.done ≤ length l.items)
    × FramesAdded (map (λ piece. piece.items) l.initial.pieces.items) (map (λ piece. piece.items) l.pieces.items)
    l.items l.done
    × (length l.pieces.items ≤ length l.initial.pieces.items + l.done)

abbrev pub decreases-loop-done : goal.decreases-loop-done
decreases-loop-done l = length l.items - l.done
