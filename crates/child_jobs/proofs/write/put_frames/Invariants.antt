use Rattle.std.proofs.Common.{◌≤◌, ◌-◌, length}
use Rattle.child_jobs.proofs.Written.{FramesPut}
use Rattle.child_jobs.proofs.write.put_frames.Given as goal

abbrev pub invariant-loop-done : goal.invariant-loop-done
invariant-loop-done l = (l.done ≤ length l.items) × FramesPut l.initial.out.items l.out.items l.items l.done

abbrev pub decreases-loop-done : goal.decreases-loop-done
decreases-loop-done l = length l.items - l.done
