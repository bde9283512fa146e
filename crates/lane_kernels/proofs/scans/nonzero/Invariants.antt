use Rattle.std.proofs.Common.{◌≡◌, ◌≤◌, ◌-◌, length, take}
use Rattle.lane_kernels.specs.Nonzero.{nonzero_count}
use Rattle.lane_kernels.proofs.scans.nonzero.Given as goal

abbrev pub invariant-loop-at : goal.invariant-loop-at
invariant-loop-at l = (l.at ≤ length l.a) × (l.count ≡ nonzero_count (take l.at l.a))

abbrev pub decreases-loop-at : goal.decreases-loop-at
decreases-loop-at l = length l.a - l.at
