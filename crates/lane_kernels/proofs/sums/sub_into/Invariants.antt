use Rattle.std.proofs.Common.{◌≤◌, ◌-◌, length, ◌-ℤ◌}
use Rattle.lane_kernels.proofs.Joins.{Joined}
use Rattle.lane_kernels.proofs.sums.sub_into.Given as goal

abbrev pub invariant-loop-a : goal.invariant-loop-a
invariant-loop-a l = (l.at ≤ length l.b) × Joined ◌-ℤ◌ l.initial.a l.b l.a l.at

abbrev pub decreases-loop-a : goal.decreases-loop-a
decreases-loop-a l = length l.b - l.at
