use Rattle.std.proofs.Common.{◌-ℤ◌}
use Rattle.lane_kernels.proofs.Joins.{Joined}
use Rattle.lane_kernels.proofs.sums.sub_one_by_one.Given as goal

abbrev pub invariant-loop-i : goal.invariant-loop-i
invariant-loop-i l = Joined ◌-ℤ◌ l.initial.a l.b l.a l.i
