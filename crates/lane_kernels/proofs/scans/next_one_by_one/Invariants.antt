use Rattle.std.proofs.Common.{◌≡◌, ◌≤◌, ◌<◌, ℕ, get_or, pos, false}
use Rattle.lane_kernels.specs.Nonzero.{is_nonzero}
use Rattle.lane_kernels.proofs.scans.next_one_by_one.Given as goal

abbrev pub invariant-loop-i : goal.invariant-loop-i
invariant-loop-i l = (i : ℕ) → l.from ≤ i → i < l.i → is_nonzero (get_or l.a i (pos 0)) ≡ false
