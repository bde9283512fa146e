use Rattle.std.proofs.Common.{◌≡◌, ◌≤◌, ◌<◌, ◌-◌, ℕ, length, get_or, pos, false}
use Rattle.lane_kernels.specs.Nonzero.{is_nonzero}
use Rattle.lane_kernels.proofs.scans.next_nonzero.Given as goal

abbrev pub invariant-loop-at : goal.invariant-loop-at
invariant-loop-at l = (l.from ≤ l.at) × (l.at ≤ length l.a)
    × ((i : ℕ) → l.from ≤ i → i < l.at → is_nonzero (get_or l.a i (pos 0)) ≡ false)

abbrev pub decreases-loop-at : goal.decreases-loop-at
decreases-loop-at l = length l.a - l.at
