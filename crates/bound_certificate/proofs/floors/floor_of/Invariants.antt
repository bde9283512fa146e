-- The sum so far, and its bound.
use Rattle.std.proofs.Common.{◌≡◌, ◌≤◌, ◌+◌, ◌*◌}
use Rattle.bound_certificate.specs.Sums.{sum_below}
use Rattle.bound_certificate.specs.Placement.{cost}
use Rattle.bound_certificate.specs.Floor.{floor_by}
use Rattle.bound_certificate.proofs.floors.floor_of.Given as goal

abbrev pub invariant-loop-j : goal.invariant-loop-j
invariant-loop-j l =
    (l.sum ≡ cost l.problem l.choices + sum_below (floor_by l.problem l.choices) l.j)
    × (l.sum ≤ l.initial.sum + 8589934592 * l.j)
