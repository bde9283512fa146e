-- The sum so far, and its bound.
use Rattle.std.proofs.Common.{◌≡◌, ◌≤◌, ◌*◌}
use Rattle.bound_certificate.specs.Sums.{sum_below}
use Rattle.bound_certificate.specs.Node.{named_by}
use Rattle.bound_certificate.proofs.hall.named_load.Given as goal

abbrev pub invariant-loop-need : goal.invariant-loop-need
invariant-loop-need l = (l.sum ≡ sum_below (named_by l.problem l.names) l.need) × (l.sum ≤ 65535 * l.need)
