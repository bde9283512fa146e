-- The needs so far are within the limits.
use Rattle.std.proofs.Common.{ℕ, ◌<◌, get_or}
use Rattle.bound_certificate.specs.declared.need.Need.{Need}
use Rattle.bound_certificate.specs.Limits.{IsNeed}
use Rattle.bound_certificate.proofs.within.each_is_need.Given as goal

abbrev pub invariant-loop-need : goal.invariant-loop-need
invariant-loop-need l = (k : ℕ) (d : Need) → k < l.need-index → IsNeed l.sites (get_or l.needs k d)
