-- The sum so far, and its bound.
use Rattle.std.proofs.Common.{◌≡◌, ◌≤◌, ◌*◌, sum, take}
use Rattle.bound_certificate.proofs.dual.total.Given as goal

abbrev pub invariant-loop-x : goal.invariant-loop-x
invariant-loop-x l = (l.sum ≡ sum (take l.x-index l.lambda)) × (l.sum ≤ 72057594037927936 * l.x-index)
