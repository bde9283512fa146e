-- The least prices of the needs so far.
use Rattle.std.proofs.Common.{◌≡◌, ℕ, ◌<◌, ◌^◌, length, get_or}
use Rattle.std.specs.List.{All}
use Rattle.bound_certificate.specs.Floor.{floor_by}
use Rattle.placement_search.proofs.prices.least_prices.Given as goal

abbrev pub invariant-loop-j : goal.invariant-loop-j
invariant-loop-j l =
    (length l.lambda ≡ l.j)
    × ((k : ℕ) → k < l.j → get_or l.lambda k 0 ≡ floor_by l.problem l.choices k)
    × All (λ x. x < 2 ^ 56) l.lambda
