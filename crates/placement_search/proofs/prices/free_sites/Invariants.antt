-- A price of 0 for each site so far.
use Rattle.std.proofs.Common.{◌≡◌, ℕ, length, get_or}
use Rattle.placement_search.proofs.prices.free_sites.Given as goal

abbrev pub invariant-loop : goal.invariant-loop
invariant-loop l = (length l.mu ≡ l.counter) × ((s : ℕ) → get_or l.mu s 0 ≡ 0)
