-- The site so far is one of 32.
use Rattle.std.proofs.Common.{◌<◌}
use Rattle.placement_search.proofs.ascent.Ascent.cheapest.Given as goal

abbrev pub invariant-loop-site : goal.invariant-loop-site
invariant-loop-site l = l.cheapest < 32
