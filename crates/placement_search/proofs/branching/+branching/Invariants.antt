-- The needs without a choice are what falls; the children so far are searched.
use Rattle.std.proofs.Common.{◌≡◌, ◌+◌, ◌-◌, ◌*◌, length}
use Rattle.placement_search.specs.Searched.{AreSearched}
use Rattle.placement_search.proofs.branching.+branching.Given as goal

abbrev pub decreases-search_at : goal.decreases-search_at
decreases-search_at l = 3 * (64 - length l.choices.now) + 2

abbrev pub decreases-search_children : goal.decreases-search_children
decreases-search_children l = 3 * (64 - length l.choices.now) + 1

abbrev pub decreases-search_child : goal.decreases-search_child
decreases-search_child l = 3 * (64 - length l.choices.now)

abbrev pub invariant-search_children-loop-site : goal.invariant-search_children-loop-site
invariant-search_children-loop-site l =
    AreSearched l.problem l.choices l.fn.progress l.progress l.children × (length l.children ≡ l.site-index)
