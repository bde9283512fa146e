use Rattle.std.proofs.Common.{◌≡◌, ℕ, ◌<◌, length, get_or}
use Rattle.topk_heap.specs.Places.{RanksLastOfGroup}
use Rattle.topk_heap.proofs.groups.search_groups.Given as goal

abbrev pub invariant-loop-group : goal.invariant-loop-group
invariant-loop-group l =
    (length l.lasts.items ≡ 32)
    × ((group d : ℕ) → group < l.group → RanksLastOfGroup l.slots group (get_or l.lasts.items group d))
