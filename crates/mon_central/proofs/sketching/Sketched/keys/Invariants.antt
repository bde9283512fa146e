use Rattle.std.proofs.Common.{◌≡◌, ◌≤◌, List, All, length, map}
use Rattle.std.specs.Cmp.Lexicographic.{slice_cmp}
use Rattle.std.specs.Ordering.{nat_cmp}
use Rattle.std.specs.List.Sorted.{IsStrictlySortedBy}
use Rattle.count_sketch.specs.Counters.{Item}
use Rattle.mon_central.specs.Sketched.{Sketches, keys_up_to}
use Rattle.mon_central.proofs.sketching.Sketched.keys.Given as goal

abbrev pub invariant-loop-level : goal.invariant-loop-level
invariant-loop-level l =
    ((items : List Item) → Sketches l.setting l.self items
    → map (λ level. level.items) l.keys.items ≡ keys_up_to l.setting items l.level)
    × (length l.keys.items ≡ l.level)
    × All (λ level. IsStrictlySortedBy (slice_cmp nat_cmp) level.items) l.keys.items
    × All (λ level. length level.items ≤ 1048576) l.keys.items
