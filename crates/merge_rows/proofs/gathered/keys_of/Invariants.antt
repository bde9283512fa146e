use Rattle.std.proofs.Common.{◌≡◌, ◌≤◌, All, length}
use Rattle.std.specs.Cmp.Lexicographic.{slice_cmp}
use Rattle.std.specs.List.Sorted.{IsStrictlySortedBy}
use Rattle.std.specs.Ordering.{nat_cmp}
use Rattle.merge_rows.proofs.gathered.keys_of.Given as goal

abbrev pub invariant-loop-level : goal.invariant-loop-level
invariant-loop-level g l =
    (length l.keys.items ≡ l.level)
    × All (λ level. IsStrictlySortedBy (slice_cmp nat_cmp) level.items) l.keys.items
    × All (λ level. length level.items ≤ 1048576) l.keys.items
