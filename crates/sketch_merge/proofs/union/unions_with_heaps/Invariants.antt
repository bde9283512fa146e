use Rattle.std.proofs.Common.{◌≡◌, map, take}
use Rattle.std.specs.Simd.Lanes.{zip2}
use Rattle.sketch_merge.specs.Merged.{united}
use Rattle.sketch_merge.proofs.union.unions_with_heaps.Given as goal

abbrev pub invariant-loop-i : goal.invariant-loop-i
invariant-loop-i l =
    map (λ level. level.items) l.all.items
    ≡ take l.i (zip2 united (map (λ level. level.items) l.levels) (map (λ heap. heap.keys) l.heaps))
