use Rattle.std.proofs.Common.{◌-◌}
use Rattle.topk_heap.specs.Places.{listed}
use Rattle.topk_heap.proofs.Halves.{IsBetween}
use Rattle.topk_heap.proofs.place.place_of.Given as goal

abbrev pub invariant-loop-low : goal.invariant-loop-low
invariant-loop-low l = IsBetween (listed l.slots l.order) l.key l.low l.high

abbrev pub decreases-loop-low : goal.decreases-loop-low
decreases-loop-low l = l.high - l.low
