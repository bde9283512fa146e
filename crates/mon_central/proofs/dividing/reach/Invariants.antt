use Rattle.std.proofs.Common.{◌≤◌, ◌-◌, max, List, length}
use Rattle.flow_keys.specs.declared.routed.Routed.{Routed}
use Rattle.mon_central.specs.Sketched.{Splits}
use Rattle.mon_central.proofs.dividing.reach.Given as goal

abbrev pub invariant-loop-alloc : goal.invariant-loop-alloc
invariant-loop-alloc l =
    (length l.sketches.items ≤ max (length l.initial.sketches.items) l.number)
    × (length l.initial.sketches.items ≤ length l.sketches.items)
    × ((routed : List Routed) → Splits l.setting l.initial.sketches.items routed
    → Splits l.setting l.sketches.items routed)

abbrev pub decreases-loop-alloc : goal.decreases-loop-alloc
decreases-loop-alloc l = l.number - length l.sketches.items
