use Rattle.count_sketch.proofs.Steps.{AddedTo}
use Rattle.count_sketch.proofs.update.update_in.Given as goal

abbrev pub invariant-loop-row : goal.invariant-loop-row
invariant-loop-row l =
    AddedTo l.family l.level l.width (record { key = l.key; weight = l.weight }) l.initial.counters l.counters l.row
