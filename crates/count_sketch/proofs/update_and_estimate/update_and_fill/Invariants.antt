use Rattle.count_sketch.proofs.Estimates.{FedTo}
use Rattle.count_sketch.proofs.update_and_estimate.update_and_fill.Given as goal

abbrev pub invariant-loop-row : goal.invariant-loop-row
invariant-loop-row l =
    FedTo l.family l.level l.width
    (record { key = l.key; weight = l.weight }) l.initial.counters l.counters l.found l.row
