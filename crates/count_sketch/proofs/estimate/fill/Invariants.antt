use Rattle.count_sketch.proofs.Estimates.{FilledTo}
use Rattle.count_sketch.proofs.estimate.fill.Given as goal

abbrev pub invariant-loop-row : goal.invariant-loop-row
invariant-loop-row l = FilledTo l.family l.level l.width l.counters l.key l.found l.row
