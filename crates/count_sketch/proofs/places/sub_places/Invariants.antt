use Rattle.std.proofs.Common.{◌-ℤ◌}
use Rattle.count_sketch.proofs.Steps.{Joined}
use Rattle.count_sketch.proofs.places.sub_places.Given as goal

abbrev pub invariant-loop-i : goal.invariant-loop-i
invariant-loop-i l = Joined ◌-ℤ◌ l.initial.numbers l.others l.numbers l.i
