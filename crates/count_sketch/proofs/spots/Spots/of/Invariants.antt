use Rattle.std.proofs.Common.{◌≡◌, ℕ, ◌<◌, length, get_or}
use Rattle.count_sketch.specs.Spots.{IsSpot}
use Rattle.count_sketch.specs.declared.spots.Spot.{Spot}
use Rattle.count_sketch.proofs.spots.Spots.of.Given as goal

abbrev pub invariant-loop-row : goal.invariant-loop-row
invariant-loop-row l = record {
  size : length l.found ≡ 7;
  each : (row : ℕ) (d : Spot) → row < l.row → IsSpot l.family l.level row l.width l.key (get_or l.found row d);
}
