use Rattle.std.proofs.Common.{◌≡◌, ℕ, ◌<◌, length, get_or}
use Rattle.count_sketch.specs.Spots.{AreSpots}
use Rattle.count_sketch.specs.declared.spots.Spots.{Spots}
use Rattle.spot_table.proofs.known.spots_of_levels.Given as goal

abbrev pub invariant-loop-level : goal.invariant-loop-level
invariant-loop-level l = record {
  size : length l.levels ≡ 4;
  each : (level : ℕ) (d : Spots) → level < l.level
      → AreSpots l.family level l.params.rows l.params.width l.key (get_or l.levels level d);
}
