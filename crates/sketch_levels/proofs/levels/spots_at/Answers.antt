use Rattle.std.proofs.Common.{ℕ, sym, subst}
use Rattle.count_sketch.specs.Spots.{AreSpots}
use Rattle.hash_family.specs.Setting.{setting_of}
use Rattle.sketch_levels.proofs.levels.spots_at.Goals as goal

pub returns-then-level-lt4 : goal.returns-then-level-lt4
returns-then-level-lt4 c = record {
  spots = subst (λ (seed : ℕ).
      AreSpots seed c.args.level c.args.params.now.rows c.args.params.now.width c.args.key.now c.spots.result.now)
      (sym c.requires.family)
      (c.spots.ensures.spots (setting_of c.args.params.now) c.args.key.now c.requires.known c.requires.live);
}
