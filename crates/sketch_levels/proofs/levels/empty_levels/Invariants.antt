use Rattle.std.proofs.Common.{◌≡◌, ℕ, [], length}
use Rattle.std.specs.List.{All}
use Rattle.hash_family.specs.Setting.{setting_of}
use Rattle.sketch_levels.specs.Levels.{IsLayer, layer_of}
use Rattle.sketch_levels.proofs.levels.empty_levels.Given as goal

abbrev pub invariant-loop : goal.invariant-loop
invariant-loop l = record {
  number : length l.levels.items ≡ l.counter;
  empty : All (λ layer. (level : ℕ) → layer ≡ layer_of (setting_of l.params) level []) l.levels.items;
  shape : All (IsLayer (setting_of l.params) 0) l.levels.items;
}
