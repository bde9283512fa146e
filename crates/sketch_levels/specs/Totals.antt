-- The entries of a tally in memory.
use Rattle.std.specs.Prelude.{◌≡◌, ℕ, ◌+◌, List, [], ◌∷◌, ◌++◌, map}
use Rattle.count_sketch.specs.Counters.{Item}
use Rattle.sketch_levels.specs.Items.{weight_of}
use Rattle.sketch_levels.specs.Stands.{IsTally, KeyTotal, packets_of, weights_of}
use Rattle.sketch_levels.specs.declared.tally.Total.{Total}

-- what clauses see of the entries
abbrev pub tallied : List (List ℕ × Total) → List KeyTotal
tallied entries = map (λ entry. record { key = entry.0; packets = entry.1.packets; weight = entry.1.weight }) entries

-- one item more is counted
pub record AddsItem (key : List ℕ) (weight : ℕ) (old new : List (List ℕ × Total)) : Type 0 where
  pub items : (items : List Item) → IsTally (tallied old) items
      → IsTally (tallied new) (items ++ record { key = key; weight = weight } ∷ [])
  pub packets : weight_of (packets_of (tallied new)) ≡ weight_of (packets_of (tallied old)) + 1
  pub weighs : weight_of (weights_of (tallied new)) ≡ weight_of (weights_of (tallied old)) + weight
