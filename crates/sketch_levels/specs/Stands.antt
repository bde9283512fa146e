-- Items that stand for others: one of each key, with the weight of all its items.
use Rattle.std.specs.Prelude.{◌≡◌, ℕ, Bool, List, map, filter}
use Rattle.count_sketch.specs.Counters.{Item}
use Rattle.sketch_levels.specs.Items.{weight_of, distinct_keys}

-- the items whose keys are in a class
abbrev pub of_class : (List ℕ → Bool) → List Item → List Item
of_class class items = filter (λ item. class item.key) items

-- of each class of keys the entries have the weight and the distinct keys of the items
pub record StandFor (entries items : List Item) : Type 0 where
  pub weight : (class : List ℕ → Bool) → weight_of (of_class class entries) ≡ weight_of (of_class class items)
  pub keys : (class : List ℕ → Bool) → distinct_keys (of_class class entries) ≡ distinct_keys (of_class class items)

-- items with a weight of 1 each, so that their weight is how many there are
abbrev pub ones : List Item → List Item
ones items = map (λ item. record { key = item.key; weight = 1 }) items

-- a key, how many items have it, and what they weigh together
pub record KeyTotal : Type 0 where
  pub key : List ℕ
  pub packets : ℕ
  pub weight : ℕ

-- each key with its weight, and each with its number of items
abbrev pub weights_of : List KeyTotal → List Item
weights_of entries = map (λ entry. record { key = entry.key; weight = entry.weight }) entries

abbrev pub packets_of : List KeyTotal → List Item
packets_of entries = map (λ entry. record { key = entry.key; weight = entry.packets }) entries

-- the entries count these items: their weights stand for the items, and their numbers for items of weight 1
pub record IsTally (entries : List KeyTotal) (items : List Item) : Type 0 where
  pub weights : StandFor (weights_of entries) items
  pub packets : StandFor (packets_of entries) (ones items)
