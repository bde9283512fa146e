-- A level before and after an item.
use Rattle.std.proofs.Common.{◌≡◌, ℕ, ◌+◌, true, false, List, [], ◌∷◌, ◌++◌, sym, ◌∙◌, ap, arith}
use Rattle.hash_family.specs.Hash.{is_live}
use Rattle.count_sketch.specs.Counters.{Item}
use Rattle.count_sketch.proofs.Shares.{AllUpTo-more}
use Rattle.sketch_levels.specs.Items.{live_items}
use Rattle.hash_family.specs.Setting.{Setting}
use Rattle.sketch_levels.specs.Levels.{IsLayer, Layer, Takes, layer_of}
use Rattle.sketch_levels.proofs.Live.{live_items-dead, live_items-live}

-- a greater weight
pub IsLayer-more : (setting : Setting) (n weight : ℕ) (layer : Layer) → IsLayer setting n layer
    → IsLayer setting (n + weight) layer
IsLayer-more setting n weight layer shape = record {
  rows = shape.rows;
  width = shape.width;
  heap = shape.heap;
  bound = AllUpTo-more n (n + weight) layer.sketch.counters (omega arith) shape.bound;
}

-- a level where the item's key isn't live stays
pub takes_none : (seed level : ℕ) (item : Item) (layer : Layer) → is_live seed level item.key ≡ false
    → Takes seed level item layer layer
takes_none seed level item layer dead = record {
  list = λ setting items same is. is ∙ ap (layer_of setting level) (sym (live_items-dead seed level items item dead));
  shape = λ setting n shape. IsLayer-more setting n item.weight layer shape;
}

-- a level that was fed takes the item where its key is live
pub takes_fed : (seed level : ℕ) (item : Item) (old new : Layer) → is_live seed level item.key ≡ true
    → ((setting : Setting) (items : List Item) → setting.seed ≡ seed → old ≡ layer_of setting level items
    → new ≡ layer_of setting level (items ++ item ∷ []))
    → ((setting : Setting) (n : ℕ) → IsLayer setting n old → IsLayer setting (n + item.weight) new)
    → Takes seed level item old new
takes_fed seed level item old new live list shape = record {
  list = λ setting items same is. list setting (live_items seed level items) same is
      ∙ ap (layer_of setting level) (sym (live_items-live seed level items item live));
  shape = shape;
}
