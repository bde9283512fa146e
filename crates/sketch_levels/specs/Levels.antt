-- What clauses see of the levels of a sketch, and of which list of items they are.
use Rattle.std.specs.Prelude.{◌^◌, ◌≡◌, ℕ, ◌+◌, ◌≤◌, Bool, false, List, [], ◌∷◌, ◌++◌, length, map, slice_index_or}
use Rattle.std.specs.Prelude.{All, IsTrue}
use Rattle.hash_family.specs.Limits.{are_within}
use Rattle.count_sketch.specs.Counters.{Item, Grid, grid_of, AllUpTo}
use Rattle.topk_heap.specs.Table.{Table}
use Rattle.sketch_levels.specs.Items.{live_items, weight_of}
use Rattle.hash_family.specs.Setting.{Setting}
use Rattle.sketch_levels.specs.Kept.{kept, is_dropped}

-- one level: its counters, its heap, and whether the heap dropped a key
pub record Layer : Type 0 where
  pub sketch : Grid
  pub heap : Table
  pub dropped : Bool

-- all levels from 0 on, with the weight that was fed to them
pub record View : Type 0 where
  pub setting : Setting
  pub weight : ℕ
  pub levels : List Layer

-- the level of the items that are live there
unfoldable pub layer_of : Setting → ℕ → List Item → Layer
layer_of setting level items = record {
  sketch = grid_of setting.seed level setting.rows setting.width items;
  heap = record { size = setting.heap; entries = kept setting level items };
  dropped = is_dropped setting items;
}

abbrev pub no_layer : Layer
no_layer = record {
  sketch = record { rows = 0; width = 0; counters = [] };
  heap = record { size = 0; entries = [] };
  dropped = false;
}

-- a level by its number
unfoldable pub level_at : View → ℕ → Layer
level_at view level = slice_index_or view.levels level no_layer

-- the keys in a level's heap
unfoldable pub heap_keys : View → ℕ → List (List ℕ)
heap_keys view level = map (λ entry. entry.key) (level_at view level).heap.entries

-- the shape of a level: rows, width and heap of the setting, and counters no greater than the weight
pub record IsLayer (setting : Setting) (weight : ℕ) (layer : Layer) : Type 0 where
  pub rows : layer.sketch.rows ≡ setting.rows
  pub width : layer.sketch.width ≡ setting.width
  pub heap : layer.heap.size ≡ setting.heap
  pub bound : AllUpTo weight layer.sketch.counters

-- a level takes an item: of whatever list it was the level before, it is that of the list with the item at its end
pub record Takes (seed level : ℕ) (item : Item) (old new : Layer) : Type 0 where
  pub list : (setting : Setting) (items : List Item) → setting.seed ≡ seed
      → old ≡ layer_of setting level (live_items seed level items)
      → new ≡ layer_of setting level (live_items seed level (items ++ item ∷ []))
  pub shape : (setting : Setting) (n : ℕ) → IsLayer setting n old → IsLayer setting (n + item.weight) new

-- what all levels are: within the limits, as many as the setting says, and of a weight up to 2^44
pub record IsView (view : View) : Type 0 where
  pub within : IsTrue (are_within view.setting.levels view.setting.rows view.setting.width view.setting.heap)
  pub number : length view.levels ≡ view.setting.levels + 1
  pub light : view.weight ≤ 2 ^ 44
  pub each : All (IsLayer view.setting view.weight) view.levels

-- the levels are those of a list of items: each one is that of the items that are live there
pub record Holds (view : View) (items : List Item) : Type 0 where
  pub weight : view.weight ≡ weight_of items
  pub number : length view.levels ≡ view.setting.levels + 1
  pub each : (level : ℕ) → level ≤ view.setting.levels
      → level_at view level ≡ layer_of view.setting level (live_items view.setting.seed level items)
