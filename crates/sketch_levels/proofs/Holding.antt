-- Levels that hold a list of items, and one item more.
use Rattle.std.proofs.Common.{◌^◌, ◌≡◌, ℕ, ℤ, ◌+◌, ◌<◌, ◌≤◌, List, [], ◌∷◌, ◌++◌, length, get_or, refl, sym, ◌∙◌, ap}
use Rattle.std.proofs.Common.{arith}
use Rattle.std.specs.List.{All}
use Rattle.std.proofs.lemmas.List.Sums.{sum_by-append}
use Rattle.count_sketch.specs.Counters.{Item, counters_of}
use Rattle.count_sketch.specs.Estimate.{estimate}
use Rattle.sketch_levels.specs.Items.{live_items, weight_of}
use Rattle.hash_family.specs.Setting.{Setting}
use Rattle.sketch_levels.specs.Kept.{is_dropped, kept, score}
use Rattle.sketch_levels.specs.Levels.{Holds, IsView, Layer, Takes, View, layer_of, level_at, no_layer}
use Rattle.sketch_levels.proofs.Live.{live_items-none}

-- all levels take an item
pub record IsFed (item : Item) (old new : View) : Type 0 where
  pub setting : new.setting ≡ old.setting
  pub weight : new.weight ≡ old.weight + item.weight
  pub number : length new.levels ≡ length old.levels
  pub each : (level : ℕ) (d : Layer) → level < length old.levels
      → Takes old.setting.seed level item (get_or old.levels level d) (get_or new.levels level d)

weight_of-push : (items : List Item) (item : Item) → weight_of (items ++ item ∷ []) ≡ weight_of items + item.weight
weight_of-push items item =
    let f : Item → ℕ = λ x. x.weight in
    omega (arith, sum_by-append f items (item ∷ []))

-- the list grows by the item
pub Holds-fed : (item : Item) (old new : View) (items : List Item) → IsFed item old new → Holds old items
    → Holds new (items ++ item ∷ [])
unfolding level_at
Holds-fed item old new items fed holds = record {
  weight = omega (arith, fed.weight, holds.weight, weight_of-push items item);
  number = fed.number ∙ holds.number ∙ ap (λ (s : Setting). s.levels + 1) (sym fed.setting);
  each = rw fed.setting (λ level within.
      (fed.each level no_layer (omega (arith, holds.number))).list old.setting items refl (holds.each level within));
}

-- the shape stays
pub IsView-fed : (item : Item) (old new : View) → IsFed item old new → old.weight + item.weight ≤ 2 ^ 44 → IsView old
    → IsView new
IsView-fed item old new fed light whole = record {
  within = rw fed.setting whole.within;
  number = fed.number ∙ whole.number ∙ ap (λ (s : Setting). s.levels + 1) (sym fed.setting);
  light = omega (arith, fed.weight);
  each = rw (fed.setting, fed.weight) (λ level d within.
      (fed.each level d (omega (arith, fed.number))).shape old.setting old.weight
      (whole.each level d (omega (arith, fed.number))));
}

-- levels to which nothing was fed
pub Holds-none : (view : View) → view.weight ≡ 0 → length view.levels ≡ view.setting.levels + 1
    → All (λ layer. (level : ℕ) → layer ≡ layer_of view.setting level []) view.levels → Holds view []
unfolding level_at
Holds-none view weight number empty = record {
  weight = weight;
  number = number;
  each = λ level within.
      empty level no_layer (omega arith) level
      ∙ ap (layer_of view.setting level) (sym (live_items-none view.setting.seed level));
}

-- what a level has
module _ {view : View} {items : List Item} (holds : Holds view items) (level : ℕ)
    (within : level ≤ view.setting.levels) where
  pub counters_held : (level_at view level).sketch.counters
      ≡ counters_of view.setting.seed level view.setting.rows view.setting.width
      (live_items view.setting.seed level items)
  unfolding layer_of
  counters_held = ap (λ (l : Layer). l.sketch.counters) (holds.each level within)

  pub entries_held : (level_at view level).heap.entries ≡ kept view.setting level
      (live_items view.setting.seed level items)
  unfolding layer_of
  entries_held = ap (λ (l : Layer). l.heap.entries) (holds.each level within)

  pub dropped_held : (level_at view level).dropped ≡ is_dropped view.setting (live_items view.setting.seed level items)
  unfolding layer_of
  dropped_held = ap (λ (l : Layer). l.dropped) (holds.each level within)

  pub score_held : (key : List ℕ)
      → estimate view.setting.seed level view.setting.rows view.setting.width (level_at view level).sketch.counters key
      ≡ score view.setting level (live_items view.setting.seed level items) key
  unfolding score
  score_held key = ap
      (λ (counters : List ℤ). estimate view.setting.seed level view.setting.rows view.setting.width counters key)
      counters_held
