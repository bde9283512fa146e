-- Live keys and the items of a level.
use Rattle.std.proofs.Common.{◌≡◌, ℕ, true, false, List, [], ◌∷◌, ◌++◌, refl, ◌∙◌}
use Rattle.std.specs.List.{filter}
use Rattle.std.proofs.lemmas.List.{append-nil}
use Rattle.std.proofs.lemmas.List.Elements.{filter-append}
use Rattle.hash_family.specs.Hash.{is_live}
use Rattle.hash_family.proofs.Live.{is_live-none}
use Rattle.count_sketch.specs.Counters.{Item}
use Rattle.sketch_levels.specs.Items.{live_items}

-- each key is live at level 0
pub live_at_0 : (seed level : ℕ) (key : List ℕ) → level ≡ 0 → is_live seed level key ≡ true
live_at_0 seed level key e = rw e (is_live-none seed key)

-- an item more
pub live_items-live : (seed level : ℕ) (items : List Item) (item : Item) → is_live seed level item.key ≡ true
    → live_items seed level (items ++ item ∷ []) ≡ live_items seed level items ++ item ∷ []
unfolding live_items
live_items-live seed level items item live =
    filter-append (λ (x : Item). is_live seed level x.key) items (item ∷ []) ∙ rw live refl

pub live_items-dead : (seed level : ℕ) (items : List Item) (item : Item) → is_live seed level item.key ≡ false
    → live_items seed level (items ++ item ∷ []) ≡ live_items seed level items
unfolding live_items
live_items-dead seed level items item dead =
    filter-append (λ (x : Item). is_live seed level x.key) items (item ∷ [])
    ∙ rw dead (append-nil (filter (λ (x : Item). is_live seed level x.key) items))

pub live_items-none : (seed level : ℕ) → live_items seed level [] ≡ []
unfolding live_items
live_items-none seed level = refl
