-- Items as sketches are fed with them, and one item more.
use Rattle.std.proofs.Common.{◌≡◌, ℕ, ◌+◌, ◌≤◌, ◌<◌, List, [], ◌∷◌, ◌++◌, length, map, get_or, take, refl, sym, ◌∙◌, ap, subst, arith, append_assoc, append-nil}
use Rattle.std.specs.List.{sum, sum_by}
use Rattle.std.proofs.lemmas.List.{map-append, take_more}
use Rattle.std.proofs.lemmas.Simd.{map-map}
use Rattle.std.proofs.lemmas.List.Sums.{sum-map, sum_by_more, sum_by_more_le}
use Rattle.count_sketch.specs.Counters.{Item as Fed}
use Rattle.job_format.specs.Job.{weight_of}
use Rattle.job_format.specs.declared.item.Item.{Item}
use Rattle.sketch_levels.specs.Items.{weight_of as fed_weight}
use Rattle.sketch_levels.specs.Levels.{Holds, View}
use Rattle.child_worker.specs.Replies.{fed, fed_of}

pub fed-none : fed [] ≡ []
unfolding fed
fed-none = refl

pub fed-push : (items : List Item) (item : Item) → fed (items ++ item ∷ []) ≡ fed items ++ fed_of item ∷ []
unfolding fed
fed-push items item = map-append fed_of items (item ∷ [])

sum_by-map : {X Y : Type 0} (f : Y → ℕ) (g : X → Y) (xs : List X) → sum_by f (map g xs) ≡ sum_by (λ x. f (g x)) xs
sum_by-map f g xs = sym (sum-map f (map g xs)) ∙ ap sum (map-map f g xs) ∙ sum-map (λ x. f (g x)) xs

pub weight_of-fed : (items : List Item) → fed_weight (fed items) ≡ weight_of items
unfolding fed
weight_of-fed items = let f : Fed → ℕ = λ x. x.weight in sum_by-map f fed_of items

-- levels that were fed with these items behind others
pub record AreFed (old new : View) (items : List Item) : Type 0 where
  pub setting : new.setting ≡ old.setting
  pub weight : new.weight ≡ old.weight + weight_of items
  pub list : (before : List Item) → Holds old (fed before) → Holds new (fed (before ++ items))

pub fed_nothing : (view : View) → AreFed view view []
fed_nothing view = record {
  setting = refl;
  weight = omega arith;
  list = λ before holds. rw append-nil holds;
}

-- one item more of a list
pub fed_more : (old mid new : View) (items : List Item) (i : ℕ) (d : Item) → i < length items
    → AreFed old mid (take i items) → new.setting ≡ mid.setting
    → new.weight ≡ mid.weight + (get_or items i d).weight
    → ((before : List Fed) → Holds mid before → Holds new (before ++ fed_of (get_or items i d) ∷ []))
    → AreFed old new (take (i + 1) items)
fed_more old mid new items i d within so_far setting weight list =
    let item = get_or items i d in
    let more : take (i + 1) items ≡ take i items ++ item ∷ [] = take_more items i d within in
    let f : Item → ℕ = λ x. x.weight in
    record {
      setting = setting ∙ so_far.setting;
      weight = omega (arith, weight, so_far.weight, sum_by_more f items i d within);
      list = λ before holds.
          let joined : before ++ take (i + 1) items ≡ (before ++ take i items) ++ item ∷ [] =
          rw more (sym (append_assoc before (take i items) (item ∷ []))) in
          let one = list (fed (before ++ take i items)) (so_far.list before holds) in
          let same : fed (before ++ take (i + 1) items) ≡ fed (before ++ take i items) ++ fed_of item ∷ [] =
          ap fed joined ∙ fed-push (before ++ take i items) item in
          rw same one;
    }

-- the same, of an item that stands there
pub fed_more_is : (old mid new : View) (items : List Item) (i : ℕ) (item : Item) → i < length items
    → item ≡ get_or items i item → AreFed old mid (take i items) → new.setting ≡ mid.setting
    → new.weight ≡ mid.weight + item.weight
    → ((before : List Fed) → Holds mid before → Holds new (before ++ fed_of item ∷ []))
    → AreFed old new (take (i + 1) items)
fed_more_is old mid new items i item within is so_far setting weight list =
    fed_more old mid new items i item within so_far setting
    (subst (λ (x : Item). new.weight ≡ mid.weight + x.weight) is weight)
    (λ before holds. subst (λ (x : Item). Holds new (before ++ fed_of x ∷ [])) is (list before holds))

-- the weight of the next item fits beside that of those before
pub light_more : (old mid : View) (items : List Item) (i : ℕ) (d : Item) (limit : ℕ) → i < length items
    → AreFed old mid (take i items) → old.weight + weight_of items ≤ limit
    → mid.weight + (get_or items i d).weight ≤ limit
light_more old mid items i d limit within so_far light =
    let f : Item → ℕ = λ x. x.weight in
    omega (arith, so_far.weight, sum_by_more_le f items i d within)
