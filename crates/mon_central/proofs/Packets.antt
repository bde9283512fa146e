-- What has been sketched, packet by packet.
use Rattle.std.proofs.Common.{◌≡◌, ℕ, ◌+◌, ◌<◌, ◌≤◌, ◌==◌, ◌^◌, Bool, true, false, cond, not, ◌||◌, ◌&&◌, is_some, Vec, replicate, List, [], ◌∷◌, ◌++◌, length, take, get_or, zero, suc, slice_index, slice_index_or, map, Option, Some, None, IsTrue, true≢false, inl, inr, refl, sym, ◌∙◌, ap, subst, arith}
use Rattle.std.specs.List.{list_any, range_with_len}
use Rattle.std.proofs.lemmas.List.{get_or_default, with_items_is, get_or-replicate, length-replicate, map-append}
use Rattle.std.specs.Vec.{with_items}
use Rattle.std.specs.declared.alloc.Global.{Global}
use Rattle.std.proofs.lemmas.Bool.{cases_Bool}
use Rattle.std.proofs.lemmas.Bool.Decides.{nat_tests}
use Rattle.std.proofs.lemmas.List.Folds.{list_any-append}
use Rattle.std.proofs.lemmas.List.FromFn.{map-range_with_len_more}
use Rattle.std.proofs.lemmas.List.Sums.{sum_by-cons, sum_by_push, length-filter, count_by-le-length}
use Rattle.hash_family.specs.Hash.{is_live}
use Rattle.count_sketch.specs.Counters.{Item, counters_of}
use Rattle.spot_table.specs.Live.{IsLiveAt}
use Rattle.sketch_levels.specs.Items.{live_items, weight_of, distinct_keys}
use Rattle.sketch_levels.specs.Levels.{Holds}
use Rattle.sketch_levels.specs.Noted.{Noted, HoldsNotes, notes_of}
use Rattle.sketch_levels.specs.Stands.{KeyTotal, ones, packets_of, weights_of}
use Rattle.hash_family.specs.Setting as sketch
use Rattle.sketch_levels.specs.Kept as levels
use Rattle.sketch_levels.proofs.Live.{live_items-live, live_items-dead, live_items-none}
use Rattle.sketch_levels.proofs.Standing.{StandFor-own, number_of-all, weight_of-all}
use Rattle.mon_central.specs.Central.{levels_setting, kept_keys, nonzero, level_count, drops}
use Rattle.flow_keys.specs.declared.routed.Routed.{Routed}
use Rattle.routed_trace.specs.Routed.{item_of}
use Rattle.routed_trace.proofs.Weights.{sum_by-filter-le}
use Rattle.mon_central.specs.Live.{CountsLive, AreWeighed}
use Rattle.mon_call.specs.Setting.{is_setting}
use Rattle.mon_central.specs.Sketched.{Gathers, HasPlace, HasRoom, IsFed, IsNoted, Sketches, any_mark}
use Rattle.mon_central.specs.declared.gathering.Gathered.{Gathered}
use Rattle.mon_central.specs.declared.gathering.Gathered.TheVariants.{Tallied, Fed}
use Rattle.mon_call.specs.declared.setting.Setting.{Setting}
use Rattle.mon_central.specs.declared.sketching.Sketched.{Sketched}
use Rattle.change_report.specs.declared.level_count.LevelCount.{LevelCount}

-- the items of a level are not more than all
pub length-live_items-le : (seed level : ℕ) (items : List Item) → length (live_items seed level items) ≤ length items
unfolding live_items
length-live_items-le seed level items =
    let live = λ (item : Item). is_live seed level item.key in
    omega (arith, length-filter live items, count_by-le-length live items)

-- the weight of one item more at a level, by whether it is live there
weight_of-push : (seed level : ℕ) (items : List Item) (item : Item) (b : Bool) → is_live seed level item.key ≡ b
    → weight_of (live_items seed level (items ++ item ∷ [])) ≡ weight_of (live_items seed level items) + cond {A = ℕ} b
    item.weight 0
weight_of-push seed level items item true live =
    ap weight_of (live_items-live seed level items item live)
    ∙ sum_by_push (λ (x : Item). x.weight) (live_items seed level items) item
weight_of-push seed level items item false dead =
    ap weight_of (live_items-dead seed level items item dead) ∙ omega arith

-- the weights of the levels, one packet on
pub weights_more : (seed : ℕ) (items : List Item) (item : Item) (old new : List ℕ) → AreWeighed seed items old
    → CountsLive seed item.key item.weight old new
    → AreWeighed seed (items ++ item ∷ []) new
weights_more seed items item old new are counts = record {
  each = λ level within.
      let inside : level < length old = omega (arith, within, counts.size) in
      counts.each level inside
      ∙ ap (λ (n : ℕ). n + cond {A = ℕ} (is_live seed level item.key) item.weight 0) (are.each level inside)
      ∙ sym (weight_of-push seed level items item (is_live seed level item.key) refl);
}

-- what is live weighs no more than all
pub live_light : (seed level : ℕ) (items : List Item) → weight_of (live_items seed level items) ≤ weight_of items
unfolding live_items
live_light seed level items = sum_by-filter-le (λ (x : Item). x.weight) (λ item. is_live seed level item.key) items

levels_le : (setting : Setting) → IsTrue (is_setting setting) → setting.levels ≤ 16
levels_le setting range = grind (arith, nat_tests)

-- room for so many packets more
pub has_room : (setting : Setting) (sketched : Sketched) (fed counted : List Item) (packets weight : ℕ)
    → IsFed setting sketched fed counted → IsTrue (is_setting setting)
    → weight_of counted + packets ≤ 1048576 → weight_of fed + weight ≤ 2 ^ 44 → HasRoom sketched packets weight
has_room setting sketched fed counted packets weight feeds range few light = record {
  number = omega (arith, feeds.number_is, few);
  light = omega (arith, feeds.holds.weight, light);
  levels = omega (arith, feeds.number, levels_le setting range);
  same = feeds.size ∙ sym feeds.number;
  live = λ level d inside.
      let count : slice_index sketched.live.items level ≡ weight_of
      (live_items setting.seed level counted) = feeds.live.each level inside in
      let same : slice_index_or sketched.live.items level d ≡ slice_index sketched.live.items level = get_or_default
      sketched.live.items level d 0 inside in
      omega (arith, count, same, live_light setting.seed level counted, few);
  weights = λ level d inside.
      let sum : slice_index sketched.weights.items level ≡ weight_of
      (live_items setting.seed level fed) = feeds.weights.each level inside in
      let same : slice_index_or sketched.weights.items level d ≡ slice_index sketched.weights.items
      level = get_or_default sketched.weights.items level d 0 inside in
      omega (arith, sum, same, live_light setting.seed level fed, light);
}

-- a place for one packet more
pub has_place : (setting : Setting) (gathered : Gathered) (items : List Item) (weight : ℕ)
    → Gathers setting gathered items → IsTrue (is_setting setting)
    → length items < 1048576 → weight_of items + weight ≤ 2 ^ 44 → HasPlace gathered weight
has_place setting (Tallied tally) items weight gathers range few light = (
  omega (arith, number_of-all (packets_of tally) items gathers.1.packets, few),
  omega (arith, weight_of-all (weights_of tally) items gathers.1.weights, light),
)
has_place setting (Fed sketched) items weight gathers range few light =
    has_room setting sketched items (ones items) 1 weight gathers.1 range
    (omega (arith, number_of-all (ones items) items (StandFor-own (ones items)), few)) light

pub or_false : (b : Bool) → (b || false) ≡ b
or_false true = refl
or_false false = refl

pub or_true : (b : Bool) → (b || true) ≡ true
or_true true = refl
or_true false = refl

-- one more level with its mark
pub any_mark-more : (setting : sketch.Setting) (items : List Item) (number : ℕ)
    → any_mark setting items (number + 1) ≡ (any_mark setting items number || levels.is_dropped setting
    (live_items setting.seed number items))
any_mark-more setting items number =
    let mark = λ (level : ℕ). levels.is_dropped setting (live_items setting.seed level items) in
    ap (λ (marks : List Bool). list_any (λ (b : Bool). b) marks)
    (map-range_with_len_more mark 0 number number (omega arith))
    ∙ list_any-append (λ (b : Bool). b) (map mark (range_with_len 0 number)) (mark number ∷ [])
    ∙ ap (λ (b : Bool). any_mark setting items number || b) (or_false (mark number))

-- some packets more
pub fed_more : {setting : Setting} {old : Sketched} {fed counted : List Item} (new : Sketched) (key : List ℕ)
    (packets weight : ℕ) → IsFed setting old fed counted
    → new.family ≡ old.family → new.levels.setting ≡ old.levels.setting
    → (Holds old.levels fed → Holds new.levels (fed ++ record { key = key; weight = weight } ∷ []))
    → IsNoted setting (fed ++ record { key = key; weight = weight } ∷ []) new.all
    → CountsLive setting.seed key packets old.live.items new.live.items
    → CountsLive setting.seed key weight old.weights.items new.weights.items → new.number ≡ old.number + packets
    → IsFed setting new (fed ++ record { key = key; weight = weight } ∷ [])
    (counted ++ record { key = key; weight = packets } ∷ [])
fed_more {setting} {old} {fed} {counted} new key packets weight feeds family shape holds noted counts weighs more =
    let item : Item = record { key = key; weight = weight } in
    let number : Item = record { key = key; weight = packets } in record {
      family = family ∙ feeds.family;
      shape = shape ∙ feeds.shape;
      holds = holds feeds.holds;
      noted = noted;
      number = counts.size ∙ feeds.number;
      live = weights_more setting.seed counted number old.live.items new.live.items feeds.live counts;
      size = weighs.size ∙ feeds.size;
      weights = weights_more setting.seed fed item old.weights.items new.weights.items feeds.weights weighs;
      number_is = omega (arith, more, feeds.number_is, sum_by_push (λ (x : Item). x.weight) counted number);
    }

-- what was fed packet by packet, with one more
pub fed_one : (setting : Setting) (new : Sketched) (packet : Routed) (items : List Item) (weight : ℕ)
    → weight ≡ packet.weight
    → IsFed setting new (items ++ record { key = packet.key; weight = weight } ∷ [])
    (ones items ++ record { key = packet.key; weight = 1 } ∷ [])
    → IsFed setting new (items ++ item_of packet ∷ []) (ones (items ++ item_of packet ∷ []))
fed_one setting new packet items weight is feeds =
    let one : Item → Item = λ item. record { key = item.key; weight = 1 } in
    rw (map-append one items (item_of packet ∷ [])) (rw is at feeds)

-- items that were fed themselves
pub sketches_own : (setting : Setting) (sketched : Sketched) (items : List Item)
    → Gathers setting (Fed sketched) items → Sketches setting sketched items
sketches_own setting sketched items gathers = record {
  fed = items;
  counted = ones items;
  feeds = gathers.1;
  weigh = StandFor-own items;
  count = StandFor-own (ones items);
  same = λ kept. refl;
}

-- such as stand for others, once they are fed
pub sketches_settled : (setting : Setting) (sketched : Sketched) (tally : List KeyTotal) (items : List Item)
    → Gathers setting (Tallied tally) items → IsFed setting sketched (weights_of tally) (packets_of tally)
    → Sketches setting sketched items
sketches_settled setting sketched tally items gathers feeds = record {
  fed = weights_of tally;
  counted = packets_of tally;
  feeds = feeds;
  weigh = gathers.1.weights;
  count = gathers.1.packets;
  same = λ kept. absurd (true≢false (sym gathers.0 ∙ kept));
}

-- the first entries and the next weigh no more than all
pub weight_of-take : (f : KeyTotal → Item) (xs : List KeyTotal) (i : ℕ) (d : KeyTotal) → i < length xs
    → weight_of (map f (take i xs)) + (f (get_or xs i d)).weight ≤ weight_of (map f xs)
weight_of-take f [] i d within = absurd (omega (arith, within))
weight_of-take f (x ∷ xs) zero d within = omega (arith, sum_by-cons (λ (y : Item). y.weight) (f x) (map f xs))
weight_of-take f (x ∷ xs) (suc i) d within =
    let weight : Item → ℕ = λ y. y.weight in
    omega (
      arith,
      weight_of-take f xs i d (omega (arith, within)),
      sum_by-cons weight (f x) (map f (take i xs)),
      sum_by-cons weight (f x) (map f xs),
    )

-- where no keys are noted, none are noted after more items
pub noted_none : (setting : Setting) (items more : List Item) (all : Option Noted) → all ≡ None
    → IsNoted setting items all → IsNoted setting more all
noted_none setting items more None is noted = noted
noted_none setting items more (Some all) is noted = absurd (cc)

-- at how many levels a key is live, by the setting of what was fed
pub live_at : {setting : Setting} {old : Sketched} {fed counted : List Item} (key : List ℕ) (levels : ℕ)
    → IsFed setting old fed counted → IsLiveAt old.levels.setting.seed old.levels.setting.levels key levels
    → IsLiveAt setting.seed setting.levels key levels
live_at key levels feeds is = subst (λ (s : sketch.Setting). IsLiveAt s.seed s.levels key levels) feeds.shape is

-- the counts of the levels, in their vector
pub counts_in : {seed more : ℕ} {key before after : List ℕ} (v : Vec ℕ Global) → before ≡ v.items → length after ≡ v.len
    → CountsLive seed key more before after → CountsLive seed key more v.items (with_items v after).items
counts_in {seed} {more} {key} {before} {after} v is size counts =
    subst (λ (l : List ℕ). CountsLive seed key more v.items l) (sym (with_items_is v after size))
    (subst (λ (l : List ℕ). CountsLive seed key more l after) is counts)

-- the keys kept, by whether all live keys are noted
pub kept_all : (setting : Setting) (level : ℕ) (live : List Item) → (setting.heap == 0) ≡ true
    → distinct_keys live ≡ kept_keys setting level live
unfolding kept_keys
kept_all setting level live all = rw all refl

pub kept_heap : (setting : Setting) (level : ℕ) (live : List Item) → (setting.heap == 0) ≡ false
    → levels.kept_keys (levels_setting setting) level live ≡ kept_keys setting level live
unfolding kept_keys
kept_heap setting level live heap = rw heap refl

-- the numbers of a level
pub level_count_is : (setting : Setting) (items : List Item) (level packets weight keys number : ℕ)
    → packets ≡ length (live_items setting.seed level items) → weight ≡ weight_of (live_items setting.seed level items)
    → keys ≡ length (kept_keys setting level (live_items setting.seed level items))
    → number ≡ nonzero (counters_of setting.seed level setting.rows setting.width
    (live_items setting.seed level items))
    → ◌≡◌ {A = LevelCount} (record { packets = packets; weight = weight; keys = keys; nonzero = number })
    (level_count setting items level)
unfolding level_count
level_count_is setting items level packets weight keys number p w k
    n = λ i. record { packets = p i; weight = w i; keys = k i; nonzero = n i }

-- a heap dropped a key, by whether all live keys are noted
pub drops_is : (setting : Setting) (items : List Item) (all : Option Noted) → IsNoted setting items all
    → (not (is_some all) && any_mark (levels_setting setting) items (setting.levels + 1)) ≡ drops setting items
unfolding drops
drops_is setting items None noted = rw noted refl
drops_is setting items (Some all) noted = rw noted.0 refl

-- the mark is the same for the items that were fed
pub drops_same : (setting : Setting) (fed items : List Item) → ((setting.heap == 0) ≡ false → fed ≡ items)
    → drops setting fed ≡ drops setting items
unfolding drops
drops_same setting fed items same = elim (cases_Bool (setting.heap == 0)) [
  | inl all ↦ rw all refl
  | inr some ↦ rw (same some) refl
]

-- noted keys, where it is known whether there are some
pub noted_some : (setting : Setting) (items : List Item) {all : Option Noted} {keys : Noted} → all ≡ Some keys
    → IsNoted setting items all → IsNoted setting items (Some keys)
noted_some setting items is noted = subst (λ (told : Option Noted). IsNoted setting items told) is noted

pub noted_nothing : (setting : Setting) (items : List Item) {all : Option Noted} → all ≡ None
    → IsNoted setting items all → IsNoted setting items None
noted_nothing setting items is noted = subst (λ (told : Option Noted). IsNoted setting items told) is noted

-- nothing was noted yet
pub noted_first : (setting : Setting) (all : Option Noted) (keys : Noted) → all ≡ Some keys → setting.heap ≡ 0
    → keys.top ≡ setting.levels → HoldsNotes keys [] → IsNoted setting [] all
unfolding notes_of
noted_first setting all keys is heap top notes = rw is (grind (arith, nat_tests), top, notes)

pub nothing_noted : (setting : Setting) (all : Option Noted) → all ≡ None → (setting.heap ≡ 0 → ⊥)
    → IsNoted setting [] all
nothing_noted setting all is heap = rw is (grind (arith, nat_tests))

-- no packet was counted yet
pub weighed_first : (seed n : ℕ) (weights : List ℕ) → weights ≡ replicate n 0 → AreWeighed seed [] weights
weighed_first seed n weights is = record {
  each = λ level within.
      let inside : level < n = omega (arith, within, ap (λ (l : List ℕ). length l) is, length-replicate {A = ℕ} n 0) in
      ap (λ (l : List ℕ). slice_index l level) is ∙ get_or-replicate n level 0 0 inside
      ∙ sym (ap weight_of (live_items-none seed level));
}

-- an element that was read
pub read_at : (xs : List ℕ) (i level x : ℕ) → x ≡ slice_index_or xs i x → i ≡ level → level < length xs
    → x ≡ slice_index xs level
read_at xs i level x is same within =
    is ∙ ap (λ (k : ℕ). slice_index_or xs k x) same ∙ get_or_default xs level x 0 within

-- what a test of an option for nothing says
pub not_some : (some none wanted : Bool) → some ≡ not none → none ≡ wanted → not some ≡ wanted
not_some some none wanted is same = ap (λ (b : Bool). not b) is ∙ not_not none ∙ same
  where
    not_not : (b : Bool) → not (not b) ≡ b
    not_not true = refl
    not_not false = refl
