-- The merged sketch of what was sketched.
use Rattle.std.proofs.Common.{◌≡◌, ℕ, ℤ, ◌+◌, ◌*◌, ◌≤◌, List, [], length, map, All, IsTrue, sym, ◌∙◌, ap, subst, arith, inl, inr}
use Rattle.std.specs.List.{flat_map, range_with_len}
use Rattle.std.proofs.lemmas.Bool.{cases_lt}
use Rattle.std.proofs.lemmas.Bool.Decides.{nat_tests}
use Rattle.std.proofs.lemmas.List.{get_or_past}
use Rattle.std.proofs.lemmas.List.Elements.{All-get_or, All-map, All-from_get_or}
use Rattle.std.proofs.lemmas.List.Folds.{flat_map-map}
use Rattle.std.proofs.lemmas.List.FromFn.{get_or-map-range_with_len}
use Rattle.hash_family.specs.Limits.{are_within}
use Rattle.hash_family.specs.Setting as sketch
use Rattle.count_sketch.specs.Counters.{Item, counters_of}
use Rattle.count_sketch.proofs.Shares.{length-counters_of}
use Rattle.sketch_levels.specs.Items.{live_items, weight_of}
use Rattle.sketch_levels.specs.Levels as levels
use Rattle.sketch_levels.proofs.Standing.{counters-same}
use Rattle.sketch_merge.specs.Merged.{View, HaveUpTo, counters_at, keys_at}
use Rattle.change_report.specs.Block.{block_text}
use Rattle.change_report.specs.Change.{change_lines}
use Rattle.change_report.specs.declared.level_count.LevelCount.{LevelCount}
use Rattle.mon_central.specs.Central.{levels_setting, block_of, central_view, change_of, drops, kept_keys, level_counts}
use Rattle.mon_central.specs.Sketched.{Sketches, counters_up_to, keys_up_to}
use Rattle.mon_call.specs.declared.setting.Setting.{Setting}
use Rattle.mon_central.specs.declared.sketching.Sketched.{Sketched}
use Rattle.mon_central.proofs.Ranges.{flat_map-same}

-- a level has at most so many keys
pub few_at : (n : ℕ) (view : View) (level : ℕ) → HaveUpTo n view.keys → length (keys_at view level) ≤ n
unfolding keys_at
few_at n view level few = elim (cases_lt level (length view.keys)) [
  | inl within ↦ All-get_or (λ keys. length keys ≤ n) view.keys level [] within few.each
  | inr past ↦ subst (λ keys. length keys ≤ n) (sym (get_or_past view.keys level [] past)) (omega arith)
]

-- at most this many counters are those of a level
pub few_counters : (levels rows width heap : ℕ) → IsTrue (are_within levels rows width heap) → rows * width ≤ 14336
few_counters levels rows width heap within = grind (arith, nat_tests)

-- the counters of each level, of the items that are live there
abbrev pub level_counters : Setting → List Item → ℕ → List ℤ
level_counters setting items level = counters_of setting.seed level setting.rows setting.width
    (live_items setting.seed level items)

-- the counters of a level that holds items
pub counters_held : (view : levels.View) (items : List Item) (level : ℕ) → levels.Holds view items
    → level ≤ view.setting.levels
    → (levels.level_at view level).sketch.counters ≡ counters_of view.setting.seed level view.setting.rows
    view.setting.width (live_items view.setting.seed level items)
unfolding levels.layer_of
counters_held view items level holds within = ap (λ (layer : levels.Layer). layer.sketch.counters)
    (holds.each level within)

-- the counters of all levels are those of the live items
pub counters_joined : (setting : Setting) (sketched : Sketched) (items : List Item) (counters : List ℤ)
    → Sketches setting sketched items
    → counters ≡ counters_up_to sketched.levels (setting.levels + 1)
    → flat_map (λ part. part) (map (level_counters setting items) (range_with_len 0 (setting.levels + 1))) ≡ counters
counters_joined setting sketched items counters sketches is =
    flat_map-map (λ part. part) (level_counters setting items) (range_with_len 0 (setting.levels + 1))
    ∙ flat_map-same (level_counters setting items) (λ level. (levels.level_at sketched.levels level).sketch.counters)
    (setting.levels + 1) (λ level below.
    let feeds = sketches.feeds in
    let top : sketched.levels.setting.levels ≡ setting.levels = ap (λ (s : sketch.Setting). s.levels) feeds.shape in
    let held = counters_held sketched.levels sketches.fed level feeds.holds (omega (arith, top, below)) in
    sym (held
    ∙ ap (λ (s : sketch.Setting). counters_of s.seed level s.rows s.width (live_items s.seed level sketches.fed))
    feeds.shape
    ∙ counters-same sketches.fed items sketches.weigh setting.seed level setting.rows setting.width))
    ∙ sym is

-- each level has as many counters
pub counters_shaped : (setting : Setting) (items : List Item) (number : ℕ)
    → All (λ part. length part ≡ setting.rows * setting.width)
    (map (level_counters setting items) (range_with_len 0 number))
counters_shaped setting items number =
    All-map (λ part. length part ≡ setting.rows * setting.width) (level_counters setting items)
    (range_with_len 0 number)
    (All-from_get_or (λ level. length (level_counters setting items level) ≡ setting.rows * setting.width)
    (range_with_len 0 number) 0
    (λ i within. length-counters_of setting.seed _ setting.rows setting.width _))

-- a merged sketch by its parts
pub view_is : (setting : Setting) (items : List Item) (view : View) → view.setting ≡ levels_setting setting
    → view.weight ≡ weight_of items
    → view.counters ≡ map (level_counters setting items) (range_with_len 0 (setting.levels + 1))
    → view.keys ≡ keys_up_to setting items (setting.levels + 1)
    → view.dropped ≡ drops setting items → view ≡ central_view setting items
unfolding central_view
view_is setting items view s w c k d = λ i. record {
  setting = s i;
  weight = w i;
  counters = c i;
  keys = k i;
  dropped = d i;
}

-- the counters and keys of a level of it
pub view_counters : (setting : Setting) (items : List Item) (level : ℕ) → level ≤ setting.levels
    → counters_at (central_view setting items) level ≡ level_counters setting items level
unfolding central_view counters_at
view_counters setting items level within = get_or-map-range_with_len (level_counters setting items) 0
    (setting.levels + 1) level level [] (omega arith) (omega arith)

pub view_keys : (setting : Setting) (items : List Item) (level : ℕ) → level ≤ setting.levels
    → keys_at (central_view setting items) level ≡ kept_keys setting level (live_items setting.seed level items)
unfolding central_view keys_at
view_keys setting items level within = get_or-map-range_with_len
    (λ l. kept_keys setting l (live_items setting.seed l items)) 0 (setting.levels + 1) level level [] (omega arith)
    (omega arith)

-- the lines of an epoch by their numbers
pub block_is : (setting : Setting) (epoch : ℕ) (items : List Item) (seed number : ℕ) (view : View)
    (counts : List LevelCount) → seed ≡ setting.seed → number ≡ length items
    → view ≡ central_view setting items → counts ≡ level_counts setting items
    → block_text seed epoch number view counts setting.heavy ≡ block_of setting epoch items
unfolding block_of
block_is setting epoch items seed number view counts s n v c = λ i. block_text (s i) epoch (n i) (v i) (c i)
    setting.heavy

-- the lines of a change by its two sketches
pub change_is : (setting : Setting) (epoch : ℕ) (earlier items : List Item) (seed : ℕ) (before view : View)
    → seed ≡ setting.seed
    → before ≡ central_view setting earlier → view ≡ central_view setting items
    → change_lines seed epoch before view setting.heavy ≡ change_of setting epoch earlier items
unfolding change_of
change_is setting epoch earlier items seed before view s b v = λ i. change_lines (s i) epoch (b i) (v i) setting.heavy
