-- What replies say together: their counters in one list, and what no reply says.
use Rattle.std.proofs.Common.{◌≡◌, ℕ, ◌*◌, false, List, [], length, map, get_or, replicate, ℤ, pos, sym, ◌∙◌, ap}
use Rattle.std.proofs.Common.{arith}
use Rattle.std.specs.List.{range_with_len}
use Rattle.std.proofs.lemmas.List.{ext_get_or}
use Rattle.std.proofs.lemmas.List.FromFn.{get_or-map-range_with_len, length-map-range_with_len, length-range_with_len}
use Rattle.std.proofs.lemmas.Simd.{splat_is_map}
use Rattle.hash_family.specs.Setting.{Setting}
use Rattle.count_sketch.specs.Counters.{int_sum_by}
use Rattle.reply_format.specs.Reply.{ReplayReply, level_count}
use Rattle.sketch_merge.specs.Levels.{levels_of}
use Rattle.sketch_merge.specs.Merged.{united}
use Rattle.sketch_merge.specs.Merging.{counter_in, is_marked, level_size, merged_counters, merged_view, named_keys}
use Rattle.sketch_merge.specs.Stored.{stored_view}
use Rattle.sketch_merge.proofs.LevelLists.{made-levels_of}

-- how many counters all levels have
abbrev pub all_size : Setting → ℕ
all_size setting = level_count setting * level_size setting

-- the sums of the counters at each place
abbrev pub sums : Setting → List ReplayReply → List ℤ
sums setting replies = map (λ place. int_sum_by (counter_in place) replies) (range_with_len 0 (all_size setting))

pub sums-levels_of : (setting : Setting) (replies : List ReplayReply)
    → levels_of (level_count setting) (level_size setting) (sums setting replies)
    ≡ map (merged_counters setting replies) (range_with_len 0 (level_count setting))
unfolding merged_counters
sums-levels_of setting replies =
    made-levels_of (λ place. int_sum_by (counter_in place) replies) (level_count setting) (level_size setting)

-- a list is made of what it has at each place
pub as_made : {X : Type 0} (xs : List X) (n : ℕ) (d : X) → length xs ≡ n
    → xs ≡ map (λ place. get_or xs place d) (range_with_len 0 n)
as_made {X} xs n d number =
    let at : ℕ → X = λ place. get_or xs place d in
    ext_get_or d xs (map at (range_with_len 0 n)) (number ∙ sym (length-map-range_with_len at 0 n)) (λ place below.
    sym (get_or-map-range_with_len at 0 n place place d (omega arith) (omega arith)))

-- no reply says: each counter is 0, and no key is named
pub merged_nothing : (setting : Setting) (weight : ℕ)
    → stored_view setting (replicate (all_size setting) (pos 0)) (replicate (level_count setting) []) false weight
    ≡ merged_view setting weight []
unfolding merged_view named_keys united is_marked
merged_nothing setting weight i = record {
  setting = setting;
  weight = weight;
  counters =
      (ap (levels_of (level_count setting) (level_size setting))
      (splat_is_map (range_with_len 0 (all_size setting)) (all_size setting) (pos 0)
      (length-range_with_len 0 (all_size setting)))
      ∙ sums-levels_of setting []) i;
  keys = splat_is_map (range_with_len 0 (level_count setting)) (level_count setting) []
      (length-range_with_len 0 (level_count setting)) i;
  dropped = false;
}
