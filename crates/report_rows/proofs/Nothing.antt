-- Merged sketches of nothing.
use Rattle.std.proofs.Common.{ℕ, ℤ, ◌^◌, ◌+◌, ◌*◌, ◌≤◌, List, [], length, All, unsigned_abs, refl, arith}
use Rattle.std.specs.List.{range_with_len}
use Rattle.std.proofs.lemmas.List.Elements.{All-map}
use Rattle.hash_family.specs.Setting.{Setting}
use Rattle.count_sketch.specs.Counters.{AllUpTo, int_sum_by}
use Rattle.sketch_merge.specs.Merged.{HaveUpTo, united}
use Rattle.sketch_merge.specs.Merging.{counter_in, level_size, merged_counters, merged_view, named_keys}
use Rattle.change_report.specs.Change.{key_limit}
use Rattle.measure_report.specs.Run.{IsEpoch}

-- no counter of a level counts anything
level_of_nothing : (setting : Setting) (level : ℕ) → AllUpTo (2 ^ 44) (merged_counters setting [] level)
unfolding merged_counters
level_of_nothing setting level = record {
  each = All-map (λ (value : ℤ). unsigned_abs value ≤ 2 ^ 44) (λ (place : ℕ). int_sum_by (counter_in place) [])
      (range_with_len (level * level_size setting) (level_size setting)) (λ i d within. omega arith);
}

-- no counter does
counters_of_nothing : (setting : Setting) → All (AllUpTo (2 ^ 44)) (merged_view setting 0 []).counters
unfolding merged_view
counters_of_nothing setting =
    All-map (AllUpTo (2 ^ 44)) (merged_counters setting []) (range_with_len 0 (setting.levels + 1))
    (λ i d within. level_of_nothing setting _)

-- no key is named
no_keys : (level : ℕ) → length (named_keys [] level) ≤ key_limit
unfolding named_keys united
no_keys level = omega arith

keys_of_nothing : (setting : Setting) → HaveUpTo key_limit (merged_view setting 0 []).keys
unfolding merged_view
keys_of_nothing setting = record {
  each = All-map (λ (keys : List (List ℕ)). length keys ≤ key_limit) (named_keys [])
      (range_with_len 0 (setting.levels + 1)) (λ i d within. no_keys _);
}

-- the sketch of an epoch
pub epoch_of_nothing : (setting : Setting) → IsEpoch setting (merged_view setting 0 [])
unfolding merged_view
epoch_of_nothing setting = record {
  shape = refl;
  small = counters_of_nothing setting;
  few = keys_of_nothing setting;
}
