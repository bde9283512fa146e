-- Heavy keys are of level 0, with a number above 0.
use Rattle.std.proofs.Common.{◌≡◌, ℕ, ◌<◌, ◌*◌, true, ltb, List, get_or, ℤ, pos, ◌*ℤ◌, ◌<ℤ◌, int_le, int_lt}
use Rattle.std.proofs.Common.{unsigned_abs, arith}
use Rattle.std.specs.List.{All, filter}
use Rattle.std.proofs.lemmas.Bool.{and_parts, cond_both, ltb-true}
use Rattle.std.proofs.lemmas.Bool.Decides.{nat_tests}
use Rattle.std.proofs.lemmas.Int.{ints}
use Rattle.std.proofs.lemmas.List.Elements.{All-filter, All-map, Contains-get_or, filter_passes}
use Rattle.sketch_merge.specs.Merged.{View, keys_at}
use Rattle.recursive_sum.specs.Select.{IsHeavy, clipped, heavy_pairs, is_great, is_selected}
use Rattle.recursive_sum.specs.Sum.{estimate_at}

-- a great absolute value is above 0
great_above : (per_mille : ℕ) (total : ℤ) (size : ℕ) → is_great per_mille total size ≡ true → 0 < size
unfolding is_great
great_above per_mille total size great =
    let parts = and_parts (ltb 0 size) (int_le (pos per_mille *ℤ total) (pos (size * 1000))) great in
    ltb-true 0 size parts.0

-- a clipped number that isn't 0 is above 0
clipped_above : (x : ℤ) → 0 < unsigned_abs (clipped x) → pos 0 <ℤ clipped x
clipped_above x =
    cond_both (int_lt (pos 0) x) x (pos 0) (λ (y : ℤ). 0 < unsigned_abs y → pos 0 <ℤ y)
    (λ above some. grind (arith, ints, nat_tests)) (λ below some. absurd (omega (arith, some)))

-- so each selected pair of a key of level 0 and its clipped estimate is heavy
pub selected_heavy : (seed per_mille : ℕ) (total : ℤ) (view : View)
    → All (IsHeavy view) (filter (is_selected per_mille total) (heavy_pairs seed view))
unfolding heavy_pairs is_selected
selected_heavy seed per_mille total view =
    let passes : (List ℕ × ℤ) → Type 0 = λ pair. is_selected per_mille total pair ≡ true in
    let each : All (λ (pair : List ℕ × ℤ). passes pair → IsHeavy view pair) (heavy_pairs seed view) =
    All-map (λ (pair : List ℕ × ℤ). passes pair → IsHeavy view pair)
    (λ (key : List ℕ). (key, clipped (estimate_at seed view 0 key))) (keys_at view 0)
    (λ k d within great. record {
      named = Contains-get_or (keys_at view 0) k d within;
      above = clipped_above (estimate_at seed view 0 (get_or (keys_at view 0) k d))
          (great_above per_mille total _ great);
    }) in
    λ k d within.
    All-filter (is_selected per_mille total) (λ (pair : List ℕ × ℤ). passes pair → IsHeavy view pair)
    (heavy_pairs seed view) each k d within
    (filter_passes (is_selected per_mille total) (heavy_pairs seed view) k d within)
