-- What merged sketches are: of their levels, and of two of them.
use Rattle.std.proofs.Common.{◌≡◌, ◌^◌, ℕ, ℤ, ◌+◌, ◌*◌, ◌<◌, ◌≤◌, ◌||◌, Bool, List, [], length, ◌-ℤ◌, replicate, pos}
use Rattle.std.proofs.Common.{unsigned_abs, sym, ◌∙◌, ap, arith}
use Rattle.std.specs.Bool.{IsTrue}
use Rattle.std.specs.List.{All}
use Rattle.std.specs.Cmp.Lexicographic.{slice_cmp}
use Rattle.std.specs.List.Sorted.{IsStrictlySortedBy}
use Rattle.std.specs.Ordering.{nat_cmp}
use Rattle.std.specs.Simd.Lanes.{zip2}
use Rattle.std.proofs.lemmas.Bool.Decides.{nat_tests}
use Rattle.std.proofs.lemmas.List.{length-replicate}
use Rattle.std.proofs.lemmas.List.Elements.{All-replicate, All-weaker}
use Rattle.std.proofs.lemmas.Simd.{length-zip2}
use Rattle.hash_family.specs.Setting.{Setting}
use Rattle.hash_family.specs.Limits.{are_within}
use Rattle.count_sketch.specs.Counters.{AllUpTo, minus}
use Rattle.count_sketch.proofs.Shares.{AllUpTo-more, minus-upto}
use Rattle.sketch_merge.specs.Merged.{HaveUpTo, IsView, difference, united}
use Rattle.sketch_merge.specs.Stored.{IsStored, stored_view}
use Rattle.sketch_merge.proofs.LevelLists.{bound-levels_of, length-levels_of, shape-levels_of, zip2-levels_of}
use Rattle.sketch_merge.proofs.Unions.{ascending-united, length-united}
use Rattle.sketch_merge.proofs.Zipped.{All-zip2}

-- within the limits a level has counters
pub some_counters : (levels rows width heap : ℕ) → IsTrue (are_within levels rows width heap) → 0 < rows * width
some_counters levels rows width heap within = grind (arith, nat_tests)

-- and at most as many as seven rows of 2,048
pub few_counters : (levels rows width heap : ℕ) → IsTrue (are_within levels rows width heap) → rows * width ≤ 14336
few_counters levels rows width heap within = grind (arith, nat_tests)

-- a greater bound of each level
pub AllUpTo-more_each : (n m : ℕ) (levels : List (List ℤ)) → n ≤ m → All (AllUpTo n) levels → All (AllUpTo m) levels
AllUpTo-more_each n m levels more small =
    All-weaker (AllUpTo n) (AllUpTo m) (λ level all. AllUpTo-more n m level more all) levels small

-- what is stored is seen level by level
pub IsView-stored : (setting : Setting) (counters : List ℤ) (keys : List (List (List ℕ))) (dropped : Bool) (weight : ℕ)
    → IsStored setting counters keys → IsView (stored_view setting counters keys dropped weight)
IsView-stored setting counters keys dropped weight stored =
    let levels : ℕ = setting.levels + 1 in
    let size : ℕ = setting.rows * setting.width in
    record {
      within = stored.within;
      levels = length-levels_of levels size counters;
      key_levels = stored.key_levels;
      shape = shape-levels_of levels size counters stored.number;
      small = bound-levels_of (2 ^ 45) levels size counters stored.small;
      ascending = stored.ascending;
    }

pub zeros_small : (n number : ℕ) → AllUpTo n (replicate number (pos 0))
zeros_small n number =
    record { each = All-replicate (λ (x : ℤ). unsigned_abs x ≤ n) number (pos 0) (omega arith) }

-- counters that are 0, and no keys
pub IsStored-nothing : (setting : Setting)
    → IsTrue (are_within setting.levels setting.rows setting.width setting.heap)
    → IsStored setting (replicate ((setting.levels + 1) * (setting.rows * setting.width)) (pos 0))
    (replicate (setting.levels + 1) [])
unfolding IsStrictlySortedBy
IsStored-nothing setting within =
    let number : ℕ = (setting.levels + 1) * (setting.rows * setting.width) in record {
      within = within;
      number = length-replicate number (pos 0);
      small = zeros_small (2 ^ 45) number;
      key_levels = length-replicate (setting.levels + 1) [];
      ascending = All-replicate (IsStrictlySortedBy (slice_cmp nat_cmp)) (setting.levels + 1) [] tt;
    }

-- other counters, and keys more
pub IsStored-next : (setting : Setting) (counters next : List ℤ) (keys more : List (List (List ℕ)))
    → IsStored setting counters keys → length next ≡ length counters → AllUpTo (2 ^ 45) next
    → length more ≡ setting.levels + 1 → IsStored setting next (zip2 united keys more)
IsStored-next setting counters next keys more stored number small levels =
    let Ascends : List (List ℕ) → Type 0 = IsStrictlySortedBy (slice_cmp nat_cmp) in
    record {
      within = stored.within;
      number = number ∙ stored.number;
      small = small;
      key_levels = length-zip2 united keys more (stored.key_levels ∙ sym levels) ∙ stored.key_levels;
      ascending = All-zip2 Ascends (λ (level : List (List ℕ)). Unit {0}) Ascends united
          (λ xs ys a b. ascending-united xs ys a) keys more stored.ascending (λ k d below. tt);
    }

-- no level of a union has more keys than both together
pub HaveUpTo-united : (n m : ℕ) (keys more : List (List (List ℕ))) → HaveUpTo n keys → HaveUpTo m more
    → HaveUpTo (n + m) (zip2 united keys more)
HaveUpTo-united n m keys more first second = record {
  each = All-zip2 (λ (level : List (List ℕ)). length level ≤ n) (λ (level : List (List ℕ)). length level ≤ m)
      (λ (level : List (List ℕ)). length level ≤ n + m) united
      (λ xs ys a b. omega (arith, length-united xs ys, a, b)) keys more first.each second.each;
}

-- the difference of what is stored
module _ (setting : Setting) (counters others : List ℤ) (keys more : List (List (List ℕ)))
    (stored : IsStored setting counters keys) (other_stored : IsStored setting others more) where
  number : length counters ≡ length others
  number = stored.number ∙ sym other_stored.number

  pub IsStored-difference : AllUpTo (2 ^ 44) counters → AllUpTo (2 ^ 44) others
      → IsStored setting (minus counters others) (zip2 united keys more)
  IsStored-difference small other_small =
      IsStored-next setting counters (minus counters others) keys more stored (length-zip2 ◌-ℤ◌ counters others number)
      (minus-upto (2 ^ 44) (2 ^ 44) counters others number small other_small) other_stored.key_levels

pub difference_view : (setting : Setting) (counters others : List ℤ) (keys more : List (List (List ℕ)))
    (dropped other_dropped : Bool) (weight other_weight : ℕ)
    → stored_view setting (minus counters others) (zip2 united keys more) (dropped || other_dropped) weight
    ≡ difference (stored_view setting counters keys dropped weight)
    (stored_view setting others more other_dropped other_weight)
difference_view setting counters others keys more dropped other_dropped weight other_weight = ap
    (λ (all : List (List ℤ)). record {
      setting = setting;
      weight = weight;
      counters = all;
      keys = zip2 united keys more;
      dropped = dropped || other_dropped;
    })
    (zip2-levels_of ◌-ℤ◌ (setting.levels + 1) (setting.rows * setting.width) counters others)
