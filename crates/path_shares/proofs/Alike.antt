-- Sketches that differ in the size of their heaps alone have the same measures and the same lines.
use Rattle.std.proofs.Common.{◌≡◌, ℕ, ◌+◌, ◌++◌, ◌||◌, zero, suc, List, [], map, pos, ◌+ℤ◌, ◌*ℤ◌, ◌∙◌, ap}
use Rattle.std.specs.Simd.Lanes.{zip2}
use Rattle.change_report.specs.Block.{block_text, cardinality_line, epoch_line, heavy_lines, level_lines, total_line}
use Rattle.change_report.specs.Change.{change_line, change_lines, changed_lines, estimate_pairs}
use Rattle.change_report.specs.Form.{Form, Whole, Brief, change_block, epoch_block}
use Rattle.count_sketch.specs.Counters.{int_sum_by, minus}
use Rattle.count_sketch.specs.Estimate.{estimate}
use Rattle.recursive_sum.specs.Select.{clipped, heavy_pairs, selection}
use Rattle.recursive_sum.specs.Sum.{counts_at, estimate_at, g_of, recursive_sum, sum_at, turn, turned_at}
use Rattle.recursive_sum.specs.declared.measure.G.{G}
use Rattle.recursive_sum.specs.declared.measure.G.TheVariants.{One, Value, Abs}
use Rattle.sketch_merge.specs.Merged.{View, counters_at, difference, keys_at, united}

pub record AreAlike (v w : View) : Type 0 where
  pub levels : v.setting.levels ≡ w.setting.levels
  pub rows : v.setting.rows ≡ w.setting.rows
  pub width : v.setting.width ≡ w.setting.width
  pub weight : v.weight ≡ w.weight
  pub counters : v.counters ≡ w.counters
  pub keys : v.keys ≡ w.keys
  pub dropped : v.dropped ≡ w.dropped

module _ {v w : View} (seed : ℕ) (alike : AreAlike v w) where
  counters_alike : (level : ℕ) → counters_at v level ≡ counters_at w level
  unfolding counters_at
  counters_alike level i = counters_at (record v { counters = alike.counters i }) level

  keys_alike : (level : ℕ) → keys_at v level ≡ keys_at w level
  unfolding keys_at
  keys_alike level i = keys_at (record v { keys = alike.keys i }) level

  estimates_alike : (level : ℕ) (key : List ℕ) → estimate_at seed v level key ≡ estimate_at seed w level key
  unfolding estimate_at
  estimates_alike level key i = estimate seed level (alike.rows i) (alike.width i) (counters_alike level i) key

  counts_alike : (g : G) (level : ℕ) (key : List ℕ) → counts_at seed g v level key ≡ counts_at seed g w level key
  unfolding counts_at
  counts_alike g level key i = g_of g (estimates_alike level key i)

  turned_alike : (g : G) (level : ℕ) (key : List ℕ) → turned_at seed g v level key ≡ turned_at seed g w level key
  unfolding turned_at
  turned_alike g level key i = turn seed (level + 1) key *ℤ counts_alike g level key i

  sums_alike : (g : G) (above level : ℕ) → sum_at seed g v level above ≡ sum_at seed g w level above
  unfolding sum_at
  sums_alike g zero level i = int_sum_by (λ key. counts_alike g level key i) (keys_alike level i)
  sums_alike g (suc above) level i =
      (pos 2 *ℤ sums_alike g above (level + 1) i)
      +ℤ int_sum_by (λ key. turned_alike g level key i) (keys_alike level i)

  measures_alike : (g : G) → recursive_sum seed g v ≡ recursive_sum seed g w
  unfolding recursive_sum
  measures_alike g = sums_alike g v.setting.levels 0 ∙ ap (sum_at seed g w 0) alike.levels

  heavy_pairs_alike : heavy_pairs seed v ≡ heavy_pairs seed w
  unfolding heavy_pairs
  heavy_pairs_alike i = map (λ key. (key, clipped (estimates_alike 0 key i))) (keys_alike 0 i)

  estimate_pairs_alike : estimate_pairs seed v ≡ estimate_pairs seed w
  unfolding estimate_pairs
  estimate_pairs_alike i = map (λ key. (key, estimates_alike 0 key i)) (keys_alike 0 i)

  epoch_line_alike : (epoch packets : ℕ) → epoch_line epoch packets v ≡ epoch_line epoch packets w
  unfolding epoch_line
  epoch_line_alike epoch packets i =
      epoch_line epoch packets (record v { weight = alike.weight i; dropped = alike.dropped i })

  block_alike : (epoch packets per_mille : ℕ)
      → block_text seed epoch packets v [] per_mille ≡ block_text seed epoch packets w [] per_mille
  unfolding block_text
  block_alike epoch packets per_mille i =
      epoch_line_alike epoch packets i ++ (level_lines 0 [] ++ (cardinality_line (measures_alike One i)
      ++ (total_line (measures_alike Value i)
      ++ heavy_lines (selection per_mille (pos (alike.weight i)) (heavy_pairs_alike i)))))

  few_alike : (epoch packets per_mille : ℕ)
      → epoch_block Brief seed per_mille epoch packets v ≡ epoch_block Brief seed per_mille epoch packets w
  unfolding epoch_block
  few_alike epoch packets per_mille i =
      epoch_line_alike epoch packets i
      ++ (cardinality_line (measures_alike One i) ++ total_line (measures_alike Value i))

-- the differences of sketches that are alike
differences_alike : (v w v' w' : View) → AreAlike v w → AreAlike v' w' → AreAlike (difference v v') (difference w w')
differences_alike v w v' w' one two = record {
  levels = one.levels;
  rows = one.rows;
  width = one.width;
  weight = one.weight;
  counters = λ i. zip2 minus (one.counters i) (two.counters i);
  keys = λ i. zip2 united (one.keys i) (two.keys i);
  dropped = λ i. one.dropped i || two.dropped i;
}

-- the lines of an epoch
pub epoch_blocks_alike : (form : Form) (seed heavy epoch packets : ℕ) (v w : View) → AreAlike v w
    → epoch_block form seed heavy epoch packets v ≡ epoch_block form seed heavy epoch packets w
unfolding epoch_block
epoch_blocks_alike Whole seed heavy epoch packets v w alike = block_alike seed alike epoch packets heavy
epoch_blocks_alike Brief seed heavy epoch packets v w alike = few_alike seed alike epoch packets heavy

-- the lines of a change
pub change_blocks_alike : (form : Form) (seed heavy epoch : ℕ) (v w v' w' : View) → AreAlike v w → AreAlike v' w'
    → change_block form seed heavy epoch v v' ≡ change_block form seed heavy epoch w w'
unfolding change_block change_lines
change_blocks_alike Whole seed heavy epoch v w v' w' one two =
    let both = differences_alike v' w' v w two one in
    λ i. change_line epoch (measures_alike seed both Abs i)
    ++ changed_lines (selection heavy (measures_alike seed both Abs i) (estimate_pairs_alike seed both i))
change_blocks_alike Brief seed heavy epoch v w v' w' one two =
    let both = differences_alike v' w' v w two one in
    λ i. change_line epoch (measures_alike seed both Abs i)
