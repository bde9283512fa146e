-- The sum so far, from the highest level down.
use Rattle.std.proofs.Common.{◌≡◌, ℕ, ◌+◌, ◌-◌, ◌*◌, ◌^◌, ◌≤◌, ◌<◌, List, [], length, ℤ, pos, ◌+ℤ◌, ◌*ℤ◌, unsigned_abs}
use Rattle.std.proofs.Common.{sym, ◌∙◌, ap, add-one, arith}
use Rattle.std.proofs.Math.Nat.{pow-suc}
use Rattle.std.proofs.Math.Pow.{pow_mono}
use Rattle.std.proofs.lemmas.Int.{ints}
use Rattle.std.proofs.lemmas.List.Elements.{All-get_or}
use Rattle.count_sketch.specs.Counters.{int_sum_by}
use Rattle.sketch_merge.specs.Merged.{View, HaveUpTo, keys_at}
use Rattle.recursive_sum.specs.declared.measure.G.{G}
use Rattle.recursive_sum.specs.Sum.{counts_at, turned_at, sum_at, recursive_sum}

-- the sum at the level with so many levels above it, within bounds
pub record IsSumAt (seed : ℕ) (g : G) (view : View) (highest above : ℕ) (sum : ℤ) : Type 0 where
  pub value : sum ≡ sum_at seed g view (highest - above) above
  pub bound : (n : ℕ) → HaveUpTo n view.keys → unsigned_abs sum + n * 2 ^ 45 ≤ 2 ^ (above + 1) * (n * 2 ^ 45)
  pub small : unsigned_abs sum + 2 ^ 109 ≤ 2 ^ (above + 1) * 2 ^ 109

-- no level has more keys than each has at most
pub length-keys_at : (view : View) (n level : ℕ) → HaveUpTo n view.keys → level < length view.keys
    → length (keys_at view level) ≤ n
unfolding keys_at
length-keys_at view n level upto below =
    All-get_or (λ (keys : List (List ℕ)). length keys ≤ n) view.keys level [] below upto.each

-- twice a sum and one more number stay within twice the bound
twice_within : (sum own next : ℤ) (b p : ℕ) → next ≡ (pos 2 *ℤ sum) +ℤ own → unsigned_abs own ≤ b
    → unsigned_abs sum + b ≤ p * b → unsigned_abs next + b ≤ (p * 2) * b
twice_within sum own next b p is small within =
    let twice : (p * 2) * b ≡ 2 * (p * b) = omega arith in
    omega (arith, ints, twice)

next_power : (above : ℕ) → 2 ^ (above + 1 + 1) ≡ 2 ^ (above + 1) * 2
next_power above = rw (add-one (above + 1)) (pow-suc 2 (above + 1))

module _ (seed : ℕ) (g : G) (view : View) (highest : ℕ) (lists : length view.keys ≡ highest + 1) where
  own_within : (level n : ℕ) (own : ℤ) → level ≤ highest → unsigned_abs own ≤ length (keys_at view level) * 2 ^ 45
      → HaveUpTo n view.keys → unsigned_abs own ≤ n * 2 ^ 45
  own_within level n own below size upto =
      let few = length-keys_at view n level upto (omega (arith, lists)) in
      omega (arith, few)

  pub first_sum : (sum : ℤ) → sum ≡ int_sum_by (counts_at seed g view highest) (keys_at view highest)
      → unsigned_abs sum ≤ length (keys_at view highest) * 2 ^ 45 → length (keys_at view highest) < 2 ^ 64
      → IsSumAt seed g view highest 0 sum
  unfolding sum_at
  first_sum sum is size few = let whole : highest - 0 ≡ highest = omega arith in record {
    value = is ∙ ap (λ (level : ℕ). int_sum_by (counts_at seed g view level) (keys_at view level)) (sym whole);
    bound = λ n upto. omega (arith, own_within highest n sum (omega arith) size upto);
    small = omega arith;
  }

  next_value : (above : ℕ) (sum own next : ℤ) → above < highest → IsSumAt seed g view highest above sum
      → own ≡ int_sum_by (turned_at seed g view (highest - 1 - above)) (keys_at view (highest - 1 - above))
      → next ≡ (pos 2 *ℤ sum) +ℤ own → next ≡ sum_at seed g view (highest - (above + 1)) (above + 1)
  unfolding sum_at
  next_value above sum own next below so_far is sums =
      let level : ℕ = highest - 1 - above in
      let here : highest - (above + 1) ≡ level = omega arith in
      let up : highest - above ≡ level + 1 = omega arith in
      let before : sum ≡ sum_at seed g view (level + 1) above =
      so_far.value ∙ ap (λ (k : ℕ). sum_at seed g view k above) up in
      rw (here, add-one above) (sums ∙ λ i. (pos 2 *ℤ before i) +ℤ is i)

  pub next_sum : (above : ℕ) (sum own next : ℤ) → above < highest → IsSumAt seed g view highest above sum
      → own ≡ int_sum_by (turned_at seed g view (highest - 1 - above)) (keys_at view (highest - 1 - above))
      → unsigned_abs own ≤ length (keys_at view (highest - 1 - above)) * 2 ^ 45
      → length (keys_at view (highest - 1 - above)) < 2 ^ 64
      → next ≡ (pos 2 *ℤ sum) +ℤ own → IsSumAt seed g view highest (above + 1) next
  next_sum above sum own next below so_far is size few sums = record {
    value = next_value above sum own next below so_far is sums;
    bound = λ n upto. rw (next_power above)
        (twice_within sum own next (n * 2 ^ 45) (2 ^ (above + 1)) sums
        (own_within (highest - 1 - above) n own (omega arith) size upto) (so_far.bound n upto));
    small = rw (next_power above)
        (twice_within sum own next (2 ^ 109) (2 ^ (above + 1)) sums (omega arith) so_far.small);
  }

  pub whole_sum_is : (sum : ℤ) → highest ≡ view.setting.levels → IsSumAt seed g view highest highest sum
      → sum ≡ recursive_sum seed g view
  unfolding recursive_sum
  whole_sum_is sum top so_far =
      let none : highest - highest ≡ 0 = omega arith in
      so_far.value ∙ (λ i. sum_at seed g view (none i) highest) ∙ ap (sum_at seed g view 0) top

  pub whole_sum_within : (n : ℕ) (sum : ℤ) → highest ≡ view.setting.levels → IsSumAt seed g view highest highest sum
      → HaveUpTo n view.keys → unsigned_abs sum ≤ 2 ^ (view.setting.levels + 1) * n * 2 ^ 45
  whole_sum_within n sum top so_far upto =
      let within = so_far.bound n upto in
      let grouped : 2 ^ (highest + 1) * n * 2 ^ 45 ≡ 2 ^ (highest + 1) * (n * 2 ^ 45) = omega arith in
      rw (← top) (omega (arith, within, grouped))

-- a sum below the highest level leaves room to be doubled
pub sum_fits : (seed : ℕ) (g : G) (view : View) (highest above : ℕ) (sum : ℤ) → above < highest → highest ≤ 16
    → IsSumAt seed g view highest above sum → unsigned_abs sum ≤ 2 ^ 125
sum_fits seed g view highest above sum below high so_far =
    let power : 2 ^ (above + 1) ≤ 2 ^ 16 = pow_mono {i = above + 1} {j = 16} (omega arith) in
    omega (arith, power, so_far.small)
