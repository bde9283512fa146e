-- What the rows say of a key.
use Rattle.std.proofs.Common.{◌≡◌, ℕ, ◌+◌, ◌*◌, ◌/◌, ◌≤◌, ◌<◌, IsTrue, List, [], ◌∷◌, ◌++◌, length, get_or, take, set}
use Rattle.std.proofs.Common.{map, ℤ, pos, ◌*ℤ◌, unsigned_abs, sym, ◌∙◌, ap, arith, length-set, inl, inr}
use Rattle.std.specs.List.{range_with_len}
use Rattle.std.proofs.lemmas.Bool.{cases_lt}
use Rattle.std.proofs.lemmas.List.{take_more_set, get_or_past, ext_get_or, get_or-set_other}
use Rattle.std.proofs.lemmas.List.Elements.{All-get_or, All-map}
use Rattle.std.proofs.lemmas.List.FromFn.{map-range_with_len_more, length-map-range_with_len, get_or-map-range_with_len}
use Rattle.std.proofs.lemmas.Bool.Decides.{nat_tests}
use Rattle.hash_family.specs.Hash.{bucket, sign, hash, bucket_function}
use Rattle.hash_family.specs.Limits.{is_rows}
use Rattle.count_sketch.specs.Counters.{Item, AllUpTo}
use Rattle.count_sketch.specs.Row.{AddsToRow, item_place}
use Rattle.std.proofs.lemmas.Nat.{mod_below, row_fits}
use Rattle.count_sketch.specs.Estimate.{row_estimate, estimate}
use Rattle.count_sketch.proofs.Steps.{AddedTo, added_row}
use Rattle.count_sketch.proofs.Shares.{unsigned_abs-signed}
use Rattle.count_sketch.proofs.Middles.{middle-upto}

-- the first places have what the first rows say
pub record FilledTo (seed level width : ℕ) (counters : List ℤ) (key : List ℕ) (found : List ℤ) (row : ℕ) : Type 0 where
  pub size : length found ≡ 7
  pub done : take row found ≡ map (row_estimate seed level width counters key) (range_with_len 0 row)

pub filled_more : (seed level width : ℕ) (counters : List ℤ) (key : List ℕ) (found : List ℤ) (row : ℕ) → row < 7
    → FilledTo seed level width counters key found row
    → FilledTo seed level width counters key (set found row (row_estimate seed level width counters key row)) (row + 1)
filled_more seed level width counters key found row below before = record {
  size = length-set found row _ ∙ before.size;
  done =
      take_more_set found row (row_estimate seed level width counters key row) (omega (arith, before.size))
      ∙ ap (λ (xs : List ℤ). xs ++ row_estimate seed level width counters key row ∷ []) before.done
      ∙ sym (map-range_with_len_more (row_estimate seed level width counters key) 0 row row (omega arith));
}

-- ---- after an item in one row

pub bucket-lt : (seed level row width : ℕ) (key : List ℕ) → 0 < width → bucket seed level row width key < width
unfolding bucket
bucket-lt seed level row width key = mod_below (hash seed (bucket_function level row) key) width

-- an earlier row says what it said
row_estimate-kept : (seed level width : ℕ) (item : Item) (now next : List ℤ) (row : ℕ)
    → AddsToRow seed level width item now next row → (key : List ℕ) (r : ℕ) → r < row
    → row_estimate seed level width now key r ≡ row_estimate seed level width next key r
unfolding row_estimate
row_estimate-kept seed level width item now next row adds key r earlier =
    let at = item_place seed level row width item.key in
    let place = item_place seed level r width key in
    let below = bucket-lt seed level r width key (omega (arith, adds.within)) in
    let rows = row_fits r width row width earlier (omega arith) in
    let same = ap (λ (xs : List ℤ). get_or xs place (pos 0)) adds.written
    ∙ get_or-set_other now at place _ (pos 0) (λ meet. absurd (omega (arith, below, rows, meet))) in
    ap (λ (x : ℤ). sign seed level r key *ℤ x) (sym same)

map_range-same : (f g : ℕ → ℤ) (n : ℕ) → ((k : ℕ) → k < n → f k ≡ g k)
    → map f (range_with_len 0 n) ≡ map g (range_with_len 0 n)
map_range-same f g n same =
    ext_get_or (pos 0) (map f (range_with_len 0 n)) (map g (range_with_len 0 n))
    (length-map-range_with_len f 0 n ∙ sym (length-map-range_with_len g 0 n)) (λ k below.
    let within : k < n = omega (arith, length-map-range_with_len f 0 n) in
    get_or-map-range_with_len f 0 n k k (pos 0) within (omega arith) ∙ same k within
    ∙ sym (get_or-map-range_with_len g 0 n k k (pos 0) within (omega arith)))

-- the first places have what the first rows and this one say of the new counters
pub filled_row : {seed level width : ℕ} {item : Item} {now next : List ℤ} {key : List ℕ} {found : List ℤ} {row : ℕ}
    → row < 7 → FilledTo seed level width now key found row → AddsToRow seed level width item now next row
    → FilledTo seed level width next key (set found row (row_estimate seed level width next key row)) (row + 1)
filled_row {seed} {level} {width} {item} {now} {next} {key} {found} {row} below before adds =
    filled_more seed level width next key found row below (record {
      size = before.size;
      done = before.done
          ∙ map_range-same (row_estimate seed level width now key) (row_estimate seed level width next key) row
          (row_estimate-kept seed level width item now next row adds key);
    })

-- an item is added to the counters of the first rows, and the first places have what these rows say of its key
pub record FedTo (seed level width : ℕ) (item : Item) (old now found : List ℤ) (row : ℕ) : Type 0 where
  pub added : AddedTo seed level width item old now row
  pub filled : FilledTo seed level width now item.key found row

pub fed_row : {seed level width : ℕ} {item : Item} {old now next found : List ℤ} {row : ℕ} → row < 7
    → FedTo seed level width item old now found row → AddsToRow seed level width item now next row
    → FedTo seed level width item old next (set found row (row_estimate seed level width next item.key row)) (row + 1)
fed_row below before adds = record { added = added_row before.added adds; filled = filled_row below before.filled adds }

-- ---- bounds

-- what a row says is no greater than the counters are
row_estimate-upto : (seed level width : ℕ) (counters : List ℤ) (key : List ℕ) (n : ℕ) → AllUpTo n counters → (row : ℕ)
    → unsigned_abs (row_estimate seed level width counters key row) ≤ n
unfolding row_estimate
row_estimate-upto seed level width counters key n all row =
    let place = row * width + bucket seed level row width key in
    let size = unsigned_abs-signed seed level row key (get_or counters place (pos 0)) in
    elim (cases_lt place (length counters)) [
      | inl within ↦ omega
          (arith, size, All-get_or (λ (x : ℤ). unsigned_abs x ≤ n) counters place (pos 0) within all.each)
      | inr past ↦ omega (arith, size, ap unsigned_abs (get_or_past counters place (pos 0) past))
    ]

-- an estimate is no greater than the counters are
pub estimate-upto : (seed level rows width : ℕ) (counters : List ℤ) (key : List ℕ) (n : ℕ) → AllUpTo n counters
    → unsigned_abs (estimate seed level rows width counters key) ≤ n
unfolding estimate
estimate-upto seed level rows width counters key n all =
    middle-upto (map (row_estimate seed level width counters key) (range_with_len 0 rows)) n
    (record {
      each = All-map (λ (x : ℤ). unsigned_abs x ≤ n) (row_estimate seed level width counters key)
          (range_with_len 0 rows) (λ k d below. row_estimate-upto seed level width counters key n all _);
    })

-- ---- numbers of rows

pub is_rows-le : (rows : ℕ) → IsTrue (is_rows rows) → rows ≤ 7
is_rows-le rows within = grind (arith, nat_tests)

pub is_rows-odd : (rows : ℕ) → IsTrue (is_rows rows) → rows ≡ 2 * (rows / 2) + 1
is_rows-odd rows within = grind (arith, nat_tests)
