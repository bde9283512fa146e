-- Sketches as grids: an item more, and sums and differences of their counters.
use Rattle.std.proofs.Common.{◌≡◌, ℕ, ◌+◌, ◌*◌, ◌≤◌, List, [], ◌∷◌, ◌++◌, length, get_or, ℤ, pos, ◌+ℤ◌, ◌-ℤ◌, sym}
use Rattle.std.proofs.Common.{◌∙◌, ap, arith, ◌^◌, ◌-◌}
use Rattle.std.proofs.lemmas.Int.{ints}
use Rattle.std.proofs.lemmas.List.{ext_get_or}
use Rattle.std.proofs.lemmas.Simd.{get_or-zip2, length-zip2}
use Rattle.count_sketch.specs.Counters.{Item, Grid, counters_of, grid_of, plus, minus, AllUpTo}
use Rattle.count_sketch.specs.Shape.{IsShaped}
use Rattle.count_sketch.proofs.Shares.{counters_of-append, counters_of_one-upto, length-counters_of, plus-upto}
use Rattle.count_sketch.proofs.Shares.{minus-upto, AllUpTo-more}

-- the counters of an item that comes to a sketch
abbrev pub item_counters : ℕ → ℕ → Item → Grid → List ℤ
item_counters seed level item grid = counters_of seed level grid.rows grid.width (item ∷ [])

-- a sketch after an item
abbrev pub next_grid : ℕ → ℕ → Item → Grid → Grid
next_grid seed level item grid = record grid { counters = plus grid.counters (item_counters seed level item grid) }

-- the sketch of a list becomes that of the list with the item at its end
pub next_grid-grid_of : (seed level : ℕ) (item : Item) (items : List Item) (grid : Grid)
    → grid ≡ grid_of seed level grid.rows grid.width items
    → next_grid seed level item grid ≡ grid_of seed level grid.rows grid.width (items ++ item ∷ [])
next_grid-grid_of seed level item items grid is =
    let f : List ℤ → Grid = λ counters. record grid { counters = counters } in
    ap f (ap (λ (g : Grid). plus g.counters (item_counters seed level item grid)) is
    ∙ counters_of-append seed level grid.rows grid.width items (item ∷ []))

-- bounds grow by the item's weight
pub next_grid-upto : (seed level : ℕ) (item : Item) (n : ℕ) (grid : Grid)
    → length grid.counters ≡ grid.rows * grid.width → AllUpTo n grid.counters
    → AllUpTo (n + item.weight) (next_grid seed level item grid).counters
next_grid-upto seed level item n grid size all =
    plus-upto n item.weight grid.counters (item_counters seed level item grid)
    (size ∙ sym (length-counters_of seed level grid.rows grid.width (item ∷ []))) all
    (counters_of_one-upto seed level grid.rows grid.width item)

-- a sketch with another one added, and taken away
abbrev pub sum_grid : Grid → Grid → Grid
sum_grid grid other = record grid { counters = plus grid.counters other.counters }

abbrev pub difference_grid : Grid → Grid → Grid
difference_grid grid other = record grid { counters = minus grid.counters other.counters }

-- the sketches of two lists make that of the lists joined
pub plus-grid_of : (seed level : ℕ) (xs ys : List Item) (grid other : Grid)
    → grid ≡ grid_of seed level grid.rows grid.width xs → other ≡ grid_of seed level grid.rows grid.width ys
    → sum_grid grid other ≡ grid_of seed level grid.rows grid.width (xs ++ ys)
plus-grid_of seed level xs ys grid other is other_is =
    let f : List ℤ → Grid = λ counters. record grid { counters = counters } in
    ap f (ap (λ (g : Grid). plus g.counters other.counters) is
    ∙ ap (λ (g : Grid). plus (counters_of seed level grid.rows grid.width xs) g.counters) other_is
    ∙ counters_of-append seed level grid.rows grid.width xs ys)

-- what was added and taken away again
minus-plus : (xs ys : List ℤ) → length xs ≡ length ys → minus (plus xs ys) ys ≡ xs
minus-plus xs ys same =
    let sum = length-zip2 ◌+ℤ◌ xs ys same in
    let left = length-zip2 ◌-ℤ◌ (plus xs ys) ys (sum ∙ same) in
    ext_get_or (pos 0) (minus (plus xs ys) ys) xs (left ∙ sum) (λ k below.
    get_or-zip2 ◌-ℤ◌ (plus xs ys) ys k (pos 0) (pos 0) (pos 0) (omega arith) (omega arith)
    ∙ ap (λ (x : ℤ). x -ℤ get_or ys k (pos 0))
    (get_or-zip2 ◌+ℤ◌ xs ys k (pos 0) (pos 0) (pos 0) (omega arith) (omega arith))
    ∙ omega (arith, ints))

-- the sketch of two lists joined, without that of the second, is that of the first
pub minus-grid_of : (seed level : ℕ) (xs ys : List Item) (grid other : Grid)
    → grid ≡ grid_of seed level grid.rows grid.width (xs ++ ys) → other ≡ grid_of seed level grid.rows grid.width ys
    → difference_grid grid other ≡ grid_of seed level grid.rows grid.width xs
minus-grid_of seed level xs ys grid other is other_is =
    let f : List ℤ → Grid = λ counters. record grid { counters = counters } in
    let first = counters_of seed level grid.rows grid.width xs in
    let second = counters_of seed level grid.rows grid.width ys in
    let same = length-counters_of seed level grid.rows grid.width xs
    ∙ sym (length-counters_of seed level grid.rows grid.width ys) in
    ap f (ap (λ (g : Grid). minus g.counters other.counters) is
    ∙ ap (λ (g : Grid). minus (counters_of seed level grid.rows grid.width (xs ++ ys)) g.counters) other_is
    ∙ ap (λ (counters : List ℤ). minus counters second) (sym (counters_of-append seed level grid.rows grid.width xs ys))
    ∙ minus-plus first second same)

module _ (rows width m n : ℕ) (xs ys : List ℤ) (shaped : IsShaped rows width xs) (size : length ys ≡ rows * width)
    (low : AllUpTo m xs) (other_low : AllUpTo n ys) (fits : m + n ≤ 2 ^ 63 - 1) where
  pub IsShaped-plus : IsShaped rows width (plus xs ys)
  IsShaped-plus = record {
    rows_within = shaped.rows_within;
    width_within = shaped.width_within;
    size = length-zip2 ◌+ℤ◌ xs ys (shaped.size ∙ sym size) ∙ shaped.size;
    each = AllUpTo-more (m + n) (2 ^ 63 - 1) (plus xs ys) fits
        (plus-upto m n xs ys (shaped.size ∙ sym size) low other_low);
  }

  pub IsShaped-minus : IsShaped rows width (minus xs ys)
  IsShaped-minus = record {
    rows_within = shaped.rows_within;
    width_within = shaped.width_within;
    size = length-zip2 ◌-ℤ◌ xs ys (shaped.size ∙ sym size) ∙ shaped.size;
    each = AllUpTo-more (m + n) (2 ^ 63 - 1) (minus xs ys) fits
        (minus-upto m n xs ys (shaped.size ∙ sym size) low other_low);
  }

-- a sketch stays in its shape at an item, where its counters are up to 2^61
pub IsShaped-next_grid : (seed level : ℕ) (item : Item) (grid : Grid) → item.weight ≤ 2 ^ 44
    → IsShaped grid.rows grid.width grid.counters → AllUpTo (2 ^ 61) grid.counters
    → IsShaped grid.rows grid.width (next_grid seed level item grid).counters
IsShaped-next_grid seed level item grid small shaped low =
    IsShaped-plus grid.rows grid.width (2 ^ 61) item.weight grid.counters (item_counters seed level item grid) shaped
    (length-counters_of seed level grid.rows grid.width (item ∷ [])) low
    (counters_of_one-upto seed level grid.rows grid.width item) (omega arith)
