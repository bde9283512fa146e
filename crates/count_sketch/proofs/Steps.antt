-- Loops over rows and over places, step by step.
use Rattle.std.proofs.Common.{◌≡◌, ℕ, ◌+◌, ◌-◌, ◌*◌, ◌/◌, ◌%◌, ◌≤◌, ◌<◌, List, [], ◌∷◌, length, get_or, set, ℤ, pos}
use Rattle.std.proofs.Common.{◌+ℤ◌, ◌*ℤ◌, refl, sym, ◌∙◌, ap, arith, length-set, inl, inr}
use Rattle.std.specs.Simd.Lanes.{zip2}
use Rattle.std.proofs.lemmas.Bool.{cases_lt, cases_eq}
use Rattle.std.proofs.lemmas.Int.{ints}
use Rattle.std.proofs.lemmas.List.{ext_get_or, get_or-set_same, get_or-set_other}
use Rattle.std.proofs.lemmas.Nat.{div-mul-add, mod-mul-add}
use Rattle.std.proofs.lemmas.Simd.{get_or-zip2, length-zip2}
use Rattle.hash_family.specs.Hash.{bucket, sign}
use Rattle.count_sketch.specs.Counters.{Item, share, counters_of, plus}
use Rattle.count_sketch.specs.Row.{AddsToRow, item_place}
use Rattle.count_sketch.proofs.Shares.{share-hit, share-miss, counter-one, length-counters_of, get_or-counters_of}

-- ---- an item, row by row

-- the item is added to the counters of the first rows
pub record AddedTo (seed level width : ℕ) (item : Item) (old now : List ℤ) (row : ℕ) : Type 0 where
  pub size : length now ≡ length old
  pub done : (place : ℕ) → place < row * width
      → get_or now place (pos 0) ≡ get_or old place (pos 0) +ℤ share seed level width (place / width)
      (place % width) item
  pub rest : (place : ℕ) → row * width ≤ place → get_or now place (pos 0) ≡ get_or old place (pos 0)

pub added_none : (seed level width : ℕ) (item : Item) (old : List ℤ) → AddedTo seed level width item old old 0
added_none seed level width item old = record {
  size = refl;
  done = λ place below. absurd (omega (arith, below));
  rest = λ place above. refl;
}

-- a place in a row, by the row and what is left
record InRow (row width place : ℕ) : Type 0 where
  quotient : place / width ≡ row
  remainder : row * width + place % width ≡ place

in_row : (row width place : ℕ) → row * width ≤ place → place < row * width + width → InRow row width place
in_row row width place above below =
    let left = place - row * width in
    let e : row * width + left ≡ place = omega arith in
    let q : (row * width + left) / width ≡ row = div-mul-add row width left (omega arith) in
    let r : (row * width + left) % width ≡ left = mod-mul-add row width left (omega arith) in
    record {
      quotient = ap (λ (p : ℕ). p / width) (sym e) ∙ q;
      remainder = ap (λ (p : ℕ). row * width + p % width) (sym e) ∙ ap (λ (b : ℕ). row * width + b) r ∙ e;
    }

-- the place of the item's counter in a row has its share
share_there : (seed level row width place : ℕ) (item : Item) → InRow row width place
    → row * width + bucket seed level row width item.key ≡ place
    → share seed level width (place / width) (place % width) item ≡ sign seed level row item.key *ℤ pos item.weight
share_there seed level row width place item of at =
    ap (λ (r : ℕ). share seed level width r (place % width) item) of.quotient
    ∙ share-hit seed level width row (place % width) item (omega (arith, of.remainder))

-- the other places have none
share_elsewhere : (seed level row width place : ℕ) (item : Item) → InRow row width place
    → (row * width + bucket seed level row width item.key ≡ place → ⊥)
    → share seed level width (place / width) (place % width) item ≡ pos 0
share_elsewhere seed level row width place item of apart =
    ap (λ (r : ℕ). share seed level width r (place % width) item) of.quotient
    ∙ share-miss seed level width row (place % width) item (λ same. apart (omega (arith, of.remainder, same)))

-- what a write of the item's counter in one row more needs
record Writes (seed level width : ℕ) (item : Item) (now next : List ℤ) (row at : ℕ) : Type 0 where
  place : at ≡ row * width + bucket seed level row width item.key
  within : at < row * width + width
  fits : row * width + width ≤ length now
  written : next ≡ set now at (get_or now at (pos 0) +ℤ (sign seed level row item.key *ℤ pos item.weight))

module _ (seed level width : ℕ) (item : Item) (old now next : List ℤ) (row at : ℕ)
    (before : AddedTo seed level width item old now row) (write : Writes seed level width item now next row at) where
  same_elsewhere : (place : ℕ) → (place ≡ at → ⊥) → get_or next place (pos 0) ≡ get_or now place (pos 0)
  same_elsewhere place apart =
      ap (λ (xs : List ℤ). get_or xs place (pos 0)) write.written ∙ get_or-set_other now at place _ (pos 0) apart

  changed_there : get_or next at (pos 0) ≡ get_or old at (pos 0) +ℤ (sign seed level row item.key *ℤ pos item.weight)
  changed_there =
      ap (λ (xs : List ℤ). get_or xs at (pos 0)) write.written
      ∙ get_or-set_same now at _ (pos 0) (omega (arith, write.within, write.fits))
      ∙ ap (λ (x : ℤ). x +ℤ (sign seed level row item.key *ℤ pos item.weight))
      (before.rest at (omega (arith, write.place)))

  done_in_row : (place : ℕ) → row * width ≤ place → place < row * width + width
      → get_or next place (pos 0) ≡ get_or old place (pos 0) +ℤ share seed level width (place / width)
      (place % width) item
  done_in_row place above below = elim (cases_eq place at) [
    | inl same ↦
        let hit = share_there seed level row width place item (in_row row width place above below)
        (omega (arith, write.place, same)) in
        ap (λ (p : ℕ). get_or next p (pos 0)) same ∙ changed_there
        ∙ ap (λ (p : ℕ). get_or old p (pos 0) +ℤ (sign seed level row item.key *ℤ pos item.weight)) (sym same)
        ∙ ap (λ (x : ℤ). get_or old place (pos 0) +ℤ x) (sym hit)
    | inr apart ↦
        let miss = share_elsewhere seed level row width place item (in_row row width place above below)
        (λ there. apart (omega (arith, write.place, there))) in
        same_elsewhere place apart ∙ before.rest place above ∙ omega (arith, ints, miss)
  ]

  done_more : (place : ℕ) → place < (row + 1) * width
      → get_or next place (pos 0) ≡ get_or old place (pos 0) +ℤ share seed level width (place / width)
      (place % width) item
  done_more place below = elim (cases_lt place (row * width)) [
    | inl earlier ↦ same_elsewhere place (λ same. absurd (omega (arith, write.place))) ∙ before.done place earlier
    | inr above ↦ done_in_row place above (omega arith)
  ]

  added_more : AddedTo seed level width item old next (row + 1)
  added_more = record {
    size = ap length write.written ∙ length-set now at _ ∙ before.size;
    done = done_more;
    rest = λ place above. same_elsewhere place (λ same. absurd (omega (arith, write.within)))
        ∙ before.rest place (omega arith);
  }

-- the item is added to the counters of one row more
pub added_row : {seed level width : ℕ} {item : Item} {old now next : List ℤ} {row : ℕ}
    → AddedTo seed level width item old now row → AddsToRow seed level width item now next row
    → AddedTo seed level width item old next (row + 1)
added_row {seed} {level} {width} {item} {old} {now} {next} {row} before adds =
    added_more seed level width item old now next row (item_place seed level row width item.key) before (record {
      place = refl;
      within = omega (arith, adds.within);
      fits = adds.fits;
      written = adds.written;
    })

-- after all rows the counters are the old ones and the item's
pub added_all : (seed level rows width : ℕ) (item : Item) (old now : List ℤ) → length old ≡ rows * width
    → AddedTo seed level width item old now rows → now ≡ plus old (counters_of seed level rows width (item ∷ []))
added_all seed level rows width item old now shape added =
    let added_counters = counters_of seed level rows width (item ∷ []) in
    let size = length-counters_of seed level rows width (item ∷ []) in
    let zipped = length-zip2 ◌+ℤ◌ old added_counters (omega arith) in
    ext_get_or (pos 0) now (plus old added_counters) (omega (arith, added.size, zipped)) (λ place below.
    let within : place < rows * width = omega (arith, added.size) in
    let here = get_or-counters_of seed level rows width (item ∷ []) place (pos 0) within in
    let one = counter-one seed level width (place / width) (place % width) item in
    let both = get_or-zip2 ◌+ℤ◌ old added_counters place (pos 0) (pos 0) (pos 0) (omega arith) (omega arith) in
    added.done place within ∙ sym (both ∙ ap (λ (x : ℤ). get_or old place (pos 0) +ℤ x) (here ∙ one)))

-- ---- two lists, place by place

-- the first places have f of both lists
pub record Joined (f : ℤ → ℤ → ℤ) (old others now : List ℤ) (n : ℕ) : Type 0 where
  pub size : length now ≡ length old
  pub done : (k : ℕ) → k < n → get_or now k (pos 0) ≡ f (get_or old k (pos 0)) (get_or others k (pos 0))
  pub rest : (k : ℕ) → n ≤ k → get_or now k (pos 0) ≡ get_or old k (pos 0)

pub joined_none : (f : ℤ → ℤ → ℤ) (old others : List ℤ) → Joined f old others old 0
joined_none f old others =
    record { size = refl; done = λ k below. absurd (omega (arith, below)); rest = λ k above. refl }

pub joined_more : (f : ℤ → ℤ → ℤ) (old others now : List ℤ) (n : ℕ) → n < length old → Joined f old others now n
    → Joined f old others (set now n (f (get_or now n (pos 0)) (get_or others n (pos 0)))) (n + 1)
joined_more f old others now n within before = record {
  size = length-set now n _ ∙ before.size;
  done = λ k below. elim (cases_eq k n) [
    | inl same ↦
        ap (λ (j : ℕ). get_or (set now n (f (get_or now n (pos 0)) (get_or others n (pos 0)))) j (pos 0)) same
        ∙ get_or-set_same now n _ (pos 0) (omega (arith, before.size))
        ∙ ap (λ (x : ℤ). f x (get_or others n (pos 0))) (before.rest n (omega arith))
        ∙ ap (λ (j : ℕ). f (get_or old j (pos 0)) (get_or others j (pos 0))) (sym same)
    | inr apart ↦ get_or-set_other now n k _ (pos 0) apart ∙ before.done k (omega arith)
  ];
  rest = λ k above. get_or-set_other now n k _ (pos 0) (λ same. absurd (omega arith)) ∙ before.rest k (omega arith);
}

pub joined_all : (f : ℤ → ℤ → ℤ) (old others now : List ℤ) → length old ≡ length others
    → Joined f old others now (length old) → now ≡ zip2 f old others
joined_all f old others now shape all =
    let zipped = length-zip2 f old others shape in
    ext_get_or (pos 0) now (zip2 f old others) (omega (arith, all.size, zipped)) (λ k below.
    all.done k (omega (arith, all.size))
    ∙ sym (get_or-zip2 f old others k (pos 0) (pos 0) (pos 0) (omega (arith, all.size)) (omega (arith, all.size))))
