-- Shares of items, counters as their sums, and bounds on both.
use Rattle.std.proofs.Common.{◌≡◌, ℕ, ◌+◌, ◌*◌, ◌/◌, ◌%◌, ◌≤◌, ◌<◌, Bool, true, false, cond, eqb, List, [], ◌∷◌, ◌++◌}
use Rattle.std.proofs.Common.{length, get_or, map, replicate, fold, ℤ, pos, negsuc, ◌+ℤ◌, ◌-ℤ◌, ◌*ℤ◌, unsigned_abs}
use Rattle.std.proofs.Common.{FitsSigned, w64, ◌^◌, refl, sym, ◌∙◌, ap, subst, zero-add, arith}
use Rattle.std.specs.List.{sum_by, range_with_len}
use Rattle.std.specs.Simd.Lanes.{zip2}
use Rattle.std.proofs.lemmas.Bool.{cond-true, cond-false, cond_both, eq-eqb, ne_eqb}
use Rattle.std.proofs.lemmas.Int.{ints, unsigned_abs-mul, fits_signed_from_abs}
use Rattle.std.proofs.lemmas.List.{ext_get_or, get_or-replicate, length-replicate}
use Rattle.std.proofs.lemmas.List.Elements.{All-from_get_or, All-get_or, All-map, All-weaker}
use Rattle.std.proofs.lemmas.List.FromFn.{get_or-map-range_with_len, length-map-range_with_len}
use Rattle.std.proofs.lemmas.List.Sums.{fold-append, sum_by-cons}
use Rattle.std.proofs.lemmas.Simd.{get_or-zip2, length-zip2, zip2-map}
use Rattle.hash_family.specs.Hash.{bucket, sign, hash, sign_function}
use Rattle.count_sketch.specs.Counters.{Item, share, int_sum_by, counter, counters_of, plus, minus, AllUpTo}

-- ---- signs

unsigned_abs-choice : (b : Bool) → unsigned_abs (cond b (pos 1) (negsuc 0)) ≡ 1
unsigned_abs-choice true = refl
unsigned_abs-choice false = refl

pub unsigned_abs-sign : (seed level row : ℕ) (key : List ℕ) → unsigned_abs (sign seed level row key) ≡ 1
unfolding sign
unsigned_abs-sign seed level row key = unsigned_abs-choice (eqb (hash seed (sign_function level row) key % 2) 1)

-- a number keeps its size under a sign
pub unsigned_abs-signed : (seed level row : ℕ) (key : List ℕ) (x : ℤ)
    → unsigned_abs (sign seed level row key *ℤ x) ≡ unsigned_abs x
unsigned_abs-signed seed level row key x =
    let s = unsigned_abs-sign seed level row key in
    unsigned_abs-mul (sign seed level row key) x ∙ ap (λ (n : ℕ). n * unsigned_abs x) s ∙ omega arith

-- under a sign of 1 or -1 a number above the least i64 stays one
pub signed_fits : (s x : ℤ) → unsigned_abs s ≡ 1 → unsigned_abs x < 2 ^ 63 → FitsSigned w64 (s *ℤ x)
signed_fits s x unit small =
    fits_signed_from_abs w64 (s *ℤ x) (omega (arith, unsigned_abs-mul s x ∙ ap (λ (n : ℕ). n * unsigned_abs x) unit))

-- ---- shares

pub share-hit : (seed level width row place : ℕ) (item : Item) → bucket seed level row width item.key ≡ place
    → share seed level width row place item ≡ sign seed level row item.key *ℤ pos item.weight
unfolding share
share-hit seed level width row place item same = cond-true _ _ _ (eq-eqb _ _ same)

pub share-miss : (seed level width row place : ℕ) (item : Item) → (bucket seed level row width item.key ≡ place → ⊥)
    → share seed level width row place item ≡ pos 0
unfolding share
share-miss seed level width row place item other = cond-false _ _ _ (ne_eqb _ _ other)

pub share-upto : (seed level width row place : ℕ) (item : Item)
    → unsigned_abs (share seed level width row place item) ≤ item.weight
unfolding share
share-upto seed level width row place item =
    cond_both (eqb (bucket seed level row width item.key) place) (sign seed level row item.key *ℤ pos item.weight)
    (pos 0) (λ (x : ℤ). unsigned_abs x ≤ item.weight)
    (λ _. omega (arith, unsigned_abs-signed seed level row item.key (pos item.weight))) (λ _. omega arith)

-- ---- sums

int_sum_by-from : {X : Type 0} (f : X → ℤ) (a : ℤ) (xs : List X)
    → fold (λ total x. total +ℤ f x) a xs ≡ a +ℤ int_sum_by f xs
int_sum_by-from f a [] = omega (arith, ints)
int_sum_by-from f a (x ∷ xs) =
    let onto = int_sum_by-from f (a +ℤ f x) xs in
    let alone = int_sum_by-from f (pos 0 +ℤ f x) xs in
    omega (arith, ints, onto, alone)

int_sum_by-append : {X : Type 0} (f : X → ℤ) (xs ys : List X)
    → int_sum_by f (xs ++ ys) ≡ int_sum_by f xs +ℤ int_sum_by f ys
int_sum_by-append f xs ys =
    fold-append (λ total x. total +ℤ f x) (pos 0) xs ys ∙ int_sum_by-from f (int_sum_by f xs) ys

int_sum_by-one : {X : Type 0} (f : X → ℤ) (x : X) → int_sum_by f (x ∷ []) ≡ f x
int_sum_by-one f x = omega (arith, ints)

int_sum_by-upto : {X : Type 0} (f : X → ℤ) (g : X → ℕ) → ((x : X) → unsigned_abs (f x) ≤ g x) → (xs : List X)
    → unsigned_abs (int_sum_by f xs) ≤ sum_by g xs
int_sum_by-upto f g each [] = omega arith
int_sum_by-upto f g each (x ∷ xs) =
    let rest = int_sum_by-upto f g each xs in
    let sum = int_sum_by-from f (pos 0 +ℤ f x) xs in
    omega (arith, ints, rest, sum, each x, sum_by-cons g x xs)

-- ---- counters

pub length-counters_of : (seed level rows width : ℕ) (items : List Item)
    → length (counters_of seed level rows width items) ≡ rows * width
unfolding counters_of
length-counters_of seed level rows width items =
    length-map-range_with_len (λ place. counter seed level width (place / width) (place % width) items) 0 (rows * width)

pub get_or-counters_of : (seed level rows width : ℕ) (items : List Item) (place : ℕ) (d : ℤ) → place < rows * width
    → get_or (counters_of seed level rows width items) place d ≡ counter seed level width (place / width)
    (place % width) items
unfolding counters_of
get_or-counters_of seed level rows width items place d below =
    get_or-map-range_with_len (λ place. counter seed level width (place / width) (place % width) items) 0
    (rows * width) place place d below (omega arith)

counter-append : (seed level width row place : ℕ) (xs ys : List Item)
    → counter seed level width row place xs +ℤ counter seed level width row place ys
    ≡ counter seed level width row place (xs ++ ys)
unfolding counter
counter-append seed level width row place xs ys = sym (int_sum_by-append (share seed level width row place) xs ys)

pub counter-one : (seed level width row place : ℕ) (item : Item)
    → counter seed level width row place (item ∷ []) ≡ share seed level width row place item
unfolding counter
counter-one seed level width row place item = int_sum_by-one (share seed level width row place) item

-- the counters of two lists in a row are the sums of their counters
pub counters_of-append : (seed level rows width : ℕ) (xs ys : List Item)
    → plus (counters_of seed level rows width xs) (counters_of seed level rows width ys)
    ≡ counters_of seed level rows width (xs ++ ys)
unfolding counters_of
counters_of-append seed level rows width xs ys =
    let places = range_with_len 0 (rows * width) in
    zip2-map ◌+ℤ◌ (λ place. counter seed level width (place / width) (place % width) xs)
    (λ place. counter seed level width (place / width) (place % width) ys) places
    ∙ λ i. map (λ place. counter-append seed level width (place / width) (place % width) xs ys i) places

counter-none : (seed level width row place : ℕ) → counter seed level width row place [] ≡ pos 0
unfolding counter
counter-none seed level width row place = refl

pub counters_of-none : (seed level rows width : ℕ)
    → replicate (rows * width) (pos 0) ≡ counters_of seed level rows width []
counters_of-none seed level rows width =
    ext_get_or (pos 0) _ _ (length-replicate (rows * width) (pos 0) ∙ sym (length-counters_of seed level rows width []))
    (λ place below.
    let within : place < rows * width = omega (arith, length-replicate (rows * width) (pos 0)) in
    get_or-replicate (rows * width) place (pos 0) (pos 0) within
    ∙ sym (get_or-counters_of seed level rows width [] place (pos 0) within
    ∙ counter-none seed level width (place / width) (place % width)))

-- ---- bounds

-- a counter's absolute value is at most the weight of the list
pub counters_of-upto : (seed level rows width : ℕ) (items : List Item)
    → AllUpTo (sum_by (λ item. item.weight) items) (counters_of seed level rows width items)
unfolding counters_of counter
counters_of-upto seed level rows width items =
    let places = range_with_len 0 (rows * width) in
    record {
      each = All-map (λ (x : ℤ). unsigned_abs x ≤ sum_by (λ item. item.weight) items)
          (λ place. counter seed level width (place / width) (place % width) items) places
          (λ k d below. int_sum_by-upto (share seed level width (get_or places k d / width) (get_or places k d % width))
          (λ item. item.weight) (share-upto seed level width _ _) items);
    }

-- place by place, numbers up to m and up to n make numbers up to m + n, by f
zip2-upto : (f : ℤ → ℤ → ℤ) → ((x y : ℤ) → unsigned_abs (f x y) ≤ unsigned_abs x + unsigned_abs y)
    → (m n : ℕ) (xs ys : List ℤ) → length xs ≡ length ys → AllUpTo m xs → AllUpTo n ys → AllUpTo (m + n) (zip2 f xs ys)
zip2-upto f each m n xs ys same all_xs all_ys = record {
  each = All-from_get_or (λ (x : ℤ). unsigned_abs x ≤ m + n) (zip2 f xs ys) (pos 0) (λ k below.
      let size = length-zip2 f xs ys same in
      let at = get_or-zip2 f xs ys k (pos 0) (pos 0) (pos 0) (omega arith) (omega arith) in
      let x = All-get_or (λ (x : ℤ). unsigned_abs x ≤ m) xs k (pos 0) (omega arith) all_xs.each in
      let y = All-get_or (λ (x : ℤ). unsigned_abs x ≤ n) ys k (pos 0) (omega arith) all_ys.each in
      omega (arith, ap unsigned_abs at, each (get_or xs k (pos 0)) (get_or ys k (pos 0)), x, y));
}

unsigned_abs-sum : (x y : ℤ) → unsigned_abs (x +ℤ y) ≤ unsigned_abs x + unsigned_abs y
unsigned_abs-sum x y = omega (arith, ints)

unsigned_abs-difference : (x y : ℤ) → unsigned_abs (x -ℤ y) ≤ unsigned_abs x + unsigned_abs y
unsigned_abs-difference x y = omega (arith, ints)

pub plus-upto : (m n : ℕ) (xs ys : List ℤ) → length xs ≡ length ys → AllUpTo m xs → AllUpTo n ys
    → AllUpTo (m + n) (plus xs ys)
plus-upto = zip2-upto ◌+ℤ◌ unsigned_abs-sum

pub minus-upto : (m n : ℕ) (xs ys : List ℤ) → length xs ≡ length ys → AllUpTo m xs → AllUpTo n ys
    → AllUpTo (m + n) (minus xs ys)
minus-upto = zip2-upto ◌-ℤ◌ unsigned_abs-difference

pub AllUpTo-more : (m n : ℕ) (xs : List ℤ) → m ≤ n → AllUpTo m xs → AllUpTo n xs
AllUpTo-more m n xs more all = record {
  each = All-weaker (λ (x : ℤ). unsigned_abs x ≤ m) (λ (x : ℤ). unsigned_abs x ≤ n)
      (λ x within. omega arith) xs all.each;
}

-- the counters of one item are at most its weight
pub counters_of_one-upto : (seed level rows width : ℕ) (item : Item)
    → AllUpTo item.weight (counters_of seed level rows width (item ∷ []))
counters_of_one-upto seed level rows width item =
    subst (λ (n : ℕ). AllUpTo n (counters_of seed level rows width (item ∷ []))) (zero-add item.weight)
    (counters_of-upto seed level rows width (item ∷ []))
