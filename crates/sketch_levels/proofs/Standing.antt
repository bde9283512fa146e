-- What items have in common with those that stand for them.
use Rattle.std.proofs.Common.{◌≡◌, ℕ, ◌*◌, ◌/◌, ◌%◌, ◌==◌, ◌&&◌, not, Bool, true, false, cond, inl, inr, List, [], ◌∷◌, length, map, fold, ℤ, pos, negsuc, ◌+ℤ◌, ◌-ℤ◌, ◌*ℤ◌, refl, sym, ◌∙◌, ap, arith}
use Rattle.std.specs.List.{range_with_len}
use Rattle.std.proofs.lemmas.Bool.{cases_Bool}
use Rattle.std.proofs.lemmas.Int.{ints}
use Rattle.hash_family.specs.Hash.{bucket, hash, is_live, sign, sign_function}
use Rattle.count_sketch.specs.Counters.{Item, counter, counters_of, int_sum_by, share}
use Rattle.sketch_levels.specs.Items.{distinct_keys, live_items, weight_of}
use Rattle.sketch_levels.specs.Stands.{StandFor, of_class, ones}
use Rattle.sketch_levels.proofs.Tallies.{all_of, weight-cons}

-- ---- sums

sum-from : (f : Item → ℤ) (a : ℤ) (xs : List Item) → fold (λ total x. total +ℤ f x) a xs ≡ a +ℤ int_sum_by f xs
sum-from f a [] = omega (arith, ints)
sum-from f a (x ∷ xs) =
    let onto = sum-from f (a +ℤ f x) xs in
    let alone = sum-from f (pos 0 +ℤ f x) xs in
    omega (arith, ints, onto, alone)

sum-cons : (f : Item → ℤ) (x : Item) (xs : List Item) → int_sum_by f (x ∷ xs) ≡ f x +ℤ int_sum_by f xs
sum-cons f x xs = let from = sum-from f (pos 0 +ℤ f x) xs in omega (arith, ints, from)

-- a sum over a class is one of choices
sum_of_class-cons : (class : List ℕ → Bool) (f : Item → ℤ) (x : Item) (xs : List Item)
    → int_sum_by f (of_class class (x ∷ xs)) ≡ cond (class x.key) (f x) (pos 0) +ℤ int_sum_by f (of_class class xs)
sum_of_class-cons class f x xs = elim (cases_Bool (class x.key)) [
  | inl hit ↦ rw hit (sum-cons f x (of_class class xs))
  | inr miss ↦ rw miss (omega (arith, ints))
]

sum-of_class : (class : List ℕ → Bool) (f : Item → ℤ) (xs : List Item)
    → int_sum_by f (of_class class xs) ≡ int_sum_by (λ x. cond (class x.key) (f x) (pos 0)) xs
sum-of_class class f [] = refl
sum-of_class class f (x ∷ xs) =
    let g : Item → ℤ = λ y. cond (class y.key) (f y) (pos 0) in
    sum_of_class-cons class f x xs ∙ ap (λ (n : ℤ). g x +ℤ n) (sum-of_class class f xs) ∙ sym (sum-cons g x xs)

-- a sum that adds the weights of one class and takes away those of another
sum-two : (f : Item → ℤ) (more less : List ℕ → Bool)
    → ((x : Item) → f x ≡ pos (cond {A = ℕ} (more x.key) x.weight 0) -ℤ pos (cond {A = ℕ} (less x.key) x.weight 0))
    → (xs : List Item)
    → int_sum_by f xs ≡ pos (weight_of (of_class more xs)) -ℤ pos (weight_of (of_class less xs))
sum-two f more less each [] = omega (arith, ints)
sum-two f more less each (x ∷ xs) = omega (
  arith,
  ints,
  sum-cons f x xs,
  each x,
  weight-cons more x xs,
  weight-cons less x xs,
  sum-two f more less each xs,
)

signed : (live here odd : Bool) (w : ℕ)
    → cond live (cond here (cond odd (pos 1) (negsuc 0) *ℤ pos w) (pos 0)) (pos 0)
    ≡ pos (cond {A = ℕ} (live && (here && odd)) w 0) -ℤ pos (cond {A = ℕ} (live && (here && not odd)) w 0)
signed true true true w = omega (arith, ints)
signed true true false w = omega (arith, ints)
signed true false odd w = omega (arith, ints)
signed false here odd w = omega (arith, ints)

-- ---- counters

module _ (seed level width row place : ℕ) where
  -- the keys of a level that count at a place with the sign 1, and with -1
  more : List ℕ → Bool
  more key = is_live seed level key
      && (bucket seed level row width key == place && hash seed (sign_function level row) key % 2 == 1)

  less : List ℕ → Bool
  less key = is_live seed level key
      && (bucket seed level row width key == place && not (hash seed (sign_function level row) key % 2 == 1))

  counter-two : (xs : List Item) → counter seed level width row place (live_items seed level xs)
      ≡ pos (weight_of (of_class more xs)) -ℤ pos (weight_of (of_class less xs))
  unfolding counter share sign live_items more less
  counter-two xs =
      sum-of_class (is_live seed level) (share seed level width row place) xs
      ∙ sum-two (λ x. cond (is_live seed level x.key) (share seed level width row place x) (pos 0)) more less
      (λ x. signed (is_live seed level x.key) (bucket seed level row width x.key == place)
      (hash seed (sign_function level row) x.key % 2 == 1) x.weight) xs

  counter-same : (entries items : List Item) → StandFor entries items
      → counter seed level width row place (live_items seed level entries)
      ≡ counter seed level width row place (live_items seed level items)
  counter-same entries items stand =
      counter-two entries
      ∙ (λ i. pos (stand.weight more i) -ℤ pos (stand.weight less i)) ∙ sym (counter-two items)

module _ (entries items : List Item) (stand : StandFor entries items) (seed level : ℕ) where
  pub counters-same : (rows width : ℕ) → counters_of seed level rows width (live_items seed level entries)
      ≡ counters_of seed level rows width (live_items seed level items)
  unfolding counters_of
  counters-same rows width = λ i. map
      (λ place. counter-same seed level width (place / width) (place % width) entries items stand i)
      (range_with_len 0 (rows * width))

  pub weight-same : weight_of (live_items seed level entries) ≡ weight_of (live_items seed level items)
  unfolding live_items
  weight-same = stand.weight (is_live seed level)

  pub keys-same : distinct_keys (live_items seed level entries) ≡ distinct_keys (live_items seed level items)
  unfolding live_items
  keys-same = stand.keys (is_live seed level)

-- ---- numbers

-- items of weight 1 weigh as much as there are
weight_of-ones : (class : List ℕ → Bool) (items : List Item)
    → weight_of (of_class class (ones items)) ≡ length (of_class class items)
weight_of-ones class [] = refl
weight_of-ones class (x ∷ items) =
    let first = weight-cons class (record { key = x.key; weight = 1 }) (ones items) in
    elim (cases_Bool (class x.key)) [
      | inl hit ↦ rw hit (omega (arith, rw hit at first, weight_of-ones class items))
      | inr miss ↦ rw miss (omega (arith, rw miss at first, weight_of-ones class items))
    ]

pub number-same : (entries items : List Item) (seed level : ℕ) → StandFor entries (ones items)
    → weight_of (live_items seed level entries) ≡ length (live_items seed level items)
unfolding live_items
number-same entries items seed level stand =
    stand.weight (is_live seed level) ∙ weight_of-ones (is_live seed level) items

-- ---- all items

pub weight_of-all : (entries items : List Item) → StandFor entries items → weight_of entries ≡ weight_of items
weight_of-all entries items stand =
    ap weight_of (sym (all_of entries)) ∙ stand.weight (λ key. true) ∙ ap weight_of (all_of items)

pub number_of-all : (entries items : List Item) → StandFor entries (ones items) → weight_of entries ≡ length items
number_of-all entries items stand =
    ap weight_of (sym (all_of entries)) ∙ stand.weight (λ key. true) ∙ weight_of-ones (λ key. true) items
    ∙ ap (λ (l : List Item). length l) (all_of items)

-- items stand for themselves
pub StandFor-own : (items : List Item) → StandFor items items
StandFor-own items = record { weight = λ class. refl; keys = λ class. refl }
