-- Entries in which an item more is counted, as items that stand for others.
use Rattle.std.proofs.Common.{rules, ◌≤◌, ◌≡◌, ℕ, ◌+◌, ◌||◌, Bool, true, false, cond, zero-add, inl, inr, List, [], ◌∷◌, ◌++◌, map, fold, Option, Some, None, refl, sym, ◌∙◌, ap, arith}
use Rattle.std.specs.List.{AllByRecursion, list_any}
use Rattle.std.specs.List.Sorted.{IsStrictlySortedBy}
use Rattle.std.specs.Map.{lookup, set_value}
use Rattle.std.specs.Option.{option_map_or}
use Rattle.std.specs.declared.cmp.Ordering.TheVariants.{Less}
use Rattle.std.proofs.lemmas.Bool.{cases_Bool}
use Rattle.std.proofs.lemmas.List.{map-append}
use Rattle.std.proofs.lemmas.List.Elements.{filter-append, All-from_recursion, recursion_from_All}
use Rattle.std.proofs.lemmas.List.Sums.{sum_by-append, sum_by-cons}
use Rattle.std.proofs.lemmas.Map.Views.{All-insert_key}
use Rattle.indexmap.specs.IndexMap.{insert_entry}
use Rattle.flow_keys.proofs.KeyOrder.{by_order, less_back}
use Rattle.flow_keys.proofs.KeySets.{any-fold, same}
use Rattle.count_sketch.specs.Counters.{Item}
use Rattle.sketch_levels.specs.Items.{distinct, distinct_keys, weight_of, with_key}
use Rattle.sketch_levels.specs.Stands.{IsTally, StandFor, of_class, ones, packets_of, weights_of}
use Rattle.sketch_levels.specs.Totals.{AddsItem, tallied}
use Rattle.sketch_levels.specs.declared.tally.Total.{Total}
use Rattle.sketch_levels.proofs.Distinct.{distinct-push}
use Rattle.sketch_levels.proofs.Members.{own_key}
use Rattle.sketch_levels.proofs.Noting.{all_less, cmp}

-- ---- weights of classes

-- the keys of items
abbrev keys : List Item → List (List ℕ)
keys items = map (λ item. item.key) items

split : (b : Bool) (m n : ℕ) → cond {A = ℕ} b (m + n) 0 ≡ cond {A = ℕ} b m 0 + cond {A = ℕ} b n 0
split true m n = refl
split false m n = refl

pub weight-cons : (class : List ℕ → Bool) (x : Item) (items : List Item)
    → weight_of (of_class class (x ∷ items)) ≡ cond {A = ℕ} (class x.key) x.weight 0 + weight_of (of_class class items)
weight-cons class x items = elim (cases_Bool (class x.key)) [
  | inl hit ↦ rw hit (sum_by-cons (λ (item : Item). item.weight) x (of_class class items))
  | inr miss ↦ rw miss (omega arith)
]

weight-push : (class : List ℕ → Bool) (items : List Item) (x : Item)
    → weight_of (of_class class (items ++ x ∷ [])) ≡ weight_of (of_class class items)
    + cond {A = ℕ} (class x.key) x.weight 0
weight-push class items x =
    let f : Item → ℕ = λ item. item.weight in
    let test : Item → Bool = λ item. class item.key in
    ap weight_of (filter-append test items (x ∷ []))
    ∙ sum_by-append f (of_class class items) (of_class class (x ∷ []))
    ∙ omega (arith, weight-cons class x [])

-- all items are those of the class of all keys
pub all_of : (items : List Item) → of_class (λ key. true) items ≡ items
all_of [] = refl
all_of (x ∷ items) = ap (λ (l : List Item). x ∷ l) (all_of items)

-- ---- an entry put in

abbrev Entries : Type 0
Entries = List (List ℕ × Total)

-- each key with a number of its total, as an item
abbrev items_by : (Total → ℕ) → Entries → List Item
items_by f entries = map (λ entry. record { key = entry.0; weight = f entry.1 }) entries

-- the number that a total of the key gives, and 0 where there is none
abbrev number_at : (Total → ℕ) → (List ℕ → Bool) → Entries → ℕ
number_at f test entries = option_map_or f (lookup test entries) 0

-- no entry's number is greater than all together
pub number_at-le : (f : Total → ℕ) (test : List ℕ → Bool) (entries : Entries) (v : Total)
    → lookup test entries ≡ Some v → f v ≤ weight_of (items_by f entries)
number_at-le f test [] v is = cc
number_at-le f test (e ∷ entries) v is =
    let item : Item = record { key = e.0; weight = f e.1 } in
    let sum = sum_by-cons (λ (x : Item). x.weight) item (items_by f entries) in
    elim (cases_Bool (test e.0)) [
      | inl found ↦
          let here : f e.1 ≡ f v = ap (λ (o : Option Total). option_map_or f o 0) (rw found at is) in
          omega (arith, here, sum)
      | inr other ↦ omega (arith, number_at-le f test entries v (rw other at is), sum)
    ]

-- a value written where its key is there
set_value-there : (eq : List ℕ → List ℕ → Bool) (key : List ℕ) (v w : Total) (entries : Entries)
    → lookup (eq key) entries ≡ Some v → set_value (eq key) entries w ≡ insert_entry eq entries key w
set_value-there eq key v w [] is = cc
set_value-there eq key v w (e ∷ entries) is = elim (cases_Bool (eq key e.0)) [
  | inl found ↦ rw found refl
  | inr other ↦ rw other (ap (λ (l : Entries). e ∷ l) (set_value-there eq key v w entries (rw other at is)))
]

module _ (eq : List ℕ → List ℕ → Bool) (exact : (x y : List ℕ) → eq x y ≡ true → x ≡ y) (key : List ℕ) where
  -- a class weighs more by what the key's total grew by
  weight-put : (f : Total → ℕ) (weight : ℕ) (class : List ℕ → Bool) (v : Total) (entries : Entries)
      → f v ≡ number_at f (eq key) entries + weight
      → weight_of (of_class class (items_by f (insert_entry eq entries key v)))
      ≡ weight_of (of_class class (items_by f entries)) + cond {A = ℕ} (class key) weight 0
  weight-put f weight class v [] is =
      weight-cons class (record { key = key; weight = f v }) []
      ∙ omega (arith, ap (λ (n : ℕ). cond {A = ℕ} (class key) n 0) (is ∙ zero-add weight))
  weight-put f weight class v (e ∷ entries) is = elim (cases_Bool (eq key e.0)) [
    | inl found ↦
        let own : class e.0 ≡ class key = ap class (sym (exact key e.0 found)) in
        let grown : f v ≡ f e.1 + weight = rw found at is in
        let before = weight-cons class (record { key = e.0; weight = f e.1 }) (items_by f entries) in
        let after = weight-cons class (record { key = e.0; weight = f v }) (items_by f entries) in
        let more = ap (λ (n : ℕ). cond {A = ℕ} (class e.0) n 0) grown in
        let parts = split (class e.0) (f e.1) weight in
        let here = ap (λ (b : Bool). cond {A = ℕ} b weight 0) own in
        rw found (omega (arith, before, after, more, parts, here))
    | inr other ↦
        let before = weight-cons class (record { key = e.0; weight = f e.1 }) (items_by f entries) in
        let after = weight-cons class (record { key = e.0; weight = f e.1 })
        (items_by f (insert_entry eq entries key v)) in
        rw other (omega (arith, before, after, weight-put f weight class v entries (rw other at is)))
  ]

  -- a key put behind others, unless it is there
  join : List (List ℕ) → List (List ℕ)
  join [] = key ∷ []
  join (x ∷ xs) = cond (eq key x) (x ∷ xs) (x ∷ join xs)

  keys-put : (f : Total → ℕ) (class : List ℕ → Bool) (v : Total) (entries : Entries)
      → keys (of_class class (items_by f (insert_entry eq entries key v)))
      ≡ cond (class key) (join (keys (of_class class (items_by f entries))))
      (keys (of_class class (items_by f entries)))
  unfolding join
  keys-put f class v [] = elim (cases_Bool (class key)) [
    | inl hit ↦ rw hit refl
    | inr miss ↦ rw miss refl
  ]
  keys-put f class v (e ∷ entries) = elim (cases_Bool (eq key e.0)) [
    | inl found ↦
        let is : class e.0 ≡ class key = ap class (sym (exact key e.0 found)) in
        rw found (elim (cases_Bool (class key)) [
          | inl hit ↦ let own : class e.0 ≡ true = is ∙ hit in rw (hit, own, found) refl
          | inr miss ↦ let own : class e.0 ≡ false = is ∙ miss in rw (miss, own) refl
        ])
    | inr other ↦
        let rest = keys-put f class v entries in
        rw other (elim (cases_Bool (class key)) [
          | inl hit ↦ elim (cases_Bool (class e.0)) [
            | inl own ↦ rw (hit, own, other) (ap (λ (l : List (List ℕ)). e.0 ∷ l) (rest ∙ rw hit refl))
            | inr own ↦ rw (hit, own) (rest ∙ rw hit refl)
          ]
          | inr miss ↦ elim (cases_Bool (class e.0)) [
            | inl own ↦ rw (miss, own) (ap (λ (l : List (List ℕ)). e.0 ∷ l) (rest ∙ rw miss refl))
            | inr own ↦ rw (miss, own) (rest ∙ rw miss refl)
          ]
        ])
  ]

-- ---- distinct keys

ascending-with_key : (ks : List (List ℕ)) (key : List ℕ) → IsStrictlySortedBy cmp ks
    → IsStrictlySortedBy cmp (with_key ks key)
unfolding IsStrictlySortedBy
ascending-with_key [] key ascending = (tt, tt)
ascending-with_key (x ∷ ks) key ascending =
    let Above : List ℕ → Type 0 = λ other. cmp x other ≡ Less in
    by_order (cmp key x)
    (λ less. rw less ((less, all_less key x ks less ascending.0), ascending))
    (λ same. rw same ascending)
    (λ greater.
    let all = All-insert_key cmp key Above ks (All-from_recursion Above ks ascending.0) (less_back key x greater) in
    rw greater (recursion_from_All Above (with_key ks key) all, ascending-with_key ks key ascending.1))

ascending-fold : (front ks : List (List ℕ)) → IsStrictlySortedBy cmp front
    → IsStrictlySortedBy cmp (fold with_key front ks)
ascending-fold front [] ascending = ascending
ascending-fold front (key ∷ ks) ascending = ascending-fold (with_key front key) ks
    (ascending-with_key front key ascending)

-- no key is among greater ones
none_above : (key : List ℕ) (ks : List (List ℕ)) → AllByRecursion (λ z. cmp key z ≡ Less) ks
    → list_any (same key) ks ≡ false
none_above key [] below = refl
none_above key (x ∷ ks) below = rw below.0 (none_above key ks below.1)

-- a key that is there
with_key-there : (ks : List (List ℕ)) (key : List ℕ) → IsStrictlySortedBy cmp ks → list_any (same key) ks ≡ true
    → with_key ks key ≡ ks
unfolding IsStrictlySortedBy
with_key-there [] key ascending there = cc
with_key-there (x ∷ ks) key ascending there = by_order (cmp key x)
    (λ less.
    let none = none_above key (x ∷ ks) (less, all_less key x ks less ascending.0) in
    cc)
    (λ equal. rw equal refl)
    (λ greater. rw greater (ap (λ (l : List (List ℕ)). x ∷ l)
    (with_key-there ks key ascending.1 (rw greater at there))))

or_middle : (a b c : Bool) → b ≡ true → (a || (b || c)) ≡ true
or_middle true b c h = refl
or_middle false b c h = rw h refl

module _ (eq : List ℕ → List ℕ → Bool) (exact : (x y : List ℕ) → eq x y ≡ true → x ≡ y) (key : List ℕ) where
  -- a key that is there changes no set of keys
  fold-join : (front ks : List (List ℕ)) → IsStrictlySortedBy cmp front
      → fold with_key front (join eq exact key ks) ≡ with_key (fold with_key front ks) key
  unfolding join
  fold-join front [] ascending = refl
  fold-join front (x ∷ ks) ascending = elim (cases_Bool (eq key x)) [
    | inl found ↦
        let is : x ≡ key = sym (exact key x found) in
        let own : same key x ≡ true = ap (same key) is ∙ own_key key in
        let there : list_any (same key) (fold with_key (with_key front x) ks) ≡ true =
        any-fold key front (x ∷ ks) ∙ or_middle (list_any (same key) front) (same key x) (list_any (same key) ks) own in
        rw found (sym (with_key-there (fold with_key (with_key front x) ks) key
        (ascending-fold (with_key front x) ks (ascending-with_key front x ascending)) there))
    | inr other ↦ rw other (fold-join (with_key front x) ks (ascending-with_key front x ascending))
  ]

  distinct-join : (ks : List (List ℕ)) → distinct (join eq exact key ks) ≡ with_key (distinct ks) key
  unfolding distinct IsStrictlySortedBy
  distinct-join ks = fold-join [] ks tt

keys-push : (class : List ℕ → Bool) (items : List Item) (x : Item)
    → distinct_keys (of_class class (items ++ x ∷ []))
    ≡ cond (class x.key) (with_key (distinct_keys (of_class class items)) x.key) (distinct_keys (of_class class items))
keys-push class items x =
    let f : Item → List ℕ = λ item. item.key in
    let test : Item → Bool = λ item. class item.key in
    ap distinct_keys (filter-append test items (x ∷ []))
    ∙ ap distinct (map-append f (of_class class items) (of_class class (x ∷ [])))
    ∙ elim (cases_Bool (class x.key)) [
      | inl hit ↦ rw hit (distinct-push (keys (of_class class items)) x.key)
      | inr miss ↦ rw miss (ap distinct nothing)
    ]
  where
    nothing : keys (of_class class items) ++ [] ≡ keys (of_class class items)
    nothing = search rules

-- ---- one item more

module _ (eq : List ℕ → List ℕ → Bool) (exact : (x y : List ℕ) → eq x y ≡ true → x ≡ y) (f : Total → ℕ) (key : List ℕ)
    (weight : ℕ) (v : Total) (old : Entries) (is : f v ≡ number_at f (eq key) old + weight) where
  -- entries stand for items with one more
  StandFor-put : (items : List Item) → StandFor (items_by f old) items
      → StandFor (items_by f (insert_entry eq old key v)) (items ++ record { key = key; weight = weight } ∷ [])
  StandFor-put items stand =
      let item : Item = record { key = key; weight = weight } in record {
        weight = λ class. omega (
          arith,
          weight-put eq exact key f weight class v old is,
          stand.weight class,
          weight-push class items item,
        );
        keys = λ class.
            let before = keys (of_class class (items_by f old)) in
            let now = distinct_keys (of_class class items) in
            ap distinct (keys-put eq exact key f class v old)
            ∙ elim (cases_Bool (class key)) [
              | inl hit ↦
                  ap (λ (b : Bool). distinct (cond b (join eq exact key before) before)) hit
                  ∙ distinct-join eq exact key before
                  ∙ ap (λ (ks : List (List ℕ)). with_key ks key) (stand.keys class)
                  ∙ sym (ap (λ (b : Bool). cond b (with_key now key) now) hit)
                  ∙ sym (keys-push class items item)
              | inr miss ↦
                  ap (λ (b : Bool). distinct (cond b (join eq exact key before) before)) miss
                  ∙ stand.keys class
                  ∙ sym (ap (λ (b : Bool). cond b (with_key now key) now) miss)
                  ∙ sym (keys-push class items item)
            ];
      }

  -- all entries together weigh more by the item
  weight_of-put : weight_of (items_by f (insert_entry eq old key v)) ≡ weight_of (items_by f old) + weight
  weight_of-put =
      ap weight_of (sym (all_of (items_by f (insert_entry eq old key v))))
      ∙ weight-put eq exact key f weight (λ k. true) v old is
      ∙ ap (λ (l : List Item). weight_of l + weight) (all_of (items_by f old))

-- ---- what clauses see

weights-tallied : (entries : Entries) → weights_of (tallied entries) ≡ items_by (λ total. total.weight) entries
weights-tallied [] = refl
weights-tallied (e ∷ entries) =
    ap (λ (l : List Item). record { key = e.0; weight = e.1.weight } ∷ l) (weights-tallied entries)

packets-tallied : (entries : Entries) → packets_of (tallied entries) ≡ items_by (λ total. total.packets) entries
packets-tallied [] = refl
packets-tallied (e ∷ entries) =
    ap (λ (l : List Item). record { key = e.0; weight = e.1.packets } ∷ l) (packets-tallied entries)

-- an item is counted by a total that has one more packet, and so much more weight
pub AddsItem-put : (eq : List ℕ → List ℕ → Bool) → ((x y : List ℕ) → eq x y ≡ true → x ≡ y)
    → (key : List ℕ) (weight : ℕ) (v : Total) (old new : Entries) → new ≡ insert_entry eq old key v
    → v.packets ≡ number_at (λ total. total.packets) (eq key) old + 1
    → v.weight ≡ number_at (λ total. total.weight) (eq key) old + weight
    → AddsItem key weight old new
AddsItem-put eq exact key weight v old new is packets weighs =
    let first : Total → ℕ = λ total. total.packets in
    let second : Total → ℕ = λ total. total.weight in
    let item : Item = record { key = key; weight = weight } in
    let one : Item → Item = λ x. record { key = x.key; weight = 1 } in
    rw is (record {
      items = λ items tally. record {
        weights = rw (weights-tallied (insert_entry eq old key v))
            (StandFor-put eq exact second key weight v old weighs items (rw (weights-tallied old) at tally.weights));
        packets = rw (packets-tallied (insert_entry eq old key v), map-append one items (item ∷ []))
            (StandFor-put eq exact first key 1 v old packets (ones items) (rw (packets-tallied old) at tally.packets));
      };
      packets = rw (packets-tallied (insert_entry eq old key v), packets-tallied old)
          (weight_of-put eq exact first key 1 v old packets);
      weighs = rw (weights-tallied (insert_entry eq old key v), weights-tallied old)
          (weight_of-put eq exact second key weight v old weighs);
    })

-- a total that is there, written with one packet more and so much more weight
pub AddsItem-written : (eq : List ℕ → List ℕ → Bool) → ((x y : List ℕ) → eq x y ≡ true → x ≡ y)
    → (key : List ℕ) (weight : ℕ) (v w : Total) (old new : Entries) → lookup (eq key) old ≡ Some v
    → new ≡ set_value (eq key) old w → w.packets ≡ v.packets + 1 → w.weight ≡ v.weight + weight
    → AddsItem key weight old new
AddsItem-written eq exact key weight v w old new there is packets weighs =
    AddsItem-put eq exact key weight w old new (is ∙ set_value-there eq key v w old there)
    (packets ∙ ap (λ (o : Option Total). option_map_or (λ total. total.packets) o 0 + 1) (sym there))
    (weighs ∙ ap (λ (o : Option Total). option_map_or (λ total. total.weight) o 0 + weight) (sym there))

-- a new key
pub AddsItem-new : (eq : List ℕ → List ℕ → Bool) → ((x y : List ℕ) → eq x y ≡ true → x ≡ y)
    → (key : List ℕ) (weight : ℕ) (v : Total) (old new : Entries) → lookup (eq key) old ≡ None
    → new ≡ insert_entry eq old key v → v.packets ≡ 1 → v.weight ≡ weight → AddsItem key weight old new
AddsItem-new eq exact key weight v old new none is packets weighs =
    AddsItem-put eq exact key weight v old new is
    (packets ∙ ap (λ (o : Option Total). option_map_or (λ total. total.packets) o 0 + 1) (sym none))
    (weighs ∙ sym (zero-add weight)
    ∙ ap (λ (o : Option Total). option_map_or (λ total. total.weight) o 0 + weight) (sym none))

-- no key has more packets, or more weight, than all together
pub packets-le : (test : List ℕ → Bool) (entries : Entries) (v : Total) → lookup test entries ≡ Some v
    → v.packets ≤ weight_of (packets_of (tallied entries))
packets-le test entries v is =
    rw (packets-tallied entries) (number_at-le (λ total. total.packets) test entries v is)

pub weight-le : (test : List ℕ → Bool) (entries : Entries) (v : Total) → lookup test entries ≡ Some v
    → v.weight ≤ weight_of (weights_of (tallied entries))
weight-le test entries v is = rw (weights-tallied entries) (number_at-le (λ total. total.weight) test entries v is)

-- nothing counts nothing
pub IsTally-none : IsTally [] []
IsTally-none = record {
  weights = record { weight = λ class. refl; keys = λ class. refl };
  packets = record { weight = λ class. refl; keys = λ class. refl };
}
