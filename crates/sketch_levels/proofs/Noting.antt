-- Noted keys, and one key more.
use Rattle.std.proofs.Common.{◌≡◌, ℕ, ◌+◌, ◌≤◌, ◌<◌, Bool, true, false, inl, inr, List, [], ◌∷◌, ◌++◌, map, refl, sym, ◌∙◌}
use Rattle.std.proofs.Common.{ap, arith}
use Rattle.std.specs.Prelude.{Option, Some, None, nat_le, unwrap_or}
use Rattle.std.specs.List.{AllByRecursion, filter}
use Rattle.std.specs.List.Sorted.{IsStrictlySortedBy}
use Rattle.std.specs.BTreeMap.{insert_entry, is_at}
use Rattle.std.specs.Map.{keys_of, lookup}
use Rattle.std.specs.Cmp.Lexicographic.{slice_cmp}
use Rattle.std.specs.declared.cmp.Ordering.{Ordering}
use Rattle.std.specs.declared.cmp.Ordering.TheVariants.{Less, Equal, Greater}
use Rattle.std.specs.Ordering.{nat_cmp}
use Rattle.std.proofs.lemmas.Bool.{cases_Bool, cases_lt, both_ways, le-leb, lt-leb}
use Rattle.std.proofs.lemmas.Cmp.{nat_list_cmp_total}
use Rattle.std.proofs.lemmas.List.{append-nil, map-append}
use Rattle.std.proofs.lemmas.List.Elements.{filter-append}
use Rattle.std.proofs.lemmas.Map.Lookups.{exact_bytes}
use Rattle.hash_family.specs.Hash.{is_live}
use Rattle.count_sketch.specs.Counters.{Item}
use Rattle.topk_heap.proofs.Lists.{all_weaker}
use Rattle.spot_table.specs.Live.{IsLiveAt}
use Rattle.sketch_levels.specs.Items.{distinct, distinct_keys, live_items, with_key}
use Rattle.sketch_levels.specs.Noted.{HoldsNotes, Note, Noted, TakesKey, keys_at, live_keys, notes_of}
use Rattle.flow_keys.proofs.KeyOrder.{by_order}
use Rattle.sketch_levels.proofs.Distinct.{distinct-push}
use Rattle.sketch_levels.proofs.Live.{live_at_0}

abbrev Entries : Type 0
Entries = List (List ℕ × ℕ)

-- the order of keys
abbrev pub cmp : List ℕ → List ℕ → Ordering
cmp = slice_cmp nat_cmp

-- the keys of a list whose first entry is live at the level, and isn't
keys_at-live : (level : ℕ) (e : List ℕ × ℕ) (rest : Entries) → nat_le level e.1 ≡ true
    → keys_at level (e ∷ rest) ≡ e.0 ∷ keys_at level rest
unfolding keys_at
keys_at-live level e rest h = rw h refl

keys_at-dead : (level : ℕ) (e : List ℕ × ℕ) (rest : Entries) → nat_le level e.1 ≡ false
    → keys_at level (e ∷ rest) ≡ keys_at level rest
unfolding keys_at
keys_at-dead level e rest h = rw h refl

keys_at-none : (level : ℕ) → keys_at level [] ≡ []
unfolding keys_at
keys_at-none level = refl

-- what holds of all keys
all_at : (P : List ℕ → Type 0) (level : ℕ) (entries : Entries) → AllByRecursion P (keys_of entries)
    → AllByRecursion P (keys_at level entries)
unfolding keys_at
all_at P level [] all = tt
all_at P level (e ∷ rest) all = elim (cases_Bool (nat_le level e.1)) [
  | inl live ↦ rw live (all.0, all_at P level rest all.1)
  | inr dead ↦ rw dead (all_at P level rest all.1)
]

-- a key put before greater ones
with_key-first : (keys : List (List ℕ)) (key : List ℕ) → AllByRecursion (λ y. cmp key y ≡ Less) keys
    → with_key keys key ≡ key ∷ keys
with_key-first [] key above = refl
with_key-first (x ∷ keys) key above = rw above.0 refl

-- no entry of a key below all others
lookup-above : (entries : Entries) (key : List ℕ) → AllByRecursion (λ y. cmp key y ≡ Less) (keys_of entries)
    → lookup (is_at (cmp key)) entries ≡ None
lookup-above [] key above = refl
lookup-above (e ∷ rest) key above = rw above.0 (lookup-above rest key above.1)

pub all_less : (key other : List ℕ) (keys : List (List ℕ)) → cmp key other ≡ Less
    → AllByRecursion (λ y. cmp other y ≡ Less) keys → AllByRecursion (λ y. cmp key y ≡ Less) keys
all_less key other keys less above =
    all_weaker _ _ (λ (y : List ℕ) h. nat_list_cmp_total.trans key other y less h) keys above

all_equal : (key other : List ℕ) (keys : List (List ℕ)) → cmp key other ≡ Equal
    → AllByRecursion (λ y. cmp other y ≡ Less) keys → AllByRecursion (λ y. cmp key y ≡ Less) keys
all_equal key other keys same above =
    all_weaker _ _ (λ (y : List ℕ) h. nat_list_cmp_total.congr key other y same ∙ h) keys above

-- a key put in where it is, and behind a lesser one
with_key-equal : (x : List ℕ) (keys : List (List ℕ)) (key : List ℕ) → cmp key x ≡ Equal
    → with_key (x ∷ keys) key ≡ x ∷ keys
with_key-equal x keys key same = rw same refl

with_key-greater : (x : List ℕ) (keys : List (List ℕ)) (key : List ℕ) → cmp key x ≡ Greater
    → with_key (x ∷ keys) key ≡ x ∷ with_key keys key
with_key-greater x keys key greater = rw greater refl

-- a level above the one that is noted keeps its keys
pub insert-below : (level v : ℕ) (entries : Entries) (key : List ℕ) → nat_le level v ≡ false
    → ((n : ℕ) → lookup (is_at (cmp key)) entries ≡ Some n → nat_le level n ≡ false)
    → keys_at level (insert_entry cmp entries key v) ≡ keys_at level entries
insert-below level v [] key low few = keys_at-dead level (key, v) [] low
insert-below level v (e ∷ rest) key low few = by_order (cmp key e.0)
    (λ less. rw less (keys_at-dead level (key, v) (e ∷ rest) low))
    (λ same. rw same (keys_at-dead level (e.0, v) rest low ∙ sym (keys_at-dead level e rest (few e.1 (rw same refl)))))
    (λ greater. rw greater (elim (cases_Bool (nat_le level e.1)) [
      | inl live ↦ keys_at-live level e _ live
          ∙ ap (λ (keys : List (List ℕ)). e.0 ∷ keys)
          (insert-below level v rest key low (λ n found. few n (rw greater found)))
          ∙ sym (keys_at-live level e rest live)
      | inr dead ↦ keys_at-dead level e _ dead ∙ insert-below level v rest key low (λ n found. few n (rw greater found))
          ∙ sym (keys_at-dead level e rest dead)
    ]))

-- the key joins the keys of a level up to the one that is noted
pub insert-at : (level v : ℕ) (entries : Entries) (key : List ℕ) → nat_le level v ≡ true
    → IsStrictlySortedBy cmp (keys_of entries)
    → keys_at level (insert_entry cmp entries key v) ≡ with_key (keys_at level entries) key
unfolding IsStrictlySortedBy keys_at
insert-at level v [] key high sorted = keys_at-live level (key, v) [] high
insert-at level v (e ∷ rest) key high sorted =
    let put : List (List ℕ) → List (List ℕ) = λ keys. with_key keys key in
    by_order (cmp key e.0)
    (λ less.
    let above = all_at (λ y. cmp key y ≡ Less) level (e ∷ rest) (less, all_less key e.0 (keys_of rest) less sorted.0) in
    rw less (keys_at-live level (key, v) (e ∷ rest) high ∙ sym (with_key-first (keys_at level (e ∷ rest)) key above)))
    (λ same. rw same (keys_at-live level (e.0, v) rest high ∙ sym (elim (cases_Bool (nat_le level e.1)) [
      | inl live ↦ ap put (keys_at-live level e rest live) ∙ with_key-equal e.0 (keys_at level rest) key same
      | inr dead ↦ ap put (keys_at-dead level e rest dead)
          ∙ with_key-first (keys_at level rest) key
          (all_at (λ y. cmp key y ≡ Less) level rest (all_equal key e.0 (keys_of rest) same sorted.0))
          ∙ ap (λ (k : List ℕ). k ∷ keys_at level rest) (exact_bytes key e.0 same)
    ])))
    (λ greater. rw greater (elim (cases_Bool (nat_le level e.1)) [
      | inl live ↦ keys_at-live level e _ live
          ∙ ap (λ (keys : List (List ℕ)). e.0 ∷ keys) (insert-at level v rest key high sorted.1)
          ∙ sym (ap put (keys_at-live level e rest live) ∙ with_key-greater e.0 (keys_at level rest) key greater)
      | inr dead ↦ keys_at-dead level e _ dead ∙ insert-at level v rest key high sorted.1
          ∙ sym (ap put (keys_at-dead level e rest dead))
    ]))

-- a key that is noted so far up is there already
pub noted-at : (level n : ℕ) (entries : Entries) (key : List ℕ) → nat_le level n ≡ true
    → lookup (is_at (cmp key)) entries ≡ Some n → IsStrictlySortedBy cmp (keys_of entries)
    → with_key (keys_at level entries) key ≡ keys_at level entries
unfolding IsStrictlySortedBy
noted-at level n [] key high found sorted = cc
noted-at level n (e ∷ rest) key high found sorted =
    let put : List (List ℕ) → List (List ℕ) = λ keys. with_key keys key in
    by_order (cmp key e.0)
    (λ less. let none = lookup-above (e ∷ rest) key (less, all_less key e.0 (keys_of rest) less sorted.0) in cc)
    (λ same.
    let first : Some e.1 ≡ Some n = rw same at found in
    let value : e.1 ≡ n = cc in
    let live : nat_le level e.1 ≡ true = rw value high in
    ap put (keys_at-live level e rest live) ∙ with_key-equal e.0 (keys_at level rest) key same
    ∙ sym (keys_at-live level e rest live))
    (λ greater.
    let later = noted-at level n rest key high (rw greater at found) sorted.1 in
    elim (cases_Bool (nat_le level e.1)) [
      | inl live ↦ ap put (keys_at-live level e rest live)
          ∙ with_key-greater e.0 (keys_at level rest) key greater
          ∙ ap (λ (keys : List (List ℕ)). e.0 ∷ keys) later
          ∙ sym (keys_at-live level e rest live)
      | inr dead ↦ ap put (keys_at-dead level e rest dead) ∙ later ∙ sym (keys_at-dead level e rest dead)
    ])

-- a level up to the highest where a key is live, and one above
up_to : {seed top : ℕ} {key : List ℕ} {highest : ℕ} → IsLiveAt seed top key (highest + 1) → (level : ℕ) → level ≤ top
    → is_live seed level key ≡ true → level ≤ highest
up_to {seed} {top} {key} {highest} is level within live = elim (cases_lt highest level) [
  | inl above ↦ absurd (both_ways _ (is.dead level (omega (arith, above)) within) live)
  | inr below ↦ below
]

above_it : {seed top : ℕ} {key : List ℕ} {highest : ℕ} → IsLiveAt seed top key (highest + 1) → (level : ℕ)
    → is_live seed level key ≡ false → highest < level
above_it {seed} {top} {key} {highest} is level dead = elim (cases_lt highest level) [
  | inl above ↦ above
  | inr below ↦ absurd (both_ways _ dead (is.live level (omega (arith, below))))
]

-- the highest of so many levels where a key is live, of which 0 is one
pub live_up_to : (seed top : ℕ) (key : List ℕ) (number highest : ℕ)
    → (number ≡ 0 → highest ≡ 0) → (0 < number → highest < number) → highest ≤ top
    → (highest < top → number ≤ highest + 1)
    → IsLiveAt seed top key number → IsLiveAt seed top key (highest + 1)
live_up_to seed top key number highest none some within below is = record {
  live = λ level under. elim (cases_lt level number) [
    | inl inside ↦ is.live level inside
    | inr past ↦ elim (cases_lt 0 number) [
      | inl one ↦ absurd (omega (arith, some one, past, under))
      | inr zero ↦ live_at_0 seed level key (omega (arith, none (omega (arith, zero)), under))
    ]
  ];
  dead = λ level above high. is.dead level (omega (arith, below (omega (arith, above, high)), above)) high;
}

-- a key that was noted as far up
pub takes_noted : (seed top : ℕ) (key : List ℕ) (highest n : ℕ) (entries : Entries) → IsLiveAt seed top key (highest + 1)
    → IsStrictlySortedBy cmp (keys_of entries) → lookup (is_at (cmp key)) entries ≡ Some n → highest ≤ n
    → TakesKey seed top key entries entries
takes_noted seed top key highest n entries is sorted found far = record {
  live = λ level within live. sym
      (noted-at level n entries key (le-leb level n (omega (arith, up_to is level within live))) found sorted);
  dead = λ level within dead. refl;
}

-- a key that wasn't noted further up
pub takes_inserted : (seed top : ℕ) (key : List ℕ) (highest : ℕ) (entries : Entries) → IsLiveAt seed top key (highest + 1)
    → IsStrictlySortedBy cmp (keys_of entries) → ((n : ℕ) → lookup (is_at (cmp key)) entries ≡ Some n → n ≤ highest)
    → TakesKey seed top key entries (insert_entry cmp entries key highest)
takes_inserted seed top key highest entries is sorted less = record {
  live = λ level within live. insert-at level highest entries key
      (le-leb level highest (up_to is level within live)) sorted;
  dead = λ level within dead.
      let above = above_it is level dead in
      insert-below level highest entries key (lt-leb level highest above)
      (λ n found. lt-leb level n (omega (arith, less n found, above)));
}

-- a key that is given another level, and then its own again
pub insert-back : (level noted : ℕ) (entries : Entries) (key : List ℕ) → IsStrictlySortedBy cmp (keys_of entries)
    → lookup (is_at (cmp key)) entries ≡ Some noted
    → insert_entry cmp (insert_entry cmp entries key level) key noted ≡ entries
unfolding IsStrictlySortedBy
insert-back level noted [] key sorted found = cc
insert-back level noted (e ∷ rest) key sorted found = by_order (cmp key e.0)
    (λ less. let none = lookup-above (e ∷ rest) key (less, all_less key e.0 (keys_of rest) less sorted.0) in cc)
    (λ same.
    let first : Some e.1 ≡ Some noted = rw same at found in
    let value : e.1 ≡ noted = cc in
    rw same (rw same (ap (λ (m : ℕ). (e.0, m) ∷ rest) (sym value))))
    (λ greater. rw greater (rw greater (ap (λ (xs : Entries). e ∷ xs)
    (insert-back level noted rest key sorted.1 (rw greater at found)))))

-- what was noted before, where it is above the level that stands for none
pub is_some_above : (before : Option ℕ) (level : ℕ) → level < unwrap_or before level
    → before ≡ Some (unwrap_or before level)
is_some_above None level above = absurd (omega (arith, above))
is_some_above (Some n) level above = refl

pub none_above : (before : Option ℕ) (level n : ℕ) → unwrap_or before level ≤ level → before ≡ Some n → n ≤ level
none_above None level n few is = cc
none_above (Some m) level n few is = let same : m ≡ n = cc in rw (sym same) few

-- one note more
live_keys-live : (level : ℕ) (notes : List Note) (note : Note) → is_live note.seed level note.key ≡ true
    → live_keys level (notes ++ note ∷ []) ≡ with_key (live_keys level notes) note.key
unfolding live_keys
live_keys-live level notes note live =
    let p : Note → Bool = λ x. is_live x.seed level x.key in
    let f : Note → List ℕ = λ x. x.key in
    ap (λ (xs : List Note). distinct (map f xs)) (filter-append p notes (note ∷ []) ∙ rw live refl)
    ∙ ap distinct (map-append f (filter p notes) (note ∷ []))
    ∙ distinct-push (map f (filter p notes)) note.key

live_keys-dead : (level : ℕ) (notes : List Note) (note : Note) → is_live note.seed level note.key ≡ false
    → live_keys level (notes ++ note ∷ []) ≡ live_keys level notes
unfolding live_keys
live_keys-dead level notes note dead =
    let p : Note → Bool = λ x. is_live x.seed level x.key in
    ap (λ (xs : List Note). distinct (map (λ x. x.key) xs))
    (filter-append p notes (note ∷ []) ∙ rw dead (append-nil (filter p notes)))

pub HoldsNotes-taken : (seed : ℕ) (key : List ℕ) (old new : Noted) (notes : List Note) → new.top ≡ old.top
    → TakesKey seed old.top key old.entries new.entries → HoldsNotes old notes
    → HoldsNotes new (notes ++ record { seed = seed; key = key } ∷ [])
HoldsNotes-taken seed key old new notes top takes holds = record {
  each = λ level within.
      let inside : level ≤ old.top = omega (arith, top) in
      elim (cases_Bool (is_live seed level key)) [
        | inl live ↦ takes.live level inside live
            ∙ ap (λ (keys : List (List ℕ)). with_key keys key) (holds.each level inside)
            ∙ sym (live_keys-live level notes (record { seed = seed; key = key }) live)
        | inr dead ↦ takes.dead level inside dead ∙ holds.each level inside
            ∙ sym (live_keys-dead level notes (record { seed = seed; key = key }) dead)
      ];
}

pub HoldsNotes-none : (top : ℕ) (entries : Entries) → entries ≡ []
    → HoldsNotes (record { top = top; entries = entries }) []
unfolding keys_at live_keys distinct
HoldsNotes-none top entries none = record { each = λ level within. rw none refl }

-- the keys of items that are noted with one family
pub notes_of-none : (seed : ℕ) → notes_of seed [] ≡ []
unfolding notes_of
notes_of-none seed = refl

pub notes_of-push : (seed : ℕ) (items : List Item) (item : Item)
    → notes_of seed (items ++ item ∷ []) ≡ notes_of seed items ++ record { seed = seed; key = item.key } ∷ []
unfolding notes_of
notes_of-push seed items item =
    let f : Item → Note = λ x. record { seed = seed; key = x.key } in
    map-append f items (item ∷ [])

keys_of_notes : (seed level : ℕ) (items : List Item)
    → map (λ (n : Note). n.key) (filter (λ (n : Note). is_live n.seed level n.key) (notes_of seed items)) ≡ map
    (λ (x : Item). x.key) (live_items seed level items)
unfolding notes_of live_items
keys_of_notes seed level [] = refl
keys_of_notes seed level (item ∷ items) = elim (cases_Bool (is_live seed level item.key)) [
  | inl live ↦ rw live (ap (λ (keys : List (List ℕ)). item.key ∷ keys) (keys_of_notes seed level items))
  | inr dead ↦ rw dead (keys_of_notes seed level items)
]

pub live_keys-notes_of : (seed level : ℕ) (items : List Item)
    → live_keys level (notes_of seed items) ≡ distinct_keys (live_items seed level items)
unfolding live_keys
live_keys-notes_of seed level items = ap distinct (keys_of_notes seed level items)

-- the keys of a level ascend
pub IsStrictlySortedBy-keys_at : (level : ℕ) (entries : Entries) → IsStrictlySortedBy cmp (keys_of entries)
    → IsStrictlySortedBy cmp (keys_at level entries)
unfolding IsStrictlySortedBy
IsStrictlySortedBy-keys_at level [] sorted = rw (keys_at-none level) tt
IsStrictlySortedBy-keys_at level (e ∷ rest) sorted = elim (cases_Bool (nat_le level e.1)) [
  | inl live ↦ rw (keys_at-live level e rest live)
      (all_at (λ y. cmp e.0 y ≡ Less) level rest sorted.0, IsStrictlySortedBy-keys_at level rest sorted.1)
  | inr dead ↦ rw (keys_at-dead level e rest dead) (IsStrictlySortedBy-keys_at level rest sorted.1)
]
