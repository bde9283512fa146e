-- Kept keys and the dropped mark, and one item more.
use Rattle.std.proofs.Common.{◌≡◌, ℕ, ℤ, ◌<◌, ◌≤◌, ◌||◌, Bool, true, false, inl, inr, List, [], ◌∷◌, ◌++◌, length, refl}
use Rattle.std.proofs.Common.{sym, ◌∙◌, ap, subst, arith}
use Rattle.std.specs.Prelude.{◌≢◌, nat_lt, reverse}
use Rattle.std.specs.List.Sorted.{IsStrictlySortedBy}
use Rattle.std.proofs.lemmas.Bool.{both_ways, cases_Bool, le-ltb, lt-ltb, ltb-false, ltb-true}
use Rattle.std.proofs.lemmas.Cmp.{nat_list_cmp_total, tied_itself}
use Rattle.std.proofs.lemmas.List.{append_assoc, length-map, reverse-append, reverse-reverse}
use Rattle.std.proofs.lemmas.List.Elements.{All-append, All-cons, All-filter, All-nil, All-push, filter_passes}
use Rattle.std.specs.List.{All, filter}
use Rattle.std.specs.Ordering.{is_lt}
use Rattle.count_sketch.specs.Counters.{Item}
use Rattle.topk_heap.specs.Ranking.{IsAscending, best, entry, is_below, with_score}
use Rattle.topk_heap.specs.declared.entry.Entry.{Entry}
use Rattle.topk_heap.proofs.Best.{IsAscending-best, best_of_few}
use Rattle.topk_heap.proofs.Scores.{IsAscending-with_score}
use Rattle.sketch_levels.specs.Items.{distinct, distinct_keys, with_key}
use Rattle.hash_family.specs.Setting.{Setting}
use Rattle.sketch_levels.specs.Kept.{HasLastScore, is_dropped, kept, kept_back, kept_keys, score}
use Rattle.sketch_levels.proofs.Distinct.{distinct_keys-push, keys-with_score, keys_of, length-with_key}

reverse-push : (items : List Item) (item : Item) → reverse (items ++ item ∷ []) ≡ item ∷ reverse items
reverse-push items item = reverse-append items (item ∷ [])

reverse-cons : (item : Item) (earlier : List Item) → reverse (item ∷ earlier) ≡ reverse earlier ++ item ∷ []
reverse-cons item earlier = reverse-append (item ∷ []) earlier

-- an item more
pub kept-push : (setting : Setting) (level : ℕ) (items : List Item) (item : Item)
    → kept setting level (items ++ item ∷ []) ≡ best setting.heap
    (with_score (kept setting level items) item.key (score setting level (items ++ item ∷ []) item.key))
unfolding kept kept_back
kept-push setting level items item =
    let back : reverse (item ∷ reverse items) ≡ items ++ item ∷ [] =
    ap reverse (sym (reverse-push items item)) ∙ reverse-reverse (items ++ item ∷ []) in
    ap (kept_back setting level) (reverse-push items item)
    ∙ ap (λ (xs : List Item). best setting.heap
    (with_score (kept_back setting level (reverse items)) item.key (score setting level xs item.key))) back

-- the kept keys ascend
ascending_back : (setting : Setting) (level : ℕ) (back : List Item) → IsAscending (kept_back setting level back)
unfolding kept_back IsStrictlySortedBy
ascending_back setting level [] = tt
ascending_back setting level (item ∷ earlier) =
    let s = score setting level (reverse (item ∷ earlier)) item.key in
    IsAscending-best setting.heap _
    (IsAscending-with_score (kept_back setting level earlier) item.key s (ascending_back setting level earlier))

-- one item more from the back
distinct_back : (item : Item) (earlier : List Item)
    → distinct_keys (reverse (item ∷ earlier)) ≡ with_key (distinct_keys (reverse earlier)) item.key
distinct_back item earlier = ap distinct_keys (reverse-cons item earlier) ∙ distinct_keys-push (reverse earlier) item

-- as many entries as keys, if all keys were kept so far
length-with_score_all : (entries : List Entry) (keys : List (List ℕ)) (key : List ℕ) (s : ℤ) → IsAscending entries
    → keys_of entries ≡ keys → length (with_score entries key s) ≡ length (with_key keys key)
length-with_score_all entries keys key s ascending all =
    let f : Entry → List ℕ = λ e. e.key in
    sym (length-map (with_score entries key s) f) ∙ ap length (keys-with_score entries key s ascending)
    ∙ ap (λ (ks : List (List ℕ)). length (with_key ks key)) all

-- while there are few keys, all of them are kept
all_kept_back : (setting : Setting) (level : ℕ) (back : List Item)
    → length (distinct_keys (reverse back)) ≤ setting.heap
    → keys_of (kept_back setting level back) ≡ distinct_keys (reverse back)
unfolding kept_back distinct
all_kept_back setting level [] few = refl
all_kept_back setting level (item ∷ earlier) few =
    let s = score setting level (reverse (item ∷ earlier)) item.key in
    let before = kept_back setting level earlier in
    let keys = distinct_keys (reverse earlier) in
    let now : length (with_key keys item.key) ≤ setting.heap =
    subst (λ (ks : List (List ℕ)). length ks ≤ setting.heap) (distinct_back item earlier) few in
    let then : length keys ≤ setting.heap = omega (arith, length-with_key keys item.key) in
    let all = all_kept_back setting level earlier then in
    let ascending = ascending_back setting level earlier in
    let fits : length (with_score before item.key s) ≤ setting.heap =
    omega (arith, length-with_score_all before keys item.key s ascending all) in
    ap keys_of (best_of_few setting.heap (with_score before item.key s) fits)
    ∙ keys-with_score before item.key s ascending
    ∙ ap (λ (ks : List (List ℕ)). with_key ks item.key) all
    ∙ sym (distinct_back item earlier)

pub all_kept : (setting : Setting) (level : ℕ) (items : List Item) → length (distinct_keys items) ≤ setting.heap
    → keys_of (kept setting level items) ≡ distinct_keys items
unfolding kept
all_kept setting level items few =
    let back = reverse-reverse items in
    let h : length (distinct_keys (reverse (reverse items))) ≤ setting.heap =
    subst (λ (xs : List Item). length (distinct_keys xs) ≤ setting.heap) (sym back) few in
    all_kept_back setting level (reverse items) h ∙ ap distinct_keys back

-- a key below another, or above it, isn't the other
below_apart : (key other : List ℕ) → is_below key other ≡ true → key ≢ other
below_apart key other below same =
    let itself : is_below other other ≡ false = ap is_lt (tied_itself nat_list_cmp_total other) in
    both_ways _ (ap (λ (k : List ℕ). is_below k other) same ∙ itself) below

-- an older entry's score is still that of its key's last item, where one of another key comes
HasLastScore-push : (setting : Setting) (level : ℕ) (items : List Item) (item : Item) (entry : Entry)
    → item.key ≢ entry.key → HasLastScore setting level items entry
    → HasLastScore setting level (items ++ item ∷ []) entry
HasLastScore-push setting level items item entry other held = record {
  before = held.before;
  last = held.last;
  after = held.after ++ item ∷ [];
  parts = ap (λ (xs : List Item). xs ++ item ∷ []) held.parts
      ∙ append_assoc held.before (held.last ∷ held.after) (item ∷ []);
  its_key = held.its_key;
  is_last = All-push (λ (later : Item). later.key ≢ entry.key) held.after item held.is_last other;
  its_score = held.its_score;
}

-- the newest item's key has the score that the item left
HasLastScore-last : (setting : Setting) (level : ℕ) (items : List Item) (item : Item)
    → HasLastScore setting level (items ++ item ∷ [])
    (entry item.key (score setting level (items ++ item ∷ []) item.key))
HasLastScore-last setting level items item = record {
  before = items;
  last = item;
  after = [];
  parts = refl;
  its_key = refl;
  is_last = All-nil (λ (later : Item). later.key ≢ item.key);
  its_score = refl;
}

-- what holds of the new entry and of each old one of another key holds of all entries with the new one
All-with_score : (P : Entry → Type 0) (entries : List Entry) (key : List ℕ) (s : ℤ) → P (entry key s)
    → All (λ (e : Entry). key ≢ e.key → P e) entries → All P (with_score entries key s)
unfolding with_score
All-with_score P entries key s new old =
    let below : Entry → Bool = λ e. is_below e.key key in
    let above : Entry → Bool = λ e. is_below key e.key in
    let front : All P (filter below entries) = λ k d within.
    All-filter below (λ (e : Entry). key ≢ e.key → P e) entries old k d within
    (λ same. below_apart _ _ (filter_passes below entries k d within) (sym same)) in
    let back : All P (filter above entries) = λ k d within.
    All-filter above (λ (e : Entry). key ≢ e.key → P e) entries old k d within
    (below_apart _ _ (filter_passes above entries k d within)) in
    All-append P (filter below entries) (entry key s ∷ filter above entries) front
    (All-cons P (entry key s) (filter above entries) new back)

scores_back : (setting : Setting) (level : ℕ) (back : List Item)
    → All (HasLastScore setting level (reverse back)) (kept_back setting level back)
unfolding kept_back best
scores_back setting level [] = All-nil (HasLastScore setting level [])
scores_back setting level (item ∷ earlier) =
    let s = score setting level (reverse (item ∷ earlier)) item.key in
    let older = scores_back setting level earlier in
    let push = reverse-cons item earlier in
    let Last : List Item → Entry → Type 0 = HasLastScore setting level in
    let new : Last (reverse (item ∷ earlier)) (entry item.key s) =
    rw push (HasLastScore-last setting level (reverse earlier) item) in
    let old : All (λ (e : Entry). item.key ≢ e.key → Last (reverse (item ∷ earlier)) e)
    (kept_back setting level earlier) = λ k d within other.
    rw push (HasLastScore-push setting level (reverse earlier) item _ other (older k d within)) in
    All-filter _ (Last (reverse (item ∷ earlier))) (with_score (kept_back setting level earlier) item.key s)
    (All-with_score (Last (reverse (item ∷ earlier))) (kept_back setting level earlier) item.key s new old)

-- each kept key has the score that its last item left
pub scores : (setting : Setting) (level : ℕ) (items : List Item)
    → All (HasLastScore setting level items) (kept setting level items)
unfolding kept
scores setting level items =
    subst (λ (xs : List Item). All (HasLastScore setting level xs) (kept_back setting level (reverse items)))
    (reverse-reverse items)
    (scores_back setting level (reverse items))

-- where the heap dropped no key, all keys are kept
pub none_dropped : (setting : Setting) (level : ℕ) (items : List Item) → is_dropped setting items ≡ false
    → kept_keys setting level items ≡ distinct_keys items
unfolding is_dropped kept_keys
none_dropped setting level items none = all_kept setting level items (ltb-false _ _ none)

pub ascending : (setting : Setting) (level : ℕ) (items : List Item) → IsAscending (kept setting level items)
unfolding kept
ascending setting level items = ascending_back setting level (reverse items)

-- the heap drops a key for the first time exactly where there are more keys than it holds
pub is_dropped-push : (setting : Setting) (level : ℕ) (items : List Item) (item : Item) (s : ℤ)
    → is_dropped setting (items ++ item ∷ []) ≡
    (is_dropped setting items || nat_lt setting.heap (length (with_score (kept setting level items) item.key s)))
unfolding is_dropped
is_dropped-push setting level items item s =
    let keys = distinct_keys items in
    let more = ap (λ (ks : List (List ℕ)). nat_lt setting.heap (length ks)) (distinct_keys-push items item) in
    elim (cases_Bool (nat_lt setting.heap (length keys))) [
      | inl many ↦
          let above : setting.heap < length (with_key keys item.key) =
          omega (arith, ltb-true _ _ many, length-with_key keys item.key) in
          more ∙ rw many (lt-ltb _ _ above)
      | inr few ↦
          let all = all_kept setting level items (ltb-false _ _ few) in
          more ∙ rw few (ap (nat_lt setting.heap)
          (sym (length-with_score_all (kept setting level items) keys item.key s (ascending setting level items) all)))
    ]

-- no items
pub kept-none : (setting : Setting) (level : ℕ) → kept setting level [] ≡ []
unfolding kept kept_back
kept-none setting level = refl

pub is_dropped-none : (setting : Setting) → is_dropped setting [] ≡ false
unfolding is_dropped distinct
is_dropped-none setting = le-ltb setting.heap 0 (omega arith)
