-- Distinct keys in ascending order, and one key more.
use Rattle.std.proofs.Common.{◌≡◌, ℕ, ℤ, ◌≤◌, List, [], ◌∷◌, ◌++◌, length, map, refl, sym, ◌∙◌, ap, arith}
use Rattle.std.specs.List.Sorted.{IsStrictlySortedBy}
use Rattle.std.specs.Cmp.Lexicographic.{slice_cmp}
use Rattle.std.specs.Ordering.{nat_cmp}
use Rattle.std.proofs.lemmas.Cmp.{nat_list_cmp_total, tied_back}
use Rattle.std.proofs.lemmas.List.{map-append}
use Rattle.std.proofs.lemmas.List.Sums.{fold-append}
use Rattle.std.proofs.lemmas.Map.Lookups.{exact_bytes}
use Rattle.count_sketch.specs.Counters.{Item}
use Rattle.topk_heap.specs.Ranking.{IsAscending, with_score}
use Rattle.topk_heap.specs.declared.entry.Entry.{Entry}
use Rattle.flow_keys.proofs.KeyOrder.{by_order, greater_back, less_back}
use Rattle.topk_heap.proofs.Scores.{above_equal, above_greater, with_equal, with_first, with_lesser}
use Rattle.sketch_levels.specs.Items.{distinct, distinct_keys, with_key}

-- a list that ends with one key more
pub distinct-push : (keys : List (List ℕ)) (key : List ℕ) → distinct (keys ++ key ∷ []) ≡ with_key (distinct keys) key
unfolding distinct
distinct-push keys key = fold-append with_key [] keys (key ∷ [])

pub distinct_keys-push : (items : List Item) (item : Item)
    → distinct_keys (items ++ item ∷ []) ≡ with_key (distinct_keys items) item.key
distinct_keys-push items item =
    let f : Item → List ℕ = λ x. x.key in
    ap distinct (map-append f items (item ∷ [])) ∙ distinct-push (map f items) item.key

-- no key is lost
pub length-with_key : (keys : List (List ℕ)) (key : List ℕ) → length keys ≤ length (with_key keys key)
length-with_key [] key = omega arith
length-with_key (x ∷ keys) key = by_order (slice_cmp nat_cmp key x)
    (λ less. rw less (omega arith))
    (λ same. rw same (omega arith))
    (λ greater. rw greater (omega (arith, length-with_key keys key)))

-- the keys of entries
abbrev pub keys_of : List Entry → List (List ℕ)
keys_of entries = map (λ e. e.key) entries

-- a score put in puts its key in
pub keys-with_score : (entries : List Entry) (key : List ℕ) (score : ℤ) → IsAscending entries
    → keys_of (with_score entries key score) ≡ with_key (keys_of entries) key
unfolding IsStrictlySortedBy with_score
keys-with_score [] key score ascending = refl
keys-with_score (e ∷ rest) key score ascending = by_order (slice_cmp nat_cmp e.key key)
    (λ less. rw (with_lesser e rest key score less, greater_back e.key key less)
    (ap (λ (keys : List (List ℕ)). e.key ∷ keys) (keys-with_score rest key score ascending.1)))
    (λ same.
    let first = with_equal e rest key score same
    ∙ with_first rest key score (above_equal e rest key same ascending.0) in
    rw (first, tied_back nat_list_cmp_total e.key key same)
    (ap (λ (k : List ℕ). k ∷ keys_of rest) (sym (exact_bytes e.key key same))))
    (λ greater.
    let above = above_greater e rest key greater ascending.0 in
    rw (with_first (e ∷ rest) key score above, less_back e.key key greater) refl)
