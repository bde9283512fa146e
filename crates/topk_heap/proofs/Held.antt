-- Whether a key is held, and how many are, once a score is put in.
use Rattle.std.proofs.Common.{◌≡◌, ℕ, ℤ, ◌+◌, ◌||◌, Bool, true, false, cond, List, [], ◌∷◌, length, refl, sym, ◌∙◌}
use Rattle.std.proofs.Common.{arith}
use Rattle.std.specs.List.{filter, list_any}
use Rattle.std.specs.List.Sorted.{IsStrictlySortedBy}
use Rattle.std.specs.Cmp.Lexicographic.{slice_cmp}
use Rattle.std.specs.declared.cmp.Ordering.{Ordering}
use Rattle.std.specs.declared.cmp.Ordering.TheVariants.{Less, Equal, Greater}
use Rattle.std.specs.Ordering.{is_eq, nat_cmp}
use Rattle.std.proofs.lemmas.Cmp.{nat_list_cmp_total, tied_back}
use Rattle.std.proofs.lemmas.List.Folds.{list_any-append}
use Rattle.topk_heap.specs.Ranking.{IsAscending, entry, holds, is_below, with_score}
use Rattle.topk_heap.specs.declared.entry.Entry.{Entry}
use Rattle.flow_keys.proofs.KeyOrder.{greater_back, less_back}
use Rattle.topk_heap.proofs.Scores.{AllAbove, above_equal, above_greater, with_equal, with_first, with_lesser}

-- a list of greater keys doesn't hold the key
none_above : (entries : List Entry) (key : List ℕ) → AllAbove key entries → holds entries key ≡ false
unfolding holds
none_above [] key above = refl
none_above (e ∷ rest) key above = rw (greater_back key e.key above.0) (none_above rest key above.1)

holds-cons : (e : Entry) (rest : List Entry) (key : List ℕ)
    → holds (e ∷ rest) key ≡ (is_eq (slice_cmp nat_cmp e.key key) || holds rest key)
unfolding holds
holds-cons e rest key = refl

-- one case for each answer of an order
by_order : {G : Type 0} (o : Ordering) → (o ≡ Less → G) → (o ≡ Equal → G) → (o ≡ Greater → G) → G
by_order Less f g h = f refl
by_order Equal f g h = g refl
by_order Greater f g h = h refl

-- one key more, where it wasn't held
pub length-with_score : (entries : List Entry) (key : List ℕ) (score : ℤ) → IsAscending entries
    → length (with_score entries key score) ≡ length entries + cond (holds entries key) 0 1
unfolding IsStrictlySortedBy holds with_score
length-with_score [] key score ascending = refl
length-with_score (e ∷ rest) key score ascending = by_order (slice_cmp nat_cmp e.key key)
    (λ less. rw (with_lesser e rest key score less, holds-cons e rest key, less)
    (omega (arith, length-with_score rest key score ascending.1)))
    (λ same. rw (
      with_equal e rest key score same,
      with_first rest key score
          (above_equal e rest key same ascending.0),
      holds-cons e rest key,
      same,
    ) (omega arith))
    (λ greater.
    let above = above_greater e rest key greater ascending.0 in
    rw (with_first (e ∷ rest) key score above, none_above (e ∷ rest) key above) (omega arith))

moved_left : (b f k g a : Bool) → (f || (k || g)) ≡ (k || a) → ((b || f) || (k || g)) ≡ (k || (b || a))
moved_left true f true g a same = refl
moved_left true f false g a same = refl
moved_left false f k g a same = same

moved_right : (b f k g a : Bool) → (f || (k || g)) ≡ (k || a) → (f || (k || (b || g))) ≡ (k || (b || a))
moved_right true true true g a same = refl
moved_right true true false g a same = refl
moved_right true false true g a same = refl
moved_right true false false g a same = refl
moved_right false f k g a same = same

twice : (k a : Bool) → (k || (k || a)) ≡ (k || a)
twice true a = refl
twice false a = refl

holds_apart : (entries : List Entry) (key y : List ℕ)
    → (list_any (λ (e : Entry). is_eq (slice_cmp nat_cmp e.key y))
    (filter (λ (e : Entry). is_below e.key key) entries) ||
    (is_eq (slice_cmp nat_cmp key y) || list_any (λ (e : Entry). is_eq (slice_cmp nat_cmp e.key y))
    (filter (λ (e : Entry). is_below key e.key) entries))) ≡
    (is_eq (slice_cmp nat_cmp key y) || list_any (λ (e : Entry). is_eq (slice_cmp nat_cmp e.key y)) entries)
holds_apart [] key y = refl
holds_apart (e ∷ rest) key y = by_order (slice_cmp nat_cmp e.key key)
    (λ less. rw (less, greater_back e.key key less)
    (moved_left (is_eq (slice_cmp nat_cmp e.key y)) _ _ _ _ (holds_apart rest key y)))
    (λ same. rw (same, tied_back nat_list_cmp_total e.key key same, nat_list_cmp_total.congr e.key key y same)
    (holds_apart rest key y
    ∙ sym (twice (is_eq (slice_cmp nat_cmp key y)) (list_any (λ (d : Entry). is_eq (slice_cmp nat_cmp d.key y)) rest))))
    (λ greater. rw (greater, less_back e.key key greater)
    (moved_right (is_eq (slice_cmp nat_cmp e.key y)) _ _ _ _ (holds_apart rest key y)))

-- the key is held then, and each key that was held before
pub holds-with_score : (entries : List Entry) (key : List ℕ) (score : ℤ) (y : List ℕ)
    → holds (with_score entries key score) y ≡ (is_eq (slice_cmp nat_cmp key y) || holds entries y)
unfolding holds with_score
holds-with_score entries key score y =
    list_any-append (λ (e : Entry). is_eq (slice_cmp nat_cmp e.key y))
    (filter (λ (e : Entry). is_below e.key key) entries)
    (entry key score ∷ filter (λ (e : Entry). is_below key e.key) entries) ∙ holds_apart entries key y
