-- Unions of lists of keys: key by key, their order, and their length.
use Rattle.std.proofs.Common.{◌≡◌, ℕ, zero, suc, ◌+◌, ◌≤◌, List, [], ◌∷◌, drop, length, refl, sym, subst, arith}
use Rattle.std.specs.declared.cmp.Ordering.TheVariants.{Less, Equal, Greater}
use Rattle.std.specs.Cmp.Lexicographic.{slice_cmp}
use Rattle.std.specs.List.Sorted.{IsStrictlySortedBy}
use Rattle.std.specs.Ordering.{nat_cmp}
use Rattle.std.proofs.lemmas.Cmp.{nat_list_cmp_total, tied_back}
use Rattle.std.proofs.lemmas.List.Elements.{All-from_recursion, recursion_from_All}
use Rattle.std.proofs.lemmas.Map.Keys.{sorted_head, sorted_tail}
use Rattle.std.proofs.lemmas.Map.Lookups.{exact_bytes}
use Rattle.std.proofs.lemmas.Map.Views.{All-insert_key}
use Rattle.sketch_merge.specs.Merged.{united}
use Rattle.flow_keys.proofs.KeyOrder.{by_order, greater_back, less_back}
use Rattle.flow_keys.proofs.KeySets.{with_key}
use Rattle.sketch_merge.proofs.Order.{IsBelow, below_first}

-- ---- key by key

pub united-none : (keys : List (List ℕ)) → united keys [] ≡ keys
unfolding united
united-none keys = refl

-- a first key that is below those of the other list stays the first
pub united-first : (x : List ℕ) (keys more : List (List ℕ)) → IsBelow x more
    → united (x ∷ keys) more ≡ x ∷ united keys more
unfolding united
united-first x keys [] below = refl
united-first x keys (y ∷ more) below = rw (greater_back x y below.0) (united-first x (with_key keys y) more below.1)

pub united-empty : (y : List ℕ) (more : List (List ℕ)) → IsStrictlySortedBy (slice_cmp nat_cmp) (y ∷ more)
    → united [] (y ∷ more) ≡ y ∷ united [] more
unfolding united
united-empty y more ascending = united-first y [] more (sorted_head (slice_cmp nat_cmp) y more ascending)

pub united-less : (x y : List ℕ) (keys more : List (List ℕ)) → slice_cmp nat_cmp x y ≡ Less
    → IsStrictlySortedBy (slice_cmp nat_cmp) (y ∷ more) → united (x ∷ keys) (y ∷ more) ≡ x ∷ united keys (y ∷ more)
united-less x y keys more less ascending = united-first x keys (y ∷ more) (below_first x y more less ascending)

pub united-equal : (x y : List ℕ) (keys more : List (List ℕ)) → slice_cmp nat_cmp x y ≡ Equal
    → IsStrictlySortedBy (slice_cmp nat_cmp) (y ∷ more) → united (x ∷ keys) (y ∷ more) ≡ x ∷ united keys more
unfolding united
united-equal x y keys more same ascending =
    let below : IsBelow x more =
    subst (λ (k : List ℕ). IsBelow k more) (sym (exact_bytes x y same))
    (sorted_head (slice_cmp nat_cmp) y more ascending) in
    rw (tied_back nat_list_cmp_total x y same) (united-first x keys more below)

pub united-greater : (x y : List ℕ) (keys more : List (List ℕ)) → slice_cmp nat_cmp x y ≡ Greater
    → IsStrictlySortedBy (slice_cmp nat_cmp) (y ∷ more) → united (x ∷ keys) (y ∷ more) ≡ y ∷ united (x ∷ keys) more
unfolding united
united-greater x y keys more greater ascending =
    rw (less_back x y greater) (united-first y (x ∷ keys) more (sorted_head (slice_cmp nat_cmp) y more ascending))

-- ---- order

ascending-with_key : (keys : List (List ℕ)) (key : List ℕ) → IsStrictlySortedBy (slice_cmp nat_cmp) keys
    → IsStrictlySortedBy (slice_cmp nat_cmp) (with_key keys key)
unfolding IsStrictlySortedBy
ascending-with_key [] key ascending = (tt, tt)
ascending-with_key (x ∷ keys) key ascending =
    let Above : List ℕ → List ℕ → Type 0 = λ low other. slice_cmp nat_cmp low other ≡ Less in
    by_order (slice_cmp nat_cmp key x)
    (λ less. rw less (below_first key x keys less ascending, ascending))
    (λ same. rw same ascending)
    (λ greater.
    let all = All-insert_key (slice_cmp nat_cmp) key (Above x) keys (All-from_recursion (Above x) keys ascending.0)
    (less_back key x greater) in
    rw greater (recursion_from_All (Above x) (with_key keys key) all, ascending-with_key keys key ascending.1))

pub ascending-united : (keys more : List (List ℕ)) → IsStrictlySortedBy (slice_cmp nat_cmp) keys
    → IsStrictlySortedBy (slice_cmp nat_cmp) (united keys more)
unfolding united
ascending-united keys [] ascending = ascending
ascending-united keys (key ∷ more) ascending =
    ascending-united (with_key keys key) more (ascending-with_key keys key ascending)

-- ---- length

length-with_key : (keys : List (List ℕ)) (key : List ℕ) → length (with_key keys key) ≤ length keys + 1
length-with_key [] key = omega arith
length-with_key (x ∷ keys) key = by_order (slice_cmp nat_cmp key x)
    (λ less. rw less (omega arith))
    (λ same. rw same (omega arith))
    (λ greater. rw greater (omega (arith, length-with_key keys key)))

pub length-united : (keys more : List (List ℕ)) → length (united keys more) ≤ length keys + length more
unfolding united
length-united keys [] = omega arith
length-united keys (key ∷ more) = omega (arith, length-united (with_key keys key) more, length-with_key keys key)

-- ---- what is left of a list

pub ascending-drop : (n : ℕ) (keys : List (List ℕ)) → IsStrictlySortedBy (slice_cmp nat_cmp) keys
    → IsStrictlySortedBy (slice_cmp nat_cmp) (drop n keys)
ascending-drop zero keys ascending = ascending
ascending-drop (suc n) [] ascending = ascending
ascending-drop (suc n) (key ∷ keys) ascending =
    ascending-drop n keys (sorted_tail (slice_cmp nat_cmp) key keys ascending)
