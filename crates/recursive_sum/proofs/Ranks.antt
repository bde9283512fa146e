-- The order of the selected pairs, and lists in that order.
use Rattle.std.proofs.Common.{◌≡◌, ℕ, zero, suc, ◌+◌, Bool, false, List, [], ◌∷◌, ◌++◌, get_or, fold, map, ℤ}
use Rattle.std.proofs.Common.{unsigned_abs, is_lt, refl, sym, ◌∙◌, ap, subst, add-one, arith, inl, inr, ◌⊎◌, append-nil}
use Rattle.std.specs.BTreeSet.{insert_key}
use Rattle.std.specs.Cmp.{IsTotalOrder}
use Rattle.std.specs.Cmp.Lexicographic.{slice_cmp}
use Rattle.std.specs.declared.cmp.Ordering.{Ordering}
use Rattle.std.specs.declared.cmp.Ordering.TheVariants.{Less, Equal, Greater}
use Rattle.std.specs.List.{AllByRecursion, Contains, IsDistinct}
use Rattle.std.specs.List.Sorted.{IsPermutation, IsSortedBy, IsStrictlySortedBy}
use Rattle.std.specs.Map.{keys_of}
use Rattle.std.specs.Ordering.{eq_by_cmp, is_eq, nat_cmp, ordering_reverse, ordering_then}
use Rattle.std.proofs.lemmas.Cmp.{nat_cmp_total, nat_list_cmp_total, on_total, then_total, back_total, tied_itself}
use Rattle.std.proofs.lemmas.Cmp.{eq_by_cmp_equiv}
use Rattle.std.proofs.lemmas.Bool.{true≢false}
use Rattle.std.proofs.lemmas.List.Elements.{All-from_recursion, recursion_from_All, All-contains}
use Rattle.std.proofs.lemmas.List.Sorted.{IsPermutation-refl, IsPermutation-sym, IsPermutation-trans}
use Rattle.std.proofs.lemmas.List.Sorted.{IsPermutation-cons, IsPermutation-middle, IsPermutation-append_left}
use Rattle.std.proofs.lemmas.List.Sorted.{Contains-permutation}
use Rattle.std.proofs.lemmas.Map.Views.{All-insert_key}
use Rattle.std.proofs.lemmas.Map.Keys.{IsDistinct-from_sorted, IsDistinct-head, IsDistinct-IsPermutation}
use Rattle.std.proofs.lemmas.Map.Keys.{apart_from_distinct, sorted_from_all_adjacent}
use Rattle.recursive_sum.specs.Select.{HaveOwnKeys, by_rank}

-- ---- the order

pub by_rank_total : IsTotalOrder by_rank
unfolding by_rank
by_rank_total =
    then_total (on_total (λ (p : List ℕ × ℤ). unsigned_abs p.1) (back_total nat_cmp_total))
    (on_total (λ (p : List ℕ × ℤ). p.0) nat_list_cmp_total)

-- pairs of different keys are not of one rank
eq_then : (first second : Ordering) → is_eq second ≡ false → is_eq (ordering_then first second) ≡ false
eq_then Less second apart = refl
eq_then Equal second apart = apart
eq_then Greater second apart = refl

by_rank-apart : (a b : List ℕ × ℤ) → eq_by_cmp (slice_cmp nat_cmp) a.0 b.0 ≡ false → eq_by_cmp by_rank a b ≡ false
unfolding by_rank
by_rank-apart a b apart = eq_then (nat_cmp (unsigned_abs b.1) (unsigned_abs a.1)) (slice_cmp nat_cmp a.0 b.0) apart

ranks_apart : (a : List ℕ × ℤ) (pairs : List (List ℕ × ℤ))
    → AllByRecursion (λ key. eq_by_cmp (slice_cmp nat_cmp) a.0 key ≡ false) (keys_of pairs)
    → AllByRecursion (λ b. eq_by_cmp by_rank a b ≡ false) pairs
ranks_apart a [] apart = tt
ranks_apart a (b ∷ pairs) apart = (by_rank-apart a b apart.0, ranks_apart a pairs apart.1)

pub ranks_distinct : (pairs : List (List ℕ × ℤ)) → IsDistinct (eq_by_cmp (slice_cmp nat_cmp)) (keys_of pairs)
    → IsDistinct (eq_by_cmp by_rank) pairs
unfolding IsDistinct
ranks_distinct [] distinct = tt
ranks_distinct (a ∷ pairs) distinct = (ranks_apart a pairs distinct.0, ranks_distinct pairs distinct.1)

-- pairs of ascending keys have their own keys
keys_of-paired : (f : List ℕ → ℤ) (keys : List (List ℕ)) → keys_of (map (λ (key : List ℕ). (key, f key)) keys) ≡ keys
keys_of-paired f [] = refl
keys_of-paired f (key ∷ keys) = ap (λ (rest : List (List ℕ)). key ∷ rest) (keys_of-paired f keys)

pub paired_keys : (f : List ℕ → ℤ) (keys : List (List ℕ)) → IsStrictlySortedBy (slice_cmp nat_cmp) keys
    → HaveOwnKeys (map (λ (key : List ℕ). (key, f key)) keys)
paired_keys f keys ascending =
    record { distinct = rw (keys_of-paired f keys) (IsDistinct-from_sorted (slice_cmp nat_cmp) keys ascending) }

-- ---- lists in an order

-- one case for each answer of an order
by_order : {G : Type 0} (o : Ordering) → (o ≡ Less → G) → (o ≡ Equal → G) → (o ≡ Greater → G) → G
by_order Less f g h = f refl
by_order Equal f g h = g refl
by_order Greater f g h = h refl

less_left : (r s : Ordering) → r ≡ ordering_reverse s → is_lt s ≡ false → is_eq r ≡ false → r ≡ Less
less_left r Less turned not_less apart = absurd (true≢false not_less)
less_left r Equal turned not_less apart = absurd (true≢false (sym (ap is_eq turned) ∙ apart))
less_left r Greater turned not_less apart = turned

module _ {X : Type 0} {R : X → X → Ordering} (o : IsTotalOrder R) where
  -- a sorted list no two of which tie is strictly sorted
  pub strictly_from_sorted : (xs : List X) → IsSortedBy (λ a b. is_lt (R a b)) xs → IsDistinct (eq_by_cmp R) xs
      → IsStrictlySortedBy R xs
  unfolding IsStrictlySortedBy
  strictly_from_sorted [] sorted distinct = tt
  strictly_from_sorted (x ∷ xs) sorted distinct =
      sorted_from_all_adjacent o (x ∷ xs) x (λ k below.
      let a = get_or (x ∷ xs) k x in
      let b = get_or (x ∷ xs) (k + 1) x in
      less_left (R a b) (R b a) (o.antisymm a b) (sorted k x (omega arith) below)
      (apart_from_distinct (eq_by_cmp R) (x ∷ xs) k (k + 1) x distinct (omega arith) below))

  not_below_itself : (x : X) → R x x ≡ Less → ⊥
  not_below_itself x less = true≢false (ap is_lt (sym less ∙ tied_itself o x))

  none_in_empty : (z : X) → Contains [] z → ⊥
  none_in_empty z at = omega (arith, at.1)

  first_in : (z : X) (zs : List X) → Contains (z ∷ zs) z
  first_in z zs = (0, omega arith, refl)

  later_in : (z w : X) (zs : List X) → Contains zs z → Contains (w ∷ zs) z
  later_in z w zs at = (at.0 + 1, omega (arith, at.1), rw add-one at.2)

  split : (z w : X) (zs : List X) → Contains (w ∷ zs) z → (w ≡ z) ⊎ Contains zs z
  split z w zs (zero, below, is) = inl is
  split z w zs (suc k, below, is) = inr (k, omega (arith, below), is)

  under : (w z : X) (zs : List X) → AllByRecursion (λ v. R w v ≡ Less) zs → Contains zs z → R w z ≡ Less
  under w z zs below at = All-contains (λ v. R w v ≡ Less) zs z (All-from_recursion (λ v. R w v ≡ Less) zs below) at

  first_same : (x y : X) (xs ys : List X) → AllByRecursion (λ v. R x v ≡ Less) xs
      → AllByRecursion (λ v. R y v ≡ Less) ys → Contains (y ∷ ys) x → Contains (x ∷ xs) y → x ≡ y
  first_same x y xs ys bx by at_x at_y = elim (split x y ys at_x) [
    | inl same ↦ sym same
    | inr later ↦ elim (split y x xs at_y) [
      | inl same ↦ same
      | inr behind ↦ absurd (not_below_itself x (o.trans x y x (under x y xs bx behind) (under y x ys by later)))
    ]
  ]

  rest_in : (z x y : X) (xs ys : List X) → x ≡ y → AllByRecursion (λ v. R x v ≡ Less) xs → Contains xs z
      → Contains (y ∷ ys) z → Contains ys z
  rest_in z x y xs ys first below at among = elim (split z y ys among) [
    | inl same ↦ absurd
        (not_below_itself x (subst (λ (w : X). R x w ≡ Less) (sym (first ∙ same)) (under x z xs below at)))
    | inr later ↦ later
  ]

  -- strictly sorted lists of the same members are one list
  pub same_sorted : (xs ys : List X) → IsStrictlySortedBy R xs → IsStrictlySortedBy R ys
      → ((z : X) → Contains xs z → Contains ys z) → ((z : X) → Contains ys z → Contains xs z) → xs ≡ ys
  unfolding IsStrictlySortedBy
  same_sorted [] [] sx sy to from = refl
  same_sorted [] (y ∷ ys) sx sy to from = absurd (none_in_empty y (from y (first_in y ys)))
  same_sorted (x ∷ xs) [] sx sy to from = absurd (none_in_empty x (to x (first_in x xs)))
  same_sorted (x ∷ xs) (y ∷ ys) sx sy to from =
      let first : x ≡ y = first_same x y xs ys sx.0 sy.0 (to x (first_in x xs)) (from y (first_in y ys)) in
      let rest : xs ≡ ys = same_sorted xs ys sx.1 sy.1
      (λ z at. rest_in z x y xs ys first sx.0 at (to z (later_in z x xs at)))
      (λ z at. rest_in z y x ys xs (sym first) sy.0 at (from z (later_in z y ys at))) in
      λ i. first i ∷ rest i

  -- ---- a member put in its place

  below_inserted : (x y : X) (xs : List X) → R x y ≡ Less → AllByRecursion (λ v. R x v ≡ Less) xs
      → AllByRecursion (λ v. R x v ≡ Less) (insert_key R xs y)
  below_inserted x y xs less below =
      let P : X → Type 0 = λ v. R x v ≡ Less in
      recursion_from_All P (insert_key R xs y) (All-insert_key R y P xs (All-from_recursion P xs below) less)

  below_through : (x y : X) (xs : List X) → R x y ≡ Less → AllByRecursion (λ v. R y v ≡ Less) xs
      → AllByRecursion (λ v. R x v ≡ Less) xs
  below_through x y [] less below = tt
  below_through x y (z ∷ xs) less below = (o.trans x y z less below.0, below_through x y xs less below.1)

  inserted_sorted : (xs : List X) (y : X) → IsStrictlySortedBy R xs → IsStrictlySortedBy R (insert_key R xs y)
  unfolding IsStrictlySortedBy
  inserted_sorted [] y sorted = (tt, tt)
  inserted_sorted (x ∷ xs) y sorted = by_order (R y x)
      (λ less. rw less ((less, below_through y x xs less sorted.0), sorted))
      (λ same. rw same sorted)
      (λ greater. rw greater
      (below_inserted x y xs (o.antisymm x y ∙ ap ordering_reverse greater) sorted.0, inserted_sorted xs y sorted.1))

  inserted_moves : (xs : List X) (y : X) → AllByRecursion (λ x. eq_by_cmp R y x ≡ false) xs
      → IsPermutation (y ∷ xs) (insert_key R xs y)
  inserted_moves [] y apart = IsPermutation-refl (y ∷ [])
  inserted_moves (x ∷ xs) y apart = by_order (R y x)
      (λ less. rw less (IsPermutation-refl (y ∷ x ∷ xs)))
      (λ same. absurd (true≢false (sym (ap is_eq same) ∙ apart.0)))
      (λ greater. rw greater
      (IsPermutation-trans _ _ _ (IsPermutation-sym _ _ (IsPermutation-middle (x ∷ []) y xs))
      (IsPermutation-cons x _ _ (inserted_moves xs y apart.1))))

  pub fold_sorted : (xs ys : List X) → IsStrictlySortedBy R xs
      → IsStrictlySortedBy R (fold (λ ranked x. insert_key R ranked x) xs ys)
  fold_sorted xs [] sorted = sorted
  fold_sorted xs (y ∷ ys) sorted = fold_sorted (insert_key R xs y) ys (inserted_sorted xs y sorted)

  apart_front : (y : X) (xs ys : List X) → AllByRecursion (λ x. eq_by_cmp R y x ≡ false) (xs ++ ys)
      → AllByRecursion (λ x. eq_by_cmp R y x ≡ false) xs
  apart_front y [] ys apart = tt
  apart_front y (x ∷ xs) ys apart = (apart.0, apart_front y xs ys apart.1)

  fold_moves : (xs ys : List X) → IsDistinct (eq_by_cmp R) (xs ++ ys)
      → IsPermutation (xs ++ ys) (fold (λ ranked x. insert_key R ranked x) xs ys)
  fold_moves xs [] distinct = rw append-nil (IsPermutation-refl xs)
  fold_moves xs (y ∷ ys) distinct =
      let e : X → X → Bool = eq_by_cmp R in
      let flips : (a b : X) → e a b ≡ e b a = (eq_by_cmp_equiv o).symm in
      let front : IsPermutation (xs ++ y ∷ ys) (y ∷ (xs ++ ys)) = IsPermutation-middle xs y ys in
      let apart : AllByRecursion (λ x. e y x ≡ false) xs =
      apart_front y xs ys (IsDistinct-head e y (xs ++ ys) (IsDistinct-IsPermutation e flips _ _ front distinct)) in
      let moved : IsPermutation (xs ++ y ∷ ys) (insert_key R xs y ++ ys) =
      IsPermutation-trans _ _ _ front (IsPermutation-append_left ys _ _ (inserted_moves xs y apart)) in
      IsPermutation-trans _ _ _ moved
      (fold_moves (insert_key R xs y) ys (IsDistinct-IsPermutation e flips _ _ moved distinct))

  -- a strictly sorted list with the members of another, no two of which tie, is what those make, put in one by one
  pub fold_is : (xs ys : List X) → IsDistinct (eq_by_cmp R) xs → IsPermutation xs ys → IsStrictlySortedBy R ys
      → ys ≡ fold (λ ranked x. insert_key R ranked x) [] xs
  unfolding IsStrictlySortedBy
  fold_is xs ys distinct moved sorted =
      let made : List X = fold (λ ranked x. insert_key R ranked x) [] xs in
      let moves : IsPermutation ys made =
      IsPermutation-trans _ _ _ (IsPermutation-sym xs ys moved) (fold_moves [] xs distinct) in
      same_sorted ys made sorted (fold_sorted [] xs tt) (λ z. Contains-permutation ys made z moves)
      (λ z. Contains-permutation made ys z (IsPermutation-sym ys made moves))
