-- First fit's placement fits, and so does each completion of choices that are within the capacities.
use Rattle.std.proofs.Common.{◌≡◌, ℕ, zero, suc, ◌+◌, ◌-◌, ◌≤◌, ◌<◌, Bool, true, false, cond, ◌==◌, ◌&&◌, ◌||◌, List, [], ◌∷◌, ◌++◌, length, slice_index, Option, None, Some, ◌⊎◌, inl, inr, refl, sym, ◌∙◌, ap, subst, arith, length-append}
use Rattle.std.specs.Prelude.{find, nat_le, nat_lt}
use Rattle.std.specs.List.{range_with_len, list_any}
use Rattle.std.proofs.lemmas.Bool.{cases_Bool, and_from, eq-eqb, eqb-true, leb-true, le-leb, lt-ltb}
use Rattle.std.proofs.lemmas.List.{get_or_append_left, get_or_push}
use Rattle.std.proofs.lemmas.List.FromFn.{length-range_with_len, get_or-range_with_len}
use Rattle.bound_certificate.specs.Sums.{sum_below, all_below, has}
use Rattle.bound_certificate.specs.Problem.{Problem, site_count, need_count, capacity, load, via}
use Rattle.bound_certificate.specs.Placement.{given_by, given, is_chosen, is_placement, is_within_capacity, fits, has_room, first_with_room, completed, first_fit, AreChoices}
use Rattle.bound_certificate.specs.Node.{later, is_next_name, is_hall_set}
use Rattle.bound_certificate.proofs.Known.{completed_on, completed_not}
use Rattle.bound_certificate.proofs.Nodes.{choices_push}
use Rattle.bound_certificate.proofs.Sums.{sum_below-same}

-- all sites are within their capacities under these choices
pub record AreWithin (p : Problem) (cs : List ℕ) : Type 0 where
  pub each : (t : ℕ) → t < site_count p → given p cs t ≤ capacity p t

-- one more choice gives its need's load to its site
given-push : (p : Problem) (cs : List ℕ) (s t : ℕ)
    → given p (cs ++ s ∷ []) t ≡ given p cs t + cond (s == t) (load p (length cs)) 0
unfolding given given_by
given-push p cs s t =
    let size : length (cs ++ s ∷ []) ≡ suc (length cs) = simp length-append (omega arith) in
    let before = sum_below-same (given_by p (cs ++ s ∷ []) t) (given_by p cs t) (length cs)
    (λ i below. ap (λ (site : ℕ). cond (site == t) (load p i) 0) (get_or_append_left cs (s ∷ []) 0 i below)) in
    let last = ap (λ (site : ℕ). cond (site == t) (load p (length cs)) 0) (get_or_push cs s 0 (length cs) refl) in
    ap (sum_below (given_by p (cs ++ s ∷ []) t)) size ∙ omega (arith, before, last)

within_push : (p : Problem) (cs : List ℕ) (s : ℕ) → AreWithin p cs → has_room p cs s ≡ true → AreWithin p (cs ++ s ∷ [])
unfolding has_room
within_push p cs s within room = record {
  each = λ t below.
      let pushed = given-push p cs s t in
      let fits : given p cs s + load p (length cs) ≤ capacity p s =
      leb-true (given p cs s + load p (length cs)) (capacity p s) room in
      elim (cases_Bool (s == t)) [
        | inl here ↦
            let same : s ≡ t = eqb-true s t here in
            let value = ap (λ (b : Bool). cond {A = ℕ} b (load p (length cs)) 0) here in
            let moved : given p cs t + load p (length cs) ≤ capacity p t =
            subst (λ (x : ℕ). given p cs x + load p (length cs) ≤ capacity p x) same fits in
            omega (arith, pushed, value, moved)
        | inr other ↦
            let value = ap (λ (b : Bool). cond {A = ℕ} b (load p (length cs)) 0) other in
            omega (arith, pushed, value, within.each t below)
      ];
}

-- what is found passes, and stands in the list
found_if : (b : Bool) (x s : ℕ) (rest : Option ℕ) → cond b (Some x) rest ≡ Some s
    → ((b ≡ true) × (x ≡ s)) ⊎ (rest ≡ Some s)
found_if true x s rest h = inl (refl, cc)
found_if false x s rest h = inr h

found_passes : (test : ℕ → Bool) (xs : List ℕ) (s : ℕ) → find test xs ≡ Some s → test s ≡ true
found_passes test [] s found = cc
found_passes test (x ∷ xs) s found = elim (found_if (test x) x s (find test xs) found) [
  | inl here ↦ subst (λ (y : ℕ). test y ≡ true) here.1 here.0
  | inr later ↦ found_passes test xs s later
]

or_here : (a b : Bool) → a ≡ true → (a || b) ≡ true
or_here true b h = refl
or_here false b h = cc

or_there : (a b : Bool) → b ≡ true → (a || b) ≡ true
or_there true b h = refl
or_there false b h = h

found_stands : (test : ℕ → Bool) (xs : List ℕ) (s : ℕ) → find test xs ≡ Some s → has xs s ≡ true
unfolding has
found_stands test [] s found = cc
found_stands test (x ∷ xs) s found = elim (found_if (test x) x s (find test xs) found) [
  | inl here ↦ or_here (x == s) (list_any (λ y. y == s) xs) (eq-eqb x s here.1)
  | inr later ↦ or_there (x == s) (list_any (λ y. y == s) xs) (found_stands test xs s later)
]

all_below-from : (test : ℕ → Bool) (n : ℕ) → ((i : ℕ) → i < n → test i ≡ true) → all_below test n ≡ true
all_below-from test zero each = refl
all_below-from test (suc n) each =
    and_from (all_below test n) (test n) (all_below-from test n (λ i below. each i (omega arith)))
    (each n (omega arith))

whole_fits : (p : Problem) (cs : List ℕ) → AreChoices p cs → AreWithin p cs → length cs ≡ need_count p
    → fits p cs ≡ true
unfolding fits is_placement is_within_capacity
whole_fits p cs are within size =
    and_from (is_placement p cs) (all_below (is_within_capacity p cs) (site_count p))
    (and_from (length cs == need_count p) (all_below (is_chosen p cs) (length cs))
    (eq-eqb (length cs) (need_count p) size) (all_below-from (is_chosen p cs) (length cs) are.each))
    (all_below-from (is_within_capacity p cs) (site_count p)
    (λ s below. le-leb (given p cs s) (capacity p s) (within.each s below)))

same_placement : (p : Problem) (cs qs : List ℕ) → Some cs ≡ Some qs → fits p cs ≡ true → fits p qs ≡ true
same_placement p cs qs same fit = let equal : cs ≡ qs = cc in subst (λ xs. fits p xs ≡ true) equal fit

-- one more need: the first site of its via with room, or none
step : (p : Problem) (cs qs : List ℕ) (n : ℕ) (site : Option ℕ) → first_with_room p cs ≡ site
    → ((s : ℕ) → has_room p cs s ≡ true → has (via p (length cs)) s ≡ true → completed p (cs ++ s ∷ []) n ≡ Some qs
    → fits p qs ≡ true)
    → completed p cs (suc n) ≡ Some qs → fits p qs ≡ true
unfolding first_with_room
step p cs qs n None is rest found = let none = completed_not p cs n is in cc
step p cs qs n (Some s) is rest found =
    rest s (found_passes (has_room p cs) (via p (length cs)) s is)
    (found_stands (has_room p cs) (via p (length cs)) s is) (sym (completed_on p cs s n is) ∙ found)

completed_none : (p : Problem) (cs : List ℕ) → completed p cs zero ≡ Some cs
unfolding completed
completed_none p cs = refl

pub completed_fits : (p : Problem) (cs qs : List ℕ) (n : ℕ) → AreChoices p cs → AreWithin p cs
    → length cs + n ≡ need_count p → completed p cs n ≡ Some qs → fits p qs ≡ true
completed_fits p cs qs zero are within size found =
    same_placement p cs qs (sym (completed_none p cs) ∙ found) (whole_fits p cs are within (omega arith))
completed_fits p cs qs (suc n) are within size found =
    step p cs qs n (first_with_room p cs) refl
    (λ s room stands rest.
    let longer : length (cs ++ s ∷ []) ≡ length cs + 1 = simp length-append in
    completed_fits p (cs ++ s ∷ []) qs n (choices_push p cs s are (omega arith) stands)
    (within_push p cs s within room) (omega (arith, longer, size)) rest)
    found

none_given : (p : Problem) → AreWithin p []
unfolding given
none_given p = record { each = λ t below. omega arith }

pub first_fit_fits : (p : Problem) (qs : List ℕ) → first_fit p ≡ Some qs → fits p qs ≡ true
unfolding first_fit
first_fit_fits p qs found =
    completed_fits p [] qs (need_count p) (record { few = omega arith; each = λ i below. absurd (omega arith) })
    (none_given p) (omega arith) found

ascends : (p : Problem) (d n k : ℕ) → k < n
    → (k == 0 || nat_lt (slice_index (range_with_len d n) (k - 1)) (slice_index (range_with_len d n) k)) ≡ true
ascends p d n zero below = refl
ascends p d n (suc k) below =
    let names = range_with_len d n in
    let one_less : suc k - 1 ≡ k = omega arith in
    let before : slice_index names (suc k - 1) ≡ d + k =
    ap (slice_index names) one_less ∙ get_or-range_with_len d n k 0 (omega arith) in
    let here : slice_index names (suc k) ≡ d + suc k = get_or-range_with_len d n (suc k) 0 below in
    or_there (suc k == 0) (nat_lt (slice_index names (suc k - 1)) (slice_index names (suc k)))
    (lt-ltb (slice_index names (suc k - 1)) (slice_index names (suc k)) (omega (arith, before, here)))

-- the needs from a depth on are a set that a Hall leaf may name
pub later_is_hall_set : (p : Problem) (d : ℕ) → d < need_count p → is_hall_set p d (later p d) ≡ true
unfolding is_hall_set later is_next_name
later_is_hall_set p d above =
    let n = need_count p - d in
    let names = range_with_len d n in
    let size = length-range_with_len d n in
    and_from (nat_lt 0 (length names)) (all_below (is_next_name p d names) (length names))
    (lt-ltb 0 (length names) (omega (arith, size)))
    (all_below-from (is_next_name p d names) (length names) (λ k below.
    let here : slice_index names k ≡ d + k = get_or-range_with_len d n k 0 (omega (arith, size)) in
    and_from (nat_le d (slice_index names k) && nat_lt (slice_index names k) (need_count p))
    (k == 0 || nat_lt (slice_index names (k - 1)) (slice_index names k))
    (and_from (nat_le d (slice_index names k)) (nat_lt (slice_index names k) (need_count p))
    (le-leb d (slice_index names k) (omega (arith, here)))
    (lt-ltb (slice_index names k) (need_count p) (omega (arith, here, size))))
    (ascends p d n k (omega (arith, size)))))
