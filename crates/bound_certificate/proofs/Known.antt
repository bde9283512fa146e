-- Choices are numbers of sites, since they stand in vias.
use Rattle.std.proofs.Common.{◌≡◌, ℕ, suc, ◌<◌, true, ◌==◌, Some, None, List, [], ◌∷◌, ◌++◌, length, slice_index, slice_index_or, refl, arith}
use Rattle.std.specs.List.{All}
use Rattle.std.proofs.lemmas.Bool.{and_parts, eqb-true}
use Rattle.std.proofs.lemmas.List.Folds.{Any-from_list_any}
use Rattle.bound_certificate.specs.Sums.{all_below, has}
use Rattle.bound_certificate.specs.Problem.{Problem, need_count, via}
use Rattle.bound_certificate.specs.Placement.{is_chosen, is_placement, AreChoices, first_with_room, completed}
use Rattle.bound_certificate.proofs.Below.{all_below-at}

-- a placement has one choice for each need
pub is_placement-choices : (p : Problem) (cs : List ℕ) → is_placement p cs ≡ true → AreChoices p cs
unfolding is_placement
is_placement-choices p cs is =
    let parts = and_parts (length cs == need_count p) (all_below (is_chosen p cs) (length cs)) is in
    let size : length cs ≡ need_count p = eqb-true (length cs) (need_count p) parts.0 in
    record { few = omega (arith, size); each = λ i below. all_below-at (is_chosen p cs) (length cs) i parts.1 below }

-- what stands in a list of numbers below n is below n
pub has-below : (n x : ℕ) (xs : List ℕ) → All (λ y. y < n) xs → has xs x ≡ true → x < n
unfolding has
has-below n x xs all stands =
    let found = Any-from_list_any (λ y. y == x) xs stands in
    let same : found.1 ≡ x = eqb-true found.1 x found.4 in
    let lower : slice_index_or xs found.0 found.1 < n = all found.0 found.1 found.2 in
    omega (arith, same, lower, found.3)

pub chosen-below : (p : Problem) (cs : List ℕ) (n i : ℕ) → AreChoices p cs → i < length cs → All (λ y. y < n) (via p i)
    → slice_index cs i < n
unfolding is_chosen
chosen-below p cs n i are below all = has-below n (slice_index cs i) (via p i) all (are.each i below)

-- one more need is completed by its first site with room
pub completed_on : (p : Problem) (cs : List ℕ) (s n : ℕ) → first_with_room p cs ≡ Some s
    → completed p cs (suc n) ≡ completed p (cs ++ s ∷ []) n
unfolding completed
completed_on p cs s n found = rw found refl

-- and not at all where it has none
pub completed_not : (p : Problem) (cs : List ℕ) (n : ℕ) → first_with_room p cs ≡ None → completed p cs (suc n) ≡ None
unfolding completed
completed_not p cs n none = rw none refl
