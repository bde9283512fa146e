-- A placement that fits, and the choices that it extends.
use Rattle.std.proofs.Common.{◌≡◌, ℕ, suc, ◌+◌, ◌-◌, ◌≤◌, ◌<◌, Bool, true, cond, ◌==◌, List, [], ◌∷◌, ◌++◌, length, get_or, slice_index, inl, inr, refl, sym, ◌∙◌, ap, subst, arith, length-append}
use Rattle.std.specs.List.{All}
use Rattle.std.proofs.lemmas.Bool.{and_parts, eqb-true, eq-eqb, leb-true, cases_Bool}
use Rattle.std.proofs.lemmas.List.{get_or_append_left, get_or_push, get_or_default}
use Rattle.std.proofs.lemmas.List.Folds.{Any-from_list_any, list_any_at}
use Rattle.bound_certificate.specs.Sums.{sum_below, all_below, has}
use Rattle.bound_certificate.specs.Limits.{IsWithin}
use Rattle.bound_certificate.specs.Problem.{Problem, site_count, need_count, capacity, opening, load, via}
use Rattle.bound_certificate.specs.Placement.{given_by, given, opened_by, opened, service, served_by, served, cost, is_chosen, is_placement, is_within_capacity, fits}
use Rattle.bound_certificate.specs.Tree.{child_choices}
use Rattle.bound_certificate.proofs.Below.{all_below-at, below_or_last}
use Rattle.bound_certificate.proofs.Known.{has-below}
use Rattle.bound_certificate.proofs.Sums.{sum_below-le, sum_below-same, sum_below-split}

-- the sites of a via are known
pub via-known : (p : Problem) (i : ℕ) → IsWithin p.sites p.needs → i < need_count p
    → All (λ s. s < site_count p) (via p i)
unfolding via
via-known p i within below = (within.each i (record { load = 0; via = [] }) below).known

-- a placement that fits: a site of its via for each need, all within their capacities
pub record IsFitting (p : Problem) (qs : List ℕ) : Type 0 where
  pub size : length qs ≡ need_count p
  pub chosen : (i : ℕ) → i < need_count p → has (via p i) (slice_index qs i) ≡ true
  pub known : (i : ℕ) → i < need_count p → slice_index qs i < site_count p
  pub room : (s : ℕ) → s < site_count p → given p qs s ≤ capacity p s

pub fitting : (p : Problem) (qs : List ℕ) → IsWithin p.sites p.needs → fits p qs ≡ true → IsFitting p qs
unfolding fits is_placement is_chosen is_within_capacity
fitting p qs within fit =
    let parts = and_parts (is_placement p qs) (all_below (is_within_capacity p qs) (site_count p)) fit in
    let placed = and_parts (length qs == need_count p) (all_below (is_chosen p qs) (length qs)) parts.0 in
    let size : length qs ≡ need_count p = eqb-true (length qs) (need_count p) placed.0 in
    let chosen : (i : ℕ) → i < need_count p → has (via p i) (slice_index qs i) ≡ true =
    λ i below. all_below-at (is_chosen p qs) (length qs) i placed.1 (omega (arith, size)) in
    record {
      size = size;
      chosen = chosen;
      known = λ i below. has-below (site_count p) (slice_index qs i) (via p i) (via-known p i within below)
          (chosen i below);
      room = λ s below. leb-true (given p qs s) (capacity p s)
          (all_below-at (is_within_capacity p qs) (site_count p) s parts.1 below);
    }

-- a placement that makes these choices for the first needs
pub record Extends (cs qs : List ℕ) : Type 0 where
  pub few : length cs ≤ length qs
  pub same : (i : ℕ) → i < length cs → slice_index qs i ≡ slice_index cs i

pub extends_nothing : (qs : List ℕ) → Extends [] qs
extends_nothing qs = record { few = omega arith; same = λ i below. absurd (omega arith) }

-- a number that stands in a list stands at a place
pub record StandsAt (xs : List ℕ) (x n : ℕ) : Type 0 where
  pub within : n < length xs
  pub is : slice_index xs n ≡ x

pub has-place : (xs : List ℕ) (x : ℕ) → has xs x ≡ true → (n : ℕ) × StandsAt xs x n
unfolding has
has-place xs x stands =
    let found = Any-from_list_any (λ y. y == x) xs stands in
    let same : found.1 ≡ x = eqb-true found.1 x found.4 in
    (found.0, record { within = found.2; is = get_or_default xs found.0 0 found.1 found.2 ∙ found.3 ∙ same })

pub has-from : (xs : List ℕ) (x n : ℕ) → StandsAt xs x n → has xs x ≡ true
unfolding has
has-from xs x n at = list_any_at (λ y. y == x) xs n 0 at.within (eq-eqb (slice_index xs n) x at.is)

-- the placement goes on through one child
pub extends_child : (p : Problem) (cs qs : List ℕ) (n : ℕ) → Extends cs qs → length cs < length qs
    → StandsAt (via p (length cs)) (slice_index qs (length cs)) n → Extends (child_choices p cs n) qs
unfolding child_choices
extends_child p cs qs n extends above at =
    let site = slice_index (via p (length cs)) n in
    let size : length (cs ++ site ∷ []) ≡ length cs + 1 = simp length-append in
    record {
      few = omega (arith, size);
      same = λ i below.
          let small : i < suc (length cs) = omega (arith, size) in
          elim (below_or_last i (length cs) small) [
            | inl lower ↦ extends.same i lower ∙ sym (get_or_append_left cs (site ∷ []) 0 i lower)
            | inr last ↦ subst (λ (k : ℕ). slice_index qs k ≡ get_or (cs ++ site ∷ []) k 0) (sym last)
                (sym at.is ∙ sym (get_or_push cs site 0 (length cs) refl))
          ];
    }

-- what the choices give, open and cost, as parts of what the placement does
pub given-extends : (p : Problem) (cs qs : List ℕ) (s : ℕ) → Extends cs qs
    → given p cs s ≡ sum_below (given_by p qs s) (length cs)
unfolding given given_by
given-extends p cs qs s extends =
    sum_below-same (given_by p cs s) (given_by p qs s) (length cs)
    (λ i below. ap (λ (site : ℕ). cond (site == s) (load p i) 0) (sym (extends.same i below)))

pub served-extends : (p : Problem) (cs qs : List ℕ) → Extends cs qs
    → served p cs ≡ sum_below (served_by p qs) (length cs)
unfolding served served_by
served-extends p cs qs extends =
    sum_below-same (served_by p cs) (served_by p qs) (length cs)
    (λ i below. ap (λ (site : ℕ). service p site i) (sym (extends.same i below)))

pub has-extends : (cs qs : List ℕ) (s : ℕ) → Extends cs qs → has cs s ≡ true → has qs s ≡ true
has-extends cs qs s extends stands =
    let found = has-place cs s stands in
    has-from qs s found.0
    (record {
      within = omega (arith, found.1.within, extends.few);
      is = extends.same found.0 found.1.within
          ∙ found.1.is;
    })

-- a longer sum is no less
sum_below-longer : (f : ℕ → ℕ) (m n : ℕ) → m ≤ n → sum_below f m ≤ sum_below f n
sum_below-longer f m n within =
    let whole : m + (n - m) ≡ n = omega arith in
    let split = sum_below-split f m (n - m) in
    let same = ap (sum_below f) whole in
    omega (arith, split, same)

pub given-whole : (p : Problem) (qs : List ℕ) (s : ℕ) → given p qs s ≡ sum_below (given_by p qs s) (length qs)
unfolding given
given-whole p qs s = refl

pub served-whole : (p : Problem) (qs : List ℕ) → served p qs ≡ sum_below (served_by p qs) (length qs)
unfolding served
served-whole p qs = refl

pub given-le : (p : Problem) (cs qs : List ℕ) (s : ℕ) → Extends cs qs → given p cs s ≤ given p qs s
given-le p cs qs s extends =
    omega (
      arith,
      given-extends p cs qs s extends,
      given-whole p qs s,
      sum_below-longer (given_by p qs s) (length cs)
          (length qs) extends.few,
    )

pub served-le : (p : Problem) (cs qs : List ℕ) → Extends cs qs → served p cs ≤ served p qs
served-le p cs qs extends =
    omega (
      arith,
      served-extends p cs qs extends,
      served-whole p qs,
      sum_below-longer (served_by p qs) (length cs)
          (length qs) extends.few,
    )

opened_by-le : (p : Problem) (cs qs : List ℕ) (s : ℕ) → Extends cs qs → opened_by p cs s ≤ opened_by p qs s
unfolding opened_by
opened_by-le p cs qs s extends = elim (cases_Bool (has cs s)) [
  | inl stands ↦
      let before = ap (λ (b : Bool). cond {A = ℕ} b (opening p s) 0) stands in
      let after = ap (λ (b : Bool). cond {A = ℕ} b (opening p s) 0) (has-extends cs qs s extends stands) in
      omega (arith, before, after)
  | inr misses ↦
      let before = ap (λ (b : Bool). cond {A = ℕ} b (opening p s) 0) misses in
      omega (arith, before)
]

pub cost-le : (p : Problem) (cs qs : List ℕ) → Extends cs qs → cost p cs ≤ cost p qs
unfolding cost opened
cost-le p cs qs extends =
    omega (
      arith,
      served-le p cs qs extends,
      sum_below-le (opened_by p cs) (opened_by p qs) (site_count p)
          (λ s below. opened_by-le p cs qs s extends),
    )
