-- No site carries more than its capacity, choice by choice.
use Rattle.std.proofs.Common.{◌≡◌, ℕ, zero, suc, ◌+◌, ◌-◌, ◌<◌, Bool, true, false, cond, ◌==◌, ◌&&◌, ◌||◌, ◌⊎◌, List, [], ◌∷◌, ◌++◌, length, slice_index, Option, None, Some, inl, inr, refl, sym, ◌∙◌, ap, subst, arith, length-append}
use Rattle.std.specs.Prelude.{nat_lt, not, IfSome}
use Rattle.std.specs.List.{find}
use Rattle.std.specs.Option.{option_map}
use Rattle.std.proofs.lemmas.Bool.{leb-true, le-leb, lt-ltb, eq-eqb, eqb-true, cases_Bool}
use Rattle.std.proofs.lemmas.List.{get_or_append_left, get_or_push}
use Rattle.bound_certificate.specs.Sums.{sum_below, all_below, has}
use Rattle.bound_certificate.specs.Problem.{Problem, site_count, need_count, capacity, load, via}
use Rattle.bound_certificate.specs.Placement.{given_by, given, cost, is_chosen, is_placement, is_within_capacity, fits, has_room, first_with_room, completed, AreChoices, first_fit}
use Rattle.bound_certificate.specs.Node.{is_over}
use Rattle.bound_certificate.specs.Outcome.{completion, is_no_better, is_beaten, first_fit_cost}
use Rattle.bound_certificate.proofs.Below.{all_below-at}
use Rattle.bound_certificate.proofs.Known.{completed_on, completed_not}
use Rattle.bound_certificate.proofs.Nodes.{choices_push}
use Rattle.bound_certificate.proofs.Fitting.{Extends, given-extends, given-whole}
use Rattle.placement_search.specs.Kept.{IsCostOf, IsRoomy}

pub all_below-from : (test : ℕ → Bool) (n : ℕ) → ((i : ℕ) → i < n → test i ≡ true) → all_below test n ≡ true
all_below-from test zero each = refl
all_below-from test (suc n) each =
    let before = all_below-from test n (λ i below. each i (omega arith)) in
    let last = each n (omega arith) in
    rw before last

-- one more choice gives its load to its site
given-push : (p : Problem) (cs : List ℕ) (s x : ℕ)
    → given p (cs ++ s ∷ []) x ≡ given p cs x + cond {A = ℕ} (s == x) (load p (length cs)) 0
unfolding given_by
given-push p cs s x =
    let qs = cs ++ s ∷ [] in
    let size : length qs ≡ suc (length cs) = simp length-append (omega arith) in
    let extends : Extends cs qs =
    record { few = omega (arith, size); same = λ i below. get_or_append_left cs (s ∷ []) 0 i below } in
    let last : given_by p qs x (length cs) ≡ cond (s == x) (load p (length cs)) 0 =
    ap (λ (site : ℕ). cond (site == x) (load p (length cs)) 0) (get_or_push cs s 0 (length cs) refl) in
    let whole : given p qs x ≡ sum_below (given_by p qs x) (suc (length cs)) =
    given-whole p qs x ∙ ap (sum_below (given_by p qs x)) size in
    let before = given-extends p cs qs x extends in
    omega (arith, whole, before, last)

within_push : (p : Problem) (cs : List ℕ) (s : ℕ) → all_below (is_within_capacity p cs) (site_count p) ≡ true
    → is_within_capacity p (cs ++ s ∷ []) s ≡ true
    → all_below (is_within_capacity p (cs ++ s ∷ [])) (site_count p) ≡ true
unfolding is_within_capacity
within_push p cs s within here = all_below-from (is_within_capacity p (cs ++ s ∷ [])) (site_count p) (λ x below.
    let before = leb-true (given p cs x) (capacity p x)
    (all_below-at (is_within_capacity p cs) (site_count p) x within below) in
    let pushed = given-push p cs s x in
    elim (cases_Bool (s == x)) [
      | inl same ↦ subst (λ (k : ℕ). is_within_capacity p (cs ++ s ∷ []) k ≡ true) (eqb-true s x same) here
      | inr other ↦
          let none = ap (λ (b : Bool). cond {A = ℕ} b (load p (length cs)) 0) other in
          le-leb (given p (cs ++ s ∷ []) x) (capacity p x) (omega (arith, before, pushed, none))
    ])

and_not : (a b : Bool) → (a && not b) ≡ false → a ≡ true → b ≡ true
and_not true true h k = refl
and_not true false h k = cc
and_not false b h k = cc

or_right : (a b : Bool) → b ≡ true → (a || b) ≡ true
or_right true b h = refl
or_right false b h = h

-- the last choice's site is within its capacity where the node is not over
last_within : (p : Problem) (cs : List ℕ) (s : ℕ) → is_over p (cs ++ s ∷ []) ≡ false
    → is_within_capacity p (cs ++ s ∷ []) s ≡ true
unfolding is_over
last_within p cs s right =
    let qs = cs ++ s ∷ [] in
    let size : length qs ≡ suc (length cs) = simp length-append (omega arith) in
    let some : nat_lt 0 (length qs) ≡ true = lt-ltb 0 (length qs) (omega (arith, size)) in
    let place : length qs - 1 ≡ length cs = omega (arith, size) in
    let last : slice_index qs (length qs - 1) ≡ s = ap (slice_index qs) place ∙ get_or_push cs s 0 (length cs) refl in
    let within : is_within_capacity p qs (slice_index qs (length qs - 1)) ≡ true =
    and_not (nat_lt 0 (length qs)) (is_within_capacity p qs (slice_index qs (length qs - 1))) right some in
    subst (λ (k : ℕ). is_within_capacity p qs k ≡ true) last within

pub roomy_push : (p : Problem) (cs : List ℕ) (s : ℕ) → IsRoomy p cs → is_over p (cs ++ s ∷ []) ≡ false
    → IsRoomy p (cs ++ s ∷ [])
roomy_push p cs s room right =
    record { within = within_push p cs s room.within (last_within p cs s right); last = right }

pub roomy_nothing : (p : Problem) → IsRoomy p []
unfolding is_over is_within_capacity given
roomy_nothing p = record {
  within = all_below-from (is_within_capacity p []) (site_count p) (λ s below. le-leb 0 (capacity p s) (omega arith));
  last = refl;
}

-- a site with room for the next need is within its capacity with it
room_within : (p : Problem) (cs : List ℕ) (s : ℕ) → has_room p cs s ≡ true
    → is_within_capacity p (cs ++ s ∷ []) s ≡ true
unfolding has_room is_within_capacity
room_within p cs s room =
    let before = leb-true (given p cs s + load p (length cs)) (capacity p s) room in
    let pushed = given-push p cs s s in
    let own = ap (λ (b : Bool). cond {A = ℕ} b (load p (length cs)) 0) (eq-eqb s s refl) in
    le-leb (given p (cs ++ s ∷ []) s) (capacity p s) (omega (arith, before, pushed, own))

-- what a list's search finds passes, and stands in the list
record IsFound (test : ℕ → Bool) (xs : List ℕ) (x : ℕ) : Type 0 where
  passes : test x ≡ true
  stands : has xs x ≡ true

found : (test : ℕ → Bool) (xs : List ℕ) (x : ℕ) → find test xs ≡ Some x → IsFound test xs x
unfolding has
found test [] x is = cc
found test (y ∷ ys) x is = elim (cases_Bool (test y)) [
  | inl passes ↦
      let first : Some y ≡ Some x =
      sym (ap (λ (b : Bool). cond {A = Option ℕ} b (Some y) (find test ys)) passes) ∙ is in
      let same : y ≡ x = cc in
      record { passes = subst (λ (k : ℕ). test k ≡ true) same passes; stands = rw (eq-eqb y x same) refl }
  | inr fails ↦
      let later : find test ys ≡ Some x =
      sym (ap (λ (b : Bool). cond {A = Option ℕ} b (Some y) (find test ys)) fails) ∙ is in
      let rest = found test ys x later in
      record { passes = rest.passes; stands = or_right (y == x) (has ys x) rest.stands }
]

-- the completion of choices within their capacities fits
record IsWhole (p : Problem) (qs : List ℕ) : Type 0 where
  size : length qs ≡ need_count p
  are : AreChoices p qs
  within : all_below (is_within_capacity p qs) (site_count p) ≡ true

whole_push : (p : Problem) (cs : List ℕ) (n : ℕ) (qs : List ℕ) → AreChoices p cs
    → all_below (is_within_capacity p cs) (site_count p) ≡ true → length cs + n ≡ need_count p
    → completed p cs n ≡ Some qs → IsWhole p qs
unfolding first_with_room completed
whole_push p cs zero qs are within size done =
    let same : cs ≡ qs = cc in
    subst (λ (xs : List ℕ). IsWhole p xs) same (record { size = omega arith; are = are; within = within })
whole_push p cs (suc n) qs are within size done =
    elim (first_with_room p cs) as (λ found. first_with_room p cs ≡ found → IsWhole p qs) [
      | None ↦ λ none. let missing = completed_not p cs n none in cc
      | Some s ↦ λ some.
          let next = found (has_room p cs) (via p (length cs)) s some in
          let longer : length (cs ++ s ∷ []) + n ≡ need_count p = simp length-append (omega arith) in
          whole_push p (cs ++ s ∷ []) n qs (choices_push p cs s are (omega arith) next.stands)
          (within_push p cs s within (room_within p cs s next.passes)) longer
          (sym (completed_on p cs s n some) ∙ done)
    ] refl

both : (a b : Bool) → a ≡ true → b ≡ true → (a && b) ≡ true
both true b h k = k
both false b h k = cc

whole_fits : (p : Problem) (qs : List ℕ) → IsWhole p qs → fits p qs ≡ true
unfolding fits is_placement
whole_fits p qs whole =
    let placed = both (length qs == need_count p) (all_below (is_chosen p qs) (length qs))
    (eq-eqb (length qs) (need_count p) whole.size) (all_below-from (is_chosen p qs) (length qs) whole.are.each) in
    both (is_placement p qs) (all_below (is_within_capacity p qs) (site_count p)) placed whole.within

pub completed_fits : (p : Problem) (cs qs : List ℕ) → AreChoices p cs → IsRoomy p cs
    → completed p cs (need_count p - length cs) ≡ Some qs → fits p qs ≡ true
completed_fits p cs qs are room done =
    whole_fits p qs (whole_push p cs (need_count p - length cs) qs are room.within (omega (arith, are.few)) done)

-- a cost that is no better than that of the completion beats the node
pub beaten_by : (p : Problem) (best : Option ℕ) (cs : List ℕ)
    → is_no_better best (option_map (cost p) (completed p cs (need_count p - length cs))) ≡ true
    → is_beaten p best cs ≡ true
unfolding is_beaten completion
beaten_by p best cs beaten =
    elim (is_over p cs) as
    (λ (b : Bool). is_no_better best
    (option_map (cost p) (cond b None (completed p cs (need_count p - length cs)))) ≡ true) [
      | true ↦ refl
      | false ↦ beaten
    ]

-- the root's completion is that of first fit
pub root_beaten : (p : Problem) (best : Option ℕ) → is_beaten p best [] ≡ true
    → is_no_better best (first_fit_cost p) ≡ true
unfolding is_beaten completion first_fit_cost first_fit is_over
root_beaten p best beaten =
    let none : need_count p - 0 ≡ need_count p = omega arith in
    subst (λ (n : ℕ). is_no_better best (option_map (cost p) (completed p [] n)) ≡ true) none beaten

-- the completion's cost
pub completion_beaten : (p : Problem) (best : Option ℕ) (cs qs : List ℕ)
    → completed p cs (need_count p - length cs) ≡ Some qs → is_no_better best (Some (cost p qs)) ≡ true
    → is_beaten p best cs ≡ true
completion_beaten p best cs qs done better =
    beaten_by p best cs (subst (λ found. is_no_better best (option_map (cost p) found) ≡ true) (sym done) better)

pub no_completion : (p : Problem) (best : Option ℕ) (cs : List ℕ) → completed p cs (need_count p - length cs) ≡ None
    → is_beaten p best cs ≡ true
no_completion p best cs none =
    beaten_by p best cs (subst (λ found. is_no_better best (option_map (cost p) found) ≡ true) (sym none) refl)

-- the best placement stays, or a new one that fits takes its place
pub best_stays : (p : Problem) (before after : Option ℕ) (old new sites : List ℕ) (c : ℕ)
    → ((after ≡ before) × (new ≡ old)) ⊎ ((after ≡ Some c) × (new ≡ sites))
    → IsCostOf p sites c → IfSome before (IsCostOf p old) → IfSome after (IsCostOf p new)
best_stays p before after old new sites c (inl same) is kept = rw (same.0, same.1) kept
best_stays p before after old new sites c (inr taken) is kept = rw (taken.0, taken.1) is
