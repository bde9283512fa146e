-- What a right outcome shows.
use Rattle.std.proofs.Common.{◌≡◌, ℕ, ◌-◌, ◌≤◌, ◌<◌, Bool, true, false, cond, ◌==◌, ◌&&◌, ◌||◌, ◌⊎◌, inl, inr, List, [], map, Option, None, Some, Result, Ok, Err, ℤ, pos, ◌≤ℤ◌, refl, sym, ◌∙◌, ap, subst, arith}
use Rattle.std.specs.Prelude.{not, is_some, is_none, is_ok, nat_lt, IfOk, IsTrue}
use Rattle.std.specs.Ordering.{int_eq}
use Rattle.std.specs.Option.{option_map}
use Rattle.std.proofs.lemmas.Bool.{and_parts, eqb-true}
use Rattle.std.proofs.lemmas.Int.{ints}
use Rattle.bound_certificate.specs.Limits.{IsWithin}
use Rattle.bound_certificate.specs.Problem.{Problem, need_count}
use Rattle.bound_certificate.specs.Placement.{cost, fits, completed, first_fit}
use Rattle.bound_certificate.specs.Node.{is_over}
use Rattle.bound_certificate.specs.Tree.{Visit, part_of, children_of, below, visits, first_fault, bound_of, branches_of, verdict_of}
use Rattle.bound_certificate.specs.Bound.{IsBelow}
use Rattle.bound_certificate.specs.Formed.{is_formed}
use Rattle.bound_certificate.specs.Outcome.{completion, is_no_better, is_beaten, is_tight, is_explored, are_explored, first_fit_cost, is_bound, is_best, is_spent, tree_of, judged, unless_faulty, judgement, is_faultless, is_right}
use Rattle.bound_certificate.specs.Whole.{whole}
use Rattle.bound_certificate.specs.Meaning.{IsPlaced, IsLeft, Shows}
use Rattle.bound_certificate.specs.declared.tree.Tree.{Tree}
use Rattle.bound_certificate.specs.declared.verdict.Verdict.{Verdict}
use Rattle.bound_certificate.specs.declared.verdict.TreeFault.{TreeFault}
use Rattle.bound_certificate.specs.declared.outcome.Outcome.{Outcome}
use Rattle.bound_certificate.specs.declared.outcome.Outcome.TheVariants.{Placed, Infeasible, Spent}
use Rattle.bound_certificate.specs.declared.outcome.OutcomeFault.{OutcomeFault}
use Rattle.bound_certificate.specs.declared.outcome.OutcomeFault.TheVariants.{Placement as DoesNotFit, Bound}
use Rattle.bound_certificate.proofs.Prices.{if_not}
use Rattle.bound_certificate.proofs.Exploring.{are_explored-out}
use Rattle.bound_certificate.proofs.WeakDuality.{weak_duality}
use Rattle.bound_certificate.proofs.FloorLaw.{bound-floor}
use Rattle.bound_certificate.proofs.Wholes.{branches_of-le}

-- answers of a test
not_err : {T E : Type 0} (b : Bool) (e : E) (r : Result T E) (x : T) → Ok x ≡ cond b (Err e) r
    → (b ≡ false) × (Ok x ≡ r)
not_err true e r x h = cc
not_err false e r x h = (refl, h)

is_ok_then : {T E : Type 0} (b : Bool) (y : T) (e : E) (x : T) → Ok x ≡ cond {A = Result T E} b (Ok y) (Err e)
    → (b ≡ true) × (x ≡ y)
is_ok_then true y e x h = (refl, cc)
is_ok_then false y e x h = cc

-- of two ways to end, the other one where the count is too small
closes_by : (A : Type 0) (b n w : ℕ) → A ⊎ (b ≡ n) → b ≤ w → w < n → A
closes_by A b n w (inl closes) small few = closes
closes_by A b n w (inr spent) small few = absurd (omega arith)

int_same : (x y : ℤ) → int_eq x y ≡ true → x ≡ y
int_same x y h = grind (arith, ints)

-- a bound that is a cost
bound_is : (bound : Option ℤ) (c : ℕ) → is_bound bound c ≡ true → bound ≡ Some (pos c)
bound_is None c h = cc
bound_is (Some b) c h = ap Some (int_same b (pos c) h)

or_cases : (a b : Bool) → (a || b) ≡ true → (a ≡ true) ⊎ (b ≡ true)
or_cases true b h = inl refl
or_cases false b h = inr h

-- the root's completion is first fit's placement
root_completion : (p : Problem) → completion p [] ≡ first_fit p
unfolding completion first_fit is_over
root_completion p = let none : need_count p - 0 ≡ need_count p = omega arith in ap (completed p []) none

root_beaten : (p : Problem) (best ceiling : Option ℕ) (tree : Tree)
    → are_explored p best ceiling (visits p tree []) ≡ true → is_no_better best (first_fit_cost p) ≡ true
unfolding is_explored is_beaten first_fit_cost
root_beaten p best ceiling tree all =
    let parts = and_parts (is_explored p best ceiling (record { choices = []; part = part_of tree }))
    (are_explored p best ceiling (below p [] 0 (map (visits p) (children_of tree))))
    (sym (are_explored-out p best ceiling tree []) ∙ all) in
    let root = and_parts (is_beaten p best []) (is_tight p ceiling [] (part_of tree)) parts.0 in
    subst (λ found. is_no_better best (option_map (cost p) found) ≡ true) (root_completion p) root.0

-- none at all is better than no best one only where there is none
no_cost : (found : Option ℕ) → is_no_better None found ≡ true → found ≡ None
no_cost None h = refl
no_cost (Some c) h = cc

unmapped : {X Y : Type 0} (f : X → Y) (a : Option X) → option_map f a ≡ None → a ≡ None
unmapped f None h = refl
unmapped f (Some x) h = cc

-- a bound that is a cost is below each cost only where it is the least
cost_le : (bound : Option ℤ) (c d : ℕ) → bound ≡ Some (pos c) → IsBelow bound d → c ≤ d
cost_le bound c d is below = let h : pos c ≤ℤ pos d = subst (λ b. IsBelow b d) is below in omega (arith, ints)

no_bound : (bound : Option ℤ) (d : ℕ) → is_none bound ≡ true → IsBelow bound d → ⊥
no_bound None d h below = below
no_bound (Some b) d h below = cc

verdict_bound : (p : Problem) (vs : List Visit) (verdict : Verdict) → verdict ≡ verdict_of p vs
    → verdict.bound ≡ bound_of p vs
unfolding verdict_of
verdict_bound p vs verdict is = ap (λ (v : Verdict). v.bound) is

verdict_branches : (p : Problem) (vs : List Visit) (verdict : Verdict) → verdict ≡ verdict_of p vs
    → verdict.branches ≡ branches_of vs
unfolding verdict_of
verdict_branches p vs verdict is = ap (λ (v : Verdict). v.branches) is

placed_shows : (p : Problem) (n : ℕ) (sites : List ℕ) (tree : Tree) (verdict : Verdict) → IsWithin p.sites p.needs
    → first_fault p 0 (visits p tree []) ≡ None → verdict ≡ verdict_of p (visits p tree []) → fits p sites ≡ true
    → is_best p n (visits p tree []) (cost p sites) ≡ true → IsPlaced p n sites verdict
unfolding is_best
placed_shows p n sites tree verdict within none is placed best =
    let vs = visits p tree [] in
    let c = cost p sites in
    let bound = verdict_bound p vs verdict is in
    let count = verdict_branches p vs verdict is in
    let parts = and_parts (are_explored p (Some c) (first_fit_cost p) vs)
    (is_bound (bound_of p vs) c || branches_of vs == n) best in
    let below : (placement : List ℕ) → IsTrue (fits p placement) → IsBelow verdict.bound (cost p placement) =
    λ placement fit. rw bound (weak_duality p tree placement within none fit) in
    let either = or_cases (is_bound (bound_of p vs) c) (branches_of vs == n) parts.1 in
    let closed : (verdict.bound ≡ Some (pos c)) ⊎ (verdict.branches ≡ n) =
    elim either [
      | inl closes ↦ inl (bound ∙ bound_is (bound_of p vs) c closes)
      | inr spent ↦ inr (count ∙ eqb-true (branches_of vs) n spent)
    ] in
    let tight : whole p < n → verdict.bound ≡ Some (pos c) =
    λ few. closes_by (verdict.bound ≡ Some (pos c)) verdict.branches n (whole p) closed
    (omega (arith, count, branches_of-le p tree none)) few in
    record {
      placed = placed;
      no_worse = root_beaten p (Some c) (first_fit_cost p) tree parts.0;
      below = below;
      floored = rw bound (bound-floor p (Some c) (first_fit_cost p) tree within none parts.0);
      closed = closed;
      least = λ few. (
        tight few,
        λ placement fit. cost_le verdict.bound c (cost p placement) (tight few)
            (below placement fit),
      );
    }

spent_shows : (p : Problem) (n : ℕ) (tree : Tree) (verdict : Verdict) → IsWithin p.sites p.needs
    → first_fault p 0 (visits p tree []) ≡ None → verdict ≡ verdict_of p (visits p tree [])
    → is_spent p n (visits p tree []) ≡ true → IsLeft p n verdict
unfolding is_spent first_fit_cost
spent_shows p n tree verdict within none is spent =
    let vs = visits p tree [] in
    let bound = verdict_bound p vs verdict is in
    let count = verdict_branches p vs verdict is in
    let parts = and_parts (are_explored p None None vs) (is_some (bound_of p vs) && branches_of vs == n) spent in
    let inner = and_parts (is_some (bound_of p vs)) (branches_of vs == n) parts.1 in
    let all : branches_of vs ≡ n = eqb-true (branches_of vs) n inner.1 in
    record {
      below = λ placement fit. rw bound (weak_duality p tree placement within none fit);
      floored = rw bound (bound-floor p None None tree within none parts.0);
      spent = count ∙ all;
      few = omega (arith, all, branches_of-le p tree none);
      no_first_fit = unmapped (cost p) (first_fit p)
          (no_cost (first_fit_cost p) (root_beaten p None None tree parts.0));
    }

pub shows : (p : Problem) (n : ℕ) (outcome : Outcome) (verdict : Verdict) → IsWithin p.sites p.needs
    → first_fault p 0 (visits p (tree_of outcome) []) ≡ None
    → Ok verdict ≡ judged p n (visits p (tree_of outcome) []) outcome → Shows p n outcome verdict
unfolding judged
shows p n (Placed placement tree) verdict within none right =
    let vs = visits p tree [] in
    let best = is_best p n vs (cost p placement.sites) in
    let placed = not_err (not (fits p placement.sites)) DoesNotFit
    (cond best (Ok (verdict_of p vs)) (Err Bound)) verdict right in
    let rest = is_ok_then best (verdict_of p vs) Bound verdict placed.1 in
    placed_shows p n placement.sites tree verdict within none rest.1 (if_not (fits p placement.sites) placed.0) rest.0
shows p n (Infeasible tree) verdict within none right =
    let vs = visits p tree [] in
    let rest = is_ok_then (is_none (bound_of p vs)) (verdict_of p vs) Bound verdict right in
    λ placement fit. no_bound (bound_of p vs) (cost p placement) rest.0 (weak_duality p tree placement within none fit)
shows p n (Spent tree) verdict within none right =
    let vs = visits p tree [] in
    let rest = is_ok_then (is_spent p n vs) (verdict_of p vs) Bound verdict right in
    spent_shows p n tree verdict within none rest.1 rest.0

pub shows_if_ok : (p : Problem) (n : ℕ) (outcome : Outcome) (result : Result Verdict OutcomeFault)
    → IsWithin p.sites p.needs → first_fault p 0 (visits p (tree_of outcome) []) ≡ None
    → result ≡ judged p n (visits p (tree_of outcome) []) outcome → IfOk result (Shows p n outcome)
shows_if_ok p n outcome (Ok verdict) within none right = shows p n outcome verdict within none right
shows_if_ok p n outcome (Err fault) within none right = tt

-- what is judged to be right
unless_ok : (found : Option TreeFault) (many : Bool) (rest : Result Verdict OutcomeFault) (verdict : Verdict)
    → unless_faulty found many rest ≡ Ok verdict → (found ≡ None) × (rest ≡ Ok verdict)
unless_ok (Some fault) many rest verdict is = cc
unless_ok None true rest verdict is = cc
unless_ok None false rest verdict is = (refl, is)

pub judged_shows : (p : Problem) (n : ℕ) (outcome : Outcome) (verdict : Verdict) → IsWithin p.sites p.needs
    → judgement p n outcome ≡ Ok verdict → Shows p n outcome verdict
unfolding judgement
judged_shows p n outcome verdict within is =
    let vs = visits p (tree_of outcome) [] in
    let parts = unless_ok (first_fault p 0 vs) (nat_lt n (branches_of vs)) (judged p n vs outcome) verdict is in
    shows p n outcome verdict within parts.0 (sym parts.1)

-- with the verdict of its tree
judged_verdict : (p : Problem) (n : ℕ) (vs : List Visit) (outcome : Outcome) (verdict : Verdict)
    → Ok verdict ≡ judged p n vs outcome → verdict ≡ verdict_of p vs
unfolding judged
judged_verdict p n vs (Placed placement tree) verdict is =
    let best = is_best p n vs (cost p placement.sites) in
    let rest : Result Verdict OutcomeFault = cond best (Ok (verdict_of p vs)) (Err Bound) in
    (is_ok_then best (verdict_of p vs) Bound verdict
    (not_err (not (fits p placement.sites)) DoesNotFit rest verdict is).1).1
judged_verdict p n vs (Infeasible tree) verdict is =
    (is_ok_then (is_none (bound_of p vs)) (verdict_of p vs) Bound verdict is).1
judged_verdict p n vs (Spent tree) verdict is = (is_ok_then (is_spent p n vs) (verdict_of p vs) Bound verdict is).1

ok_is : {T E : Type 0} (r : Result T E) → is_ok r ≡ true → (x : T) × (r ≡ Ok x)
ok_is (Ok x) ok = (x, refl)
ok_is (Err e) ok = cc

pub right_formed : (p : Problem) (n : ℕ) (outcome : Outcome) → is_right p n outcome ≡ true
    → is_formed (tree_of outcome) ≡ true
unfolding is_right
right_formed p n outcome right =
    (and_parts (is_formed (tree_of outcome)) (is_faultless p n outcome) right).0

pub right_judged : (p : Problem) (n : ℕ) (outcome : Outcome) → is_right p n outcome ≡ true
    → judgement p n outcome ≡ Ok (verdict_of p (visits p (tree_of outcome) []))
unfolding is_right is_faultless judgement
right_judged p n outcome right =
    let vs = visits p (tree_of outcome) [] in
    let ok = (and_parts (is_formed (tree_of outcome)) (is_ok (judgement p n outcome)) right).1 in
    let found = ok_is (judgement p n outcome) ok in
    let parts = unless_ok (first_fault p 0 vs) (nat_lt n (branches_of vs)) (judged p n vs outcome) found.0 found.1 in
    found.1 ∙ ap Ok (judged_verdict p n vs outcome found.0 (sym parts.1))

pub right_shows : (p : Problem) (n : ℕ) (outcome : Outcome) → IsWithin p.sites p.needs → is_right p n outcome ≡ true
    → Shows p n outcome (verdict_of p (visits p (tree_of outcome) []))
right_shows p n outcome within right =
    judged_shows p n outcome (verdict_of p (visits p (tree_of outcome) [])) within (right_judged p n outcome right)

-- a tree within its limits makes a faultless judgement a right outcome
pub right_where_formed : (p : Problem) (n : ℕ) (outcome : Outcome) (result : Result Verdict OutcomeFault)
    → is_formed (tree_of outcome) ≡ true → result ≡ judgement p n outcome → is_ok result ≡ is_right p n outcome
unfolding is_right is_faultless
right_where_formed p n outcome result formed is = rw formed (ap is_ok is)
