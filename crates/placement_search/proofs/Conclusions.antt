-- What a searched tree shows.
use Rattle.std.proofs.Common.{◌≡◌, ℕ, suc, zero, ◌+◌, ◌≤◌, ◌<◌, Bool, true, false, cond, ◌==◌, ◌&&◌, ◌||◌, ◌⊎◌, inl, inr, List, [], ◌∷◌, map, length, Option, None, Some, Result, Ok, Err, ℤ, pos, ◌≤ℤ◌, refl, sym, ◌∙◌, ap, subst, arith}
use Rattle.std.specs.Prelude.{is_some, is_none, is_ok, not, nat_lt, nat_le, int_le, IfSome}
use Rattle.std.specs.List.{All}
use Rattle.std.specs.Ordering.{int_eq}
use Rattle.std.specs.Option.{option_map, option_or}
use Rattle.std.proofs.lemmas.Bool.{eq-eqb, le-leb, cases_Bool}
use Rattle.std.proofs.lemmas.Bool.Decides.{nat_tests}
use Rattle.std.proofs.lemmas.Int.{ints}
use Rattle.bound_certificate.specs.Limits.{IsWithin}
use Rattle.bound_certificate.specs.Problem.{Problem, need_count}
use Rattle.bound_certificate.specs.Placement.{cost, fits}
use Rattle.bound_certificate.specs.Node.{Part, HallPart, later, is_crowded, is_hall_set, node_fault}
use Rattle.bound_certificate.specs.Tree.{Visit, children_of, visits, below, first_fault, bound_of, branches_of, verdict_of}
use Rattle.bound_certificate.specs.Bound.{IsBelow}
use Rattle.bound_certificate.specs.Formed.{branches, is_formed_at, is_formed}
use Rattle.bound_certificate.specs.Outcome.{are_explored, is_no_better, first_fit_cost, is_bound, is_best, is_spent, tree_of, judged, judgement, is_faultless, is_right}
use Rattle.bound_certificate.specs.Whole.{whole}
use Rattle.bound_certificate.specs.Meaning.{Shows}
use Rattle.bound_certificate.specs.declared.tree.Tree.{Tree}
use Rattle.bound_certificate.specs.declared.tree.Tree.TheVariants.{Hall}
use Rattle.bound_certificate.specs.declared.verdict.Verdict.{Verdict}
use Rattle.bound_certificate.specs.declared.outcome.Outcome.{Outcome}
use Rattle.bound_certificate.specs.declared.outcome.Outcome.TheVariants.{Placed, Infeasible, Spent}
use Rattle.bound_certificate.specs.declared.outcome.OutcomeFault.TheVariants.{Placement as DoesNotFit, Bound}
use Rattle.bound_certificate.proofs.Trees.{visits-out, is_formed_at-out, branches-out, part_of-Hall, children_of-Hall}
use Rattle.bound_certificate.proofs.WeakDuality.{weak_duality}
use Rattle.bound_certificate.proofs.Meanings.{right_shows}
use Rattle.placement_search.specs.declared.progress.Progress.{Progress}
use Rattle.placement_search.specs.Kept.{IsCostOf, reaches}
use Rattle.placement_search.specs.Leaf.{IsCrowd}
use Rattle.placement_search.specs.Searched.{IsTreeSearched}
use Rattle.placement_search.specs.Shown.{IsSettled, unplaced, concluded}
use Rattle.placement_search.proofs.Leaves.{both, later_set, length-later, hall_right, formed_hall}
use Rattle.placement_search.proofs.Capacities.{roomy_nothing}
use Rattle.placement_search.proofs.Composed.{branches-visits}

none_where_not_some : (bound : Option ℤ) → is_some bound ≡ false → is_none bound ≡ true
none_where_not_some None h = refl
none_where_not_some (Some b) h = cc

some_where_some : (bound : Option ℤ) → is_some bound ≡ true → is_none bound ≡ false
some_where_some None h = cc
some_where_some (Some b) h = refl

pub no_bound_of : (p : Problem) (vs : List Visit) (verdict : Verdict) → verdict ≡ verdict_of p vs
    → is_some verdict.bound ≡ false → is_none (bound_of p vs) ≡ true
unfolding verdict_of
no_bound_of p vs verdict is none =
    none_where_not_some (bound_of p vs) (sym (ap (λ (v : Verdict). is_some v.bound) is) ∙ none)

pub some_bound_of : (p : Problem) (vs : List Visit) (verdict : Verdict) → verdict ≡ verdict_of p vs
    → is_some verdict.bound ≡ true → is_none (bound_of p vs) ≡ false
unfolding verdict_of
some_bound_of p vs verdict is some =
    some_where_some (bound_of p vs) (sym (ap (λ (v : Verdict). is_some v.bound) is) ∙ some)

-- a judgement without a fault, by the tree and what the outcome says
not_more : (m n : ℕ) → m ≤ n → nat_lt n m ≡ false
not_more m n h = grind (arith, nat_tests)

right_from : (p : Problem) (n : ℕ) (outcome : Outcome) → first_fault p 0 (visits p (tree_of outcome) []) ≡ None
    → branches_of (visits p (tree_of outcome) []) ≤ n
    → is_ok (judged p n (visits p (tree_of outcome) []) outcome) ≡ true → is_faultless p n outcome ≡ true
unfolding is_faultless judgement
right_from p n outcome none few right =
    let vs = visits p (tree_of outcome) [] in
    rw (none, not_more (branches_of vs) n few) right

ok_where : {T E : Type 0} (b : Bool) (x : T) (e : E) → b ≡ true → is_ok (cond {A = Result T E} b (Ok x) (Err e)) ≡ true
ok_where true x e h = refl
ok_where false x e h = cc

ok_past : {T E : Type 0} (b : Bool) (e : E) (r : Result T E) → b ≡ true → is_ok r ≡ true
    → is_ok (cond (not b) (Err e) r) ≡ true
ok_past true e r h k = k
ok_past false e r h k = cc

infeasible_right : (p : Problem) (n : ℕ) (tree : Tree) → first_fault p 0 (visits p tree []) ≡ None
    → branches_of (visits p tree []) ≤ n → is_none (bound_of p (visits p tree [])) ≡ true
    → is_faultless p n (Infeasible tree) ≡ true
unfolding judged
infeasible_right p n tree none few bound =
    right_from p n (Infeasible tree) none few
    (ok_where (is_none (bound_of p (visits p tree []))) (verdict_of p (visits p tree [])) Bound bound)

spent_right : (p : Problem) (n : ℕ) (tree : Tree) → first_fault p 0 (visits p tree []) ≡ None
    → branches_of (visits p tree []) ≡ n → is_some (bound_of p (visits p tree [])) ≡ true
    → are_explored p None None (visits p tree []) ≡ true
    → is_faultless p n (Spent tree) ≡ true
unfolding judged is_spent
spent_right p n tree none all bound explored =
    let vs = visits p tree [] in
    let spent = both (are_explored p None None vs) (is_some (bound_of p vs) && branches_of vs == n) explored
    (both (is_some (bound_of p vs)) (branches_of vs == n) bound (eq-eqb (branches_of vs) n all)) in
    right_from p n (Spent tree) none (omega arith) (ok_where (is_spent p n vs) (verdict_of p vs) Bound spent)

placed_right : (p : Problem) (n : ℕ) (sites : List ℕ) (tree : Tree) → first_fault p 0 (visits p tree []) ≡ None
    → branches_of (visits p tree []) ≤ n → fits p sites ≡ true → is_best p n (visits p tree []) (cost p sites) ≡ true
    → is_faultless p n (Placed (record { sites = sites }) tree) ≡ true
unfolding judged
placed_right p n sites tree none few fit best =
    let vs = visits p tree [] in
    right_from p n (Placed (record { sites = sites }) tree) none few
    (ok_past (fits p sites) DoesNotFit (cond (is_best p n vs (cost p sites)) (Ok (verdict_of p vs)) (Err Bound)) fit
    (ok_where (is_best p n vs (cost p sites)) (verdict_of p vs) Bound best))

-- the bound of a tree whose best cost reaches it
same_cost : (b : ℤ) (c : ℕ) → int_le (pos c) b ≡ true → b ≤ℤ pos c → int_eq b (pos c) ≡ true
same_cost b c lower upper = grind (arith, ints, nat_tests)

bound_reached : (bound : Option ℤ) (c : ℕ) → reaches (Some c) bound ≡ true → IsBelow bound c → is_bound bound c ≡ true
bound_reached None c reached below = absurd below
bound_reached (Some b) c reached below = same_cost b c reached below

or_left : (a b : Bool) → a ≡ true → (a || b) ≡ true
or_left true b h = refl
or_left false b h = cc

or_right : (a b : Bool) → b ≡ true → (a || b) ≡ true
or_right true b h = refl
or_right false b h = h

none_or_more : (n : ℕ) → (n ≡ 0) ⊎ (0 < n)
none_or_more zero = inl refl
none_or_more (suc n) = inr (omega arith)

no_ceiling : (ceiling : Option ℕ) → is_no_better None ceiling ≡ true → ceiling ≡ None
no_ceiling None h = refl
no_ceiling (Some c) h = cc

unreached : (bound : Option ℤ) → is_none bound ≡ false → reaches None bound ≡ true → ⊥
unreached None some reached = cc
unreached (Some b) some reached = cc

not_none : (bound : Option ℤ) → is_none bound ≡ false → is_some bound ≡ true
not_none None h = cc
not_none (Some b) h = refl

unplaced_right : (p : Problem) (n left : ℕ) (tree : Tree) → first_fault p 0 (visits p tree []) ≡ None
    → are_explored p None (first_fit_cost p) (visits p tree []) ≡ true → branches_of (visits p tree []) + left ≡ n
    → (0 < left → reaches None (bound_of p (visits p tree [])) ≡ true) → is_no_better None (first_fit_cost p) ≡ true
    → is_faultless p n (unplaced p tree) ≡ true
unfolding unplaced
unplaced_right p n left tree none explored spent closed begun =
    let vs = visits p tree [] in
    elim (cases_Bool (is_none (bound_of p vs))) [
      | inl no_bound ↦ rw no_bound (infeasible_right p n tree none (omega arith) no_bound)
      | inr bound ↦
          let all : left ≡ 0 =
          elim (none_or_more left) [
            | inl nothing ↦ nothing
            | inr some ↦
                absurd (unreached (bound_of p vs) bound (closed some))
          ] in
          let first = subst (λ ceiling. are_explored p None ceiling vs ≡ true)
          (no_ceiling (first_fit_cost p) begun) explored in
          rw bound (spent_right p n tree none (omega (arith, all)) (not_none (bound_of p vs) bound) first)
    ]

best_from : (p : Problem) (n : ℕ) (vs : List Visit) (c : ℕ) → are_explored p (Some c) (first_fit_cost p) vs ≡ true
    → (is_bound (bound_of p vs) c || branches_of vs == n) ≡ true → is_best p n vs c ≡ true
unfolding is_best
best_from p n vs c explored ends =
    both (are_explored p (Some c) (first_fit_cost p) vs)
    (is_bound (bound_of p vs) c || branches_of vs == n) explored ends

concluded_by : (p : Problem) (n left : ℕ) (best : Option ℕ) (sites : List ℕ) (tree : Tree) → IsWithin p.sites p.needs
    → first_fault p 0 (visits p tree []) ≡ None → are_explored p best (first_fit_cost p) (visits p tree []) ≡ true
    → branches_of (visits p tree []) + left ≡ n → (0 < left → reaches best (bound_of p (visits p tree [])) ≡ true)
    → IfSome best (IsCostOf p sites) → is_no_better best (first_fit_cost p) ≡ true
    → is_faultless p n (concluded p best sites tree) ≡ true
unfolding concluded
concluded_by p n left None sites tree within none explored spent closed kept begun =
    unplaced_right p n left tree none explored spent closed begun
concluded_by p n left (Some c) sites tree within none explored spent closed kept begun =
    let vs = visits p tree [] in
    let below : IsBelow (bound_of p vs) c =
    subst (λ (k : ℕ). IsBelow (bound_of p vs) k) (sym kept.value) (weak_duality p tree sites within none kept.placed) in
    let ends : (is_bound (bound_of p vs) c || branches_of vs == n) ≡ true =
    elim (none_or_more left) [
      | inl nothing ↦ or_right (is_bound (bound_of p vs) c) (branches_of vs == n)
          (eq-eqb (branches_of vs) n (omega arith))
      | inr some ↦ or_left (is_bound (bound_of p vs) c) (branches_of vs == n)
          (bound_reached (bound_of p vs) c (closed some) below)
    ] in
    placed_right p n sites tree none (omega arith) kept.placed
    (subst (λ (k : ℕ). is_best p n vs k ≡ true) kept.value (best_from p n vs c explored ends))

concluded_right : (p : Problem) (n : ℕ) (before after : Progress) (tree : Tree) → IsWithin p.sites p.needs
    → before.left ≡ n → IsTreeSearched p [] before after tree
    → is_faultless p n (concluded p after.cost after.sites tree) ≡ true
concluded_right p n before after tree within all searched =
    concluded_by p n after.left after.cost after.sites tree within searched.nodes.faultless searched.nodes.explored
    (searched.nodes.spent ∙ all) searched.nodes.closed searched.nodes.kept.best searched.nodes.kept.begun

-- the tree of what is concluded is the tree
tree_of-unplaced : (p : Problem) (tree : Tree) → tree_of (unplaced p tree) ≡ tree
unfolding unplaced
tree_of-unplaced p tree =
    elim (is_none (bound_of p (visits p tree []))) as
    (λ (b : Bool). tree_of (cond b (Infeasible tree) (Spent tree)) ≡ tree) [ true ↦ refl | false ↦ refl ]

pub tree_of-concluded : (p : Problem) (best : Option ℕ) (sites : List ℕ) (tree : Tree)
    → tree_of (concluded p best sites tree) ≡ tree
unfolding concluded
tree_of-concluded p None sites tree = tree_of-unplaced p tree
tree_of-concluded p (Some c) sites tree = refl

-- a searched tree is within its limits
pub formed_searched : (p : Problem) (n : ℕ) (before after : Progress) (tree : Tree) → before.left ≡ n → n ≤ 4096
    → IsTreeSearched p [] before after tree → is_formed tree ≡ true
unfolding is_formed
formed_searched p n before after tree all few searched =
    both (is_formed_at tree 0) (nat_le (branches tree) 4096) searched.formed
    (le-leb (branches tree) 4096 (omega (arith, branches-visits p tree [], searched.nodes.spent, all)))

-- a crowd of all needs
pub all_crowd : (p : Problem) (names : List ℕ) → names ≡ later p 0 → IsWithin p.sites p.needs
    → All (λ need. need < need_count p) names → is_crowded p [] names ≡ true → IsCrowd p [] names
all_crowd p names is within known crowded = record {
  set = subst (λ (xs : List ℕ). is_hall_set p 0 xs ≡ true) (sym is) (later_set p 0 (omega (arith, within.some_needs)));
  crowded = crowded;
  known = known;
  few = omega (arith, ap (λ (xs : List ℕ). length xs) is, length-later p 0, within.few_needs);
}

hall_visits : (p : Problem) (names : List ℕ)
    → visits p (Hall names) [] ≡ record { choices = []; part = HallPart names } ∷ []
hall_visits p names =
    visits-out p (Hall names) []
    ∙ ap (λ (part : Part). record { choices = []; part = part } ∷ below p [] 0
    (map (visits p) (children_of (Hall names)))) (part_of-Hall names)
    ∙ ap (λ (ts : List Tree). record { choices = []; part = HallPart names } ∷ below p [] 0 (map (visits p) ts))
    (children_of-Hall names)

crowd_right : (p : Problem) (n : ℕ) (names : List ℕ) → 0 < need_count p → IsCrowd p [] names
    → is_faultless p n (Infeasible (Hall names)) ≡ true
unfolding first_fault bound_of branches_of
crowd_right p n names some crowd =
    let vs = hall_visits p names in
    let right : node_fault p [] (HallPart names) ≡ None = hall_right p [] names some (roomy_nothing p).last crowd in
    infeasible_right p n (Hall names)
    (ap (first_fault p 0) vs
    ∙ ap (λ found. option_or (option_map (λ why. record { node = 0; why = why }) found) None) right)
    (rw vs (omega arith)) (ap (λ (vs : List Visit). is_none (bound_of p vs)) vs)

pub crowd_faultless : (p : Problem) (names : List ℕ) → 0 < need_count p → IsCrowd p [] names
    → first_fault p 0 (visits p (Hall names) []) ≡ None
unfolding first_fault
crowd_faultless p names some crowd =
    let right : node_fault p [] (HallPart names) ≡ None = hall_right p [] names some (roomy_nothing p).last crowd in
    ap (first_fault p 0) (hall_visits p names)
    ∙ ap (λ found. option_or (option_map (λ why. record { node = 0; why = why }) found) None) right

both_refl : {a : Bool} → a ≡ true → (a && true) ≡ true
both_refl {a} h = both a true h refl

crowd_formed : (p : Problem) (names : List ℕ) → IsWithin p.sites p.needs → IsCrowd p [] names
    → is_formed (Hall names) ≡ true
unfolding is_formed
crowd_formed p names within crowd =
    let at : is_formed_at (Hall names) 0 ≡ true =
    is_formed_at-out (Hall names) 0
    ∙ rw (part_of-Hall names, children_of-Hall names) (both_refl (formed_hall p [] names within crowd)) in
    let none : branches (Hall names) ≡ 0 =
    branches-out (Hall names) ∙ rw (part_of-Hall names, children_of-Hall names) refl in
    both (is_formed_at (Hall names) 0) (nat_le (branches (Hall names)) 4096) at
    (le-leb (branches (Hall names)) 4096 (omega (arith, none)))

-- a right outcome has a tree within its limits, and its judgement has no fault
right_of : (p : Problem) (n : ℕ) (outcome : Outcome) → is_formed (tree_of outcome) ≡ true
    → is_faultless p n outcome ≡ true → is_right p n outcome ≡ true
unfolding is_right
right_of p n outcome formed faultless = both (is_formed (tree_of outcome)) (is_faultless p n outcome) formed faultless

pub concluded_is_right : (p : Problem) (n : ℕ) (before after : Progress) (tree : Tree) → IsWithin p.sites p.needs
    → before.left ≡ n → n ≤ 4096 → IsTreeSearched p [] before after tree
    → is_right p n (concluded p after.cost after.sites tree) ≡ true
concluded_is_right p n before after tree within all few searched =
    right_of p n (concluded p after.cost after.sites tree)
    (ap is_formed (tree_of-concluded p after.cost after.sites tree)
    ∙ formed_searched p n before after tree all few searched)
    (concluded_right p n before after tree within all searched)

pub crowd_is_right : (p : Problem) (n : ℕ) (names : List ℕ) → IsWithin p.sites p.needs → IsCrowd p [] names
    → is_right p n (Infeasible (Hall names)) ≡ true
crowd_is_right p n names within crowd =
    right_of p n (Infeasible (Hall names)) (crowd_formed p names within crowd)
    (crowd_right p n names (omega (arith, within.some_needs)) crowd)

-- a right outcome with more Branch nodes than a tree can have
bound_from : (p : Problem) (vs : List Visit) (verdict : Verdict) → verdict ≡ verdict_of p vs
    → bound_of p vs ≡ verdict.bound
unfolding verdict_of
bound_from p vs verdict is = sym (ap (λ (v : Verdict). v.bound) is)

shown_settled : (p : Problem) (n : ℕ) (outcome : Outcome) (verdict : Verdict) → whole p < n
    → verdict ≡ verdict_of p (visits p (tree_of outcome) []) → Shows p n outcome verdict → IsSettled p outcome
shown_settled p n (Placed placement tree) verdict few is shown =
    let least = shown.least few in
    (shown.placed, least.1, bound_from p (visits p tree []) verdict is ∙ least.0)
shown_settled p n (Infeasible tree) verdict few is shown = shown
shown_settled p n (Spent tree) verdict few is shown = absurd (omega (arith, shown.few))

pub right_settled : (p : Problem) (n : ℕ) (outcome : Outcome) → IsWithin p.sites p.needs
    → is_right p n outcome ≡ true → whole p < n → IsSettled p outcome
right_settled p n outcome within right few =
    shown_settled p n outcome (verdict_of p (visits p (tree_of outcome) [])) few refl
    (right_shows p n outcome within right)
