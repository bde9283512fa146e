-- Weak duality of a whole tree: where no node is wrong, no placement that fits costs less than the bound.
use Rattle.std.proofs.Common.{◌≡◌, ℕ, zero, suc, ◌+◌, ◌-◌, ◌≤◌, ◌<◌, Bool, true, false, cond, ◌==◌, ◌&&◌, ◌||◌, List, [], ◌∷◌, length, map, slice_index, Option, None, Some, ℤ, pos, ◌≤ℤ◌, refl, sym, ◌∙◌, ap, subst, arith}
use Rattle.std.specs.Prelude.{nat_lt, nat_le, not}
use Rattle.std.specs.List.{AllByRecursion}
use Rattle.std.specs.Option.{option_map}
use Rattle.std.specs.Int.{int_min}
use Rattle.std.proofs.lemmas.Bool.{ltb-true, leb-true, and_parts, eqb-true}
use Rattle.std.proofs.lemmas.Bool.Decides.{nat_tests}
use Rattle.std.proofs.lemmas.Int.{ints}
use Rattle.bound_certificate.specs.Sums.{all_below, has}
use Rattle.bound_certificate.specs.Limits.{IsWithin}
use Rattle.bound_certificate.specs.Problem.{Problem, site_count, need_count, capacity, via}
use Rattle.bound_certificate.specs.Placement.{given, cost, is_within_capacity, fits, AreChoices}
use Rattle.bound_certificate.specs.Node.{Part, BranchPart, OverPart, HallPart, DualPart, FullPart, is_over, is_crowded, is_next_name, is_hall_set, is_dual_shape, dual_breach, dual_value, over_fault, hall_fault, dual_fault, full_fault, node_fault}
use Rattle.bound_certificate.specs.Tree.{part_of, children_of, child_choices, below, visits, first_fault, part_value, lesser, bound_of, is_branch}
use Rattle.bound_certificate.specs.Bound.{IsBelow}
use Rattle.bound_certificate.specs.declared.tree.Tree.{Tree}
use Rattle.bound_certificate.specs.declared.verdict.TreeWhy.TheVariants.{NotOver, IsOver, Depth, HallSet, HallLoad, DualShape, DualSum}
use Rattle.bound_certificate.proofs.Below.{all_below-at}
use Rattle.bound_certificate.proofs.Prices.{if_none, if_not}
use Rattle.bound_certificate.proofs.Trees.{visits-out, fan, fan-part_of, tree_induction}
use Rattle.bound_certificate.proofs.Verdicts.{first_fault-append, bound_of-append}
use Rattle.bound_certificate.proofs.Nodes.{none_first, none_mapped, node_is_right, branch_right, choices_more}
use Rattle.bound_certificate.proofs.Fitting.{IsFitting, fitting, Extends, extends_nothing, has-place, extends_child, given-le, cost-le}
use Rattle.bound_certificate.proofs.Duality.{not_crowded, dual_le, dual_below}

-- the lesser of two bounds is below what either is below
int_min_left : (x y z : ℤ) → x ≤ℤ z → int_min x y ≤ℤ z
int_min_left x y z h = grind (arith, ints, nat_tests)

int_min_right : (x y z : ℤ) → y ≤ℤ z → int_min x y ≤ℤ z
int_min_right x y z h = grind (arith, ints, nat_tests)

lesser_left : (a b : Option ℤ) (c : ℕ) → IsBelow a c → IsBelow (lesser a b) c
lesser_left None b c is = absurd is
lesser_left (Some x) None c is = is
lesser_left (Some x) (Some y) c is = int_min_left x y (pos c) is

lesser_right : (a b : Option ℤ) (c : ℕ) → IsBelow b c → IsBelow (lesser a b) c
lesser_right None b c is = is
lesser_right (Some x) None c is = absurd is
lesser_right (Some x) (Some y) c is = int_min_right x y (pos c) is

if_some : {X : Type 0} (b : Bool) (z : X) → cond b None (Some z) ≡ None → b ≡ true
if_some true z h = refl
if_some false z h = cc

-- no placement that fits goes on from a node that is over
over_absurd : (p : Problem) (cs qs : List ℕ) → IsFitting p qs → Extends cs qs → is_over p cs ≡ true → ⊥
unfolding is_over is_within_capacity
over_absurd p cs qs fit extends over =
    let last = length cs - 1 in
    let s = slice_index cs last in
    let parts = and_parts (nat_lt 0 (length cs)) (not (nat_le (given p cs s) (capacity p s))) over in
    let some : 0 < length cs = ltb-true 0 (length cs) parts.0 in
    let above : capacity p s < given p cs s = grind (arith, nat_tests, parts.1) in
    let same : slice_index qs last ≡ s = extends.same last (omega arith) in
    let known : s < site_count p =
    subst (λ (site : ℕ). site < site_count p) same (fit.known last (omega (arith, fit.size, extends.few))) in
    omega (arith, above, fit.room s known, given-le p cs qs s extends)

-- nor from a crowded one
hall_later : (p : Problem) (d : ℕ) (names : List ℕ) → is_hall_set p d names ≡ true → (i : ℕ) → has names i ≡ true
    → d ≤ i
unfolding is_hall_set is_next_name
hall_later p d names hall i named =
    let place = has-place names i named in
    let k = place.0 in
    let each = (and_parts (nat_lt 0 (length names)) (all_below (is_next_name p d names) (length names)) hall).1 in
    let here = all_below-at (is_next_name p d names) (length names) k each place.1.within in
    let outer = and_parts (nat_le d (slice_index names k) && nat_lt (slice_index names k) (need_count p))
    (k == 0 || nat_lt (slice_index names (k - 1)) (slice_index names k)) here in
    let inner = and_parts (nat_le d (slice_index names k)) (nat_lt (slice_index names k) (need_count p)) outer.0 in
    let lower : d ≤ slice_index names k = leb-true d (slice_index names k) inner.0 in
    omega (arith, lower, place.1.is)

hall_absurd : (p : Problem) (cs qs names : List ℕ) → IsFitting p qs → Extends cs qs → hall_fault p cs names ≡ None → ⊥
unfolding hall_fault
hall_absurd p cs qs names fit extends right =
    let crowded = is_crowded p cs names in
    let load = cond (not crowded) (Some HallLoad) None in
    let set = cond (not (is_hall_set p (length cs) names)) (Some HallSet) load in
    let depth = if_none (length cs == need_count p) Depth set right in
    let hall = if_none (not (is_hall_set p (length cs) names)) HallSet load depth.1 in
    let rest = if_none (not crowded) HallLoad None hall.1 in
    let is : crowded ≡ true = if_not crowded rest.0 in
    let no_crowd = not_crowded p cs qs names fit extends
    (hall_later p (length cs) names (if_not (is_hall_set p (length cs) names) hall.0)) in
    cc

dual_is_below : (p : Problem) (cs qs lambda mu : List ℕ) → AreChoices p cs → IsFitting p qs → Extends cs qs
    → dual_fault p cs lambda mu ≡ None → dual_value p cs lambda mu ≤ℤ pos (cost p qs)
unfolding dual_fault is_dual_shape
dual_is_below p cs qs lambda mu are fit extends right =
    let breach = option_map DualSum (dual_breach p cs lambda mu) in
    let shape = is_dual_shape p cs lambda mu in
    let depth = if_none (length cs == need_count p) Depth (cond (not shape) (Some DualShape) breach) right in
    let inner = if_none (not shape) DualShape breach depth.1 in
    let sizes = and_parts (length lambda == need_count p - length cs) (length mu == site_count p)
    (if_not shape inner.0) in
    let size : length lambda ≡ need_count p - length cs = eqb-true (length lambda) (need_count p - length cs) sizes.0 in
    dual_below p cs qs lambda mu
    (dual_le p cs qs lambda mu fit extends (omega (arith, size, are.few))
    (none_mapped DualSum (dual_breach p cs lambda mu) inner.1))

-- a leaf that is right is below the cost of each placement that goes on from it
leaf_below : (p : Problem) (cs qs : List ℕ) (part : Part) → is_branch part ≡ false → AreChoices p cs → IsFitting p qs
    → Extends cs qs → node_fault p cs part ≡ None → IsBelow (part_value p cs part) (cost p qs)
unfolding node_fault over_fault full_fault
leaf_below p cs qs (BranchPart children) leaf are fit extends right = cc
leaf_below p cs qs OverPart leaf are fit extends right =
    over_absurd p cs qs fit extends (if_some (is_over p cs) NotOver right)
leaf_below p cs qs (HallPart names) leaf are fit extends right =
    hall_absurd p cs qs names fit extends (if_none (is_over p cs) IsOver (hall_fault p cs names) right).1
leaf_below p cs qs (DualPart lambda mu) leaf are fit extends right =
    dual_is_below p cs qs lambda mu are fit extends (if_none (is_over p cs) IsOver (dual_fault p cs lambda mu) right).1
leaf_below p cs qs FullPart leaf are fit extends right = let less = cost-le p cs qs extends in omega (arith, ints)

-- the claim, of one tree
IsSound : Problem → Tree → Type 0
IsSound p tree = (cs qs : List ℕ) (n : ℕ) → AreChoices p cs → IsFitting p qs → Extends cs qs
    → first_fault p n (visits p tree cs) ≡ None → IsBelow (bound_of p (visits p tree cs)) (cost p qs)

-- the child that the placement goes on through carries the claim to the children together
in_child : (p : Problem) (ts : List Tree) → AllByRecursion (IsSound p) ts → (cs qs : List ℕ) (j k x m : ℕ) → j + k ≡ x
    → k < length ts → AreChoices p (child_choices p cs x) → IsFitting p qs → Extends (child_choices p cs x) qs
    → first_fault p m (below p cs j (map (visits p) ts)) ≡ None
    → IsBelow (bound_of p (below p cs j (map (visits p) ts))) (cost p qs)
unfolding IsSound
in_child p [] sound cs qs j k x m at within are fit extends none = absurd (omega arith)
in_child p (t ∷ ts) sound cs qs j zero x m at within are fit extends none =
    let here = visits p t (child_choices p cs j) in
    let others = below p cs (j + 1) (map (visits p) ts) in
    let same : x ≡ j = omega arith in
    let parts = none_first (first_fault p m here) (first_fault p (m + length here) others)
    (sym (first_fault-append p m here others) ∙ none) in
    let child = sound.0 (child_choices p cs j) qs m
    (subst (λ (k : ℕ). AreChoices p (child_choices p cs k)) same are) fit
    (subst (λ (k : ℕ). Extends (child_choices p cs k) qs) same extends) parts.0 in
    subst (λ bound. IsBelow bound (cost p qs)) (sym (bound_of-append p here others))
    (lesser_left (bound_of p here) (bound_of p others) (cost p qs) child)
in_child p (t ∷ ts) sound cs qs j (suc k) x m at within are fit extends none =
    let here = visits p t (child_choices p cs j) in
    let others = below p cs (j + 1) (map (visits p) ts) in
    let next : (j + 1) + k ≡ x = omega arith in
    let parts = none_first (first_fault p m here) (first_fault p (m + length here) others)
    (sym (first_fault-append p m here others) ∙ none) in
    let later = in_child p ts sound.1 cs qs (j + 1) k x (m + length here) next (omega arith) are fit extends parts.1 in
    subst (λ bound. IsBelow bound (cost p qs)) (sym (bound_of-append p here others))
    (lesser_right (bound_of p here) (bound_of p others) (cost p qs) later)

-- a Branch: the placement chooses one of the next need's sites
branch_sound : (p : Problem) (cs qs : List ℕ) (n m : ℕ) (ts : List Tree) → AllByRecursion (IsSound p) ts
    → length ts ≡ n → AreChoices p cs → IsFitting p qs → Extends cs qs → node_fault p cs (BranchPart n) ≡ None
    → first_fault p m (below p cs 0 (map (visits p) ts)) ≡ None
    → IsBelow (bound_of p (below p cs 0 (map (visits p) ts))) (cost p qs)
branch_sound p cs qs n m ts sound size are fit extends right none =
    let branching = branch_right p cs n right in
    let above : length cs < need_count p = grind (arith, branching.above, are.few) in
    let place = has-place (via p (length cs)) (slice_index qs (length cs)) (fit.chosen (length cs) above) in
    let k = place.0 in
    in_child p ts sound cs qs 0 k k m (omega arith) (omega (arith, size, branching.size, place.1.within))
    (choices_more p cs k are above place.1.within) fit
    (extends_child p cs qs k extends (omega (arith, above, fit.size)) place.1) none

-- the bound of a tree is the lesser of its root's and of those below it
bound_of-out : (p : Problem) (tree : Tree) (cs : List ℕ)
    → bound_of p (visits p tree cs) ≡ lesser (part_value p cs (part_of tree))
    (bound_of p (below p cs 0 (map (visits p) (children_of tree))))
unfolding bound_of
bound_of-out p tree cs = ap (bound_of p) (visits-out p tree cs)

part_sound : (p : Problem) (cs qs : List ℕ) (m : ℕ) (part : Part) (ts : List Tree) → AllByRecursion (IsSound p) ts
    → length ts ≡ fan part → AreChoices p cs → IsFitting p qs → Extends cs qs → node_fault p cs part ≡ None
    → first_fault p m (below p cs 0 (map (visits p) ts)) ≡ None
    → IsBelow (lesser (part_value p cs part) (bound_of p (below p cs 0 (map (visits p) ts)))) (cost p qs)
unfolding fan
part_sound p cs qs m (BranchPart n) ts sound size are fit extends right none =
    branch_sound p cs qs n m ts sound size are fit extends right none
part_sound p cs qs m OverPart ts sound size are fit extends right none =
    lesser_left None (bound_of p (below p cs 0 (map (visits p) ts))) (cost p qs)
    (leaf_below p cs qs OverPart refl are fit extends right)
part_sound p cs qs m (HallPart names) ts sound size are fit extends right none =
    lesser_left None (bound_of p (below p cs 0 (map (visits p) ts))) (cost p qs)
    (leaf_below p cs qs (HallPart names) refl are fit extends right)
part_sound p cs qs m (DualPart lambda mu) ts sound size are fit extends right none =
    lesser_left (Some (dual_value p cs lambda mu)) (bound_of p (below p cs 0 (map (visits p) ts))) (cost p qs)
    (leaf_below p cs qs (DualPart lambda mu) refl are fit extends right)
part_sound p cs qs m FullPart ts sound size are fit extends right none =
    lesser_left (Some (pos (cost p cs))) (bound_of p (below p cs 0 (map (visits p) ts))) (cost p qs)
    (leaf_below p cs qs FullPart refl are fit extends right)

sound : (p : Problem) (tree : Tree) → IsSound p tree
unfolding IsSound
sound p = tree_induction (IsSound p) (λ tree children cs qs n are fit extends none.
    let right = node_is_right p tree cs n none in
    subst (λ bound. IsBelow bound (cost p qs)) (sym (bound_of-out p tree cs))
    (part_sound p cs qs (n + 1) (part_of tree) (children_of tree) children
    (fan-part_of tree) are fit extends right.0 right.1))

pub weak_duality : (p : Problem) (tree : Tree) (qs : List ℕ) → IsWithin p.sites p.needs
    → first_fault p 0 (visits p tree []) ≡ None → fits p qs ≡ true → IsBelow (bound_of p (visits p tree [])) (cost p qs)
unfolding IsSound
weak_duality p tree qs within none fit =
    sound p tree [] qs 0 (record { few = omega arith; each = λ i below. absurd (omega arith) })
    (fitting p qs within fit) (extends_nothing qs) none
