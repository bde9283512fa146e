-- Leaves that close a node.
use Rattle.std.proofs.Common.{◌≡◌, ℕ, ◌+◌, ◌-◌, ◌≤◌, ◌<◌, ◌^◌, Bool, true, false, cond, ◌==◌, ◌&&◌, ◌||◌, List, [], length, slice_index, slice_index_or, Option, None, Some, ℤ, pos, refl, ◌∙◌, ap, subst, arith}
use Rattle.std.specs.Prelude.{int_le, nat_lt, nat_le, not}
use Rattle.std.specs.List.{All, list_all}
use Rattle.std.specs.Option.{option_map}
use Rattle.std.proofs.lemmas.Bool.{eq-eqb, le-leb, lt-ltb}
use Rattle.std.proofs.lemmas.Bool.Decides.{nat_tests}
use Rattle.std.proofs.lemmas.Int.{ints}
use Rattle.std.proofs.lemmas.List.FromFn.{length-range_with_len, get_or-range_with_len}
use Rattle.std.proofs.lemmas.List.Sums.{list_all-from_AllPass}
use Rattle.bound_certificate.specs.Limits.{IsWithin}
use Rattle.bound_certificate.specs.Problem.{Problem, site_count, need_count}
use Rattle.bound_certificate.specs.Placement.{cost, completed}
use Rattle.bound_certificate.specs.Sums.{all_below}
use Rattle.bound_certificate.specs.Node.{Part, HallPart, DualPart, FullPart, is_over, later, is_crowded, is_next_name, is_hall_set, is_dual_shape, dual_breach, dual_value, hall_fault, dual_fault, full_fault, node_fault}
use Rattle.bound_certificate.specs.Tree.{part_of, children_of, part_value, is_branch}
use Rattle.bound_certificate.specs.Floor.{floor}
use Rattle.bound_certificate.specs.Formed.{are_prices, is_formed_part}
use Rattle.bound_certificate.specs.Prices.{ArePrices}
use Rattle.bound_certificate.specs.Outcome.{completion, is_no_better, is_beaten, is_tight, is_under, first_fit_cost}
use Rattle.bound_certificate.specs.declared.tree.Tree.{Tree}
use Rattle.bound_certificate.specs.declared.tree.Tree.TheVariants.{Hall, Dual, Full}
use Rattle.bound_certificate.specs.declared.verdict.TreeWhy.TheVariants.{IsOver, Depth, HallSet, HallLoad, DualShape, DualSum}
use Rattle.bound_certificate.proofs.Trees.{part_of-Hall, part_of-Dual, part_of-Full, children_of-Hall, children_of-Dual, children_of-Full}
use Rattle.placement_search.specs.declared.progress.Progress.{Progress}
use Rattle.placement_search.specs.Kept.{IsKept, IsRoomy, reaches}
use Rattle.placement_search.specs.Leaf.{IsCrowd, IsDual, IsLeaf, IsOpen}
use Rattle.placement_search.proofs.Better.{le_itself}
use Rattle.placement_search.proofs.Capacities.{all_below-from}

pub both : (a b : Bool) → a ≡ true → b ≡ true → (a && b) ≡ true
both true b h k = k
both false b h k = cc

pub negated : (b : Bool) → b ≡ true → not b ≡ false
negated true h = refl
negated false h = cc

-- the later needs are such needs
pub later_at : (p : Problem) (d k : ℕ) → k < need_count p - d → slice_index (later p d) k ≡ d + k
unfolding later
later_at p d k below = get_or-range_with_len d (need_count p - d) k 0 below

pub length-later : (p : Problem) (d : ℕ) → length (later p d) ≡ need_count p - d
unfolding later
length-later p d = length-range_with_len d (need_count p - d)

before_next : (p : Problem) (d k : ℕ) → k < need_count p - d
    → (k == 0 || nat_lt (slice_index (later p d) (k - 1)) (slice_index (later p d) k)) ≡ true
before_next p d k below =
    let here = later_at p d k below in
    let before = later_at p d (k - 1) (omega arith) in
    grind (arith, nat_tests, here, before)

pub later_set : (p : Problem) (d : ℕ) → d < need_count p → is_hall_set p d (later p d) ≡ true
unfolding is_hall_set is_next_name
later_set p d above =
    let names = later p d in
    let size = length-later p d in
    both (nat_lt 0 (length names)) (all_below (is_next_name p d names) (length names))
    (lt-ltb 0 (length names) (omega (arith, size)))
    (all_below-from (is_next_name p d names) (length names) (λ k below.
    let within : k < need_count p - d = omega (arith, size) in
    let here = later_at p d k within in
    both (nat_le d (slice_index names k) && nat_lt (slice_index names k) (need_count p))
    (k == 0 || nat_lt (slice_index names (k - 1)) (slice_index names k))
    (both (nat_le d (slice_index names k)) (nat_lt (slice_index names k) (need_count p))
    (le-leb d (slice_index names k) (omega (arith, here)))
    (lt-ltb (slice_index names k) (need_count p) (omega (arith, here))))
    (before_next p d k within)))

-- chains of tests that none stops
pub passes_by : {X : Type 0} (b : Bool) (z : X) (y : Option X) → b ≡ false → y ≡ None → cond b (Some z) y ≡ None
passes_by true z y h k = cc
passes_by false z y h k = k

pub not_last : (m n : ℕ) → m < n → (m == n) ≡ false
not_last m n h = grind (arith, nat_tests)

-- a leaf by its part
leaf_from : (p : Problem) (cs : List ℕ) (progress : Progress) (tree : Tree) (part : Part) → part_of tree ≡ part
    → children_of tree ≡ [] → is_branch part ≡ false → node_fault p cs part ≡ None
    → is_tight p (first_fit_cost p) cs part ≡ true → is_formed_part (length cs) part ≡ true
    → (0 < progress.left → reaches progress.cost (part_value p cs part) ≡ true) → IsLeaf p cs progress tree
leaf_from p cs progress tree part is alone leaf right tight formed closed = record {
  alone = alone;
  leaf = ap is_branch is ∙ leaf;
  right = ap (node_fault p cs) is ∙ right;
  tight = ap (is_tight p (first_fit_cost p) cs) is ∙ tight;
  formed = ap (is_formed_part (length cs)) is ∙ formed;
  closed = λ left. ap (λ (part : Part). reaches progress.cost (part_value p cs part)) is ∙ closed left;
}

-- a full node is its own completion
reached_cost : (best : Option ℕ) (c : ℕ) → is_no_better best (Some c) ≡ true → reaches best (Some (pos c)) ≡ true
reached_cost None c h = cc
reached_cost (Some b) c h = le_itself b c (grind (arith, nat_tests))

full_reached : (p : Problem) (cs : List ℕ) (best : Option ℕ) → length cs ≡ need_count p → is_over p cs ≡ false
    → is_beaten p best cs ≡ true → reaches best (Some (pos (cost p cs))) ≡ true
unfolding is_beaten completion completed
full_reached p cs best size right beaten =
    let none : need_count p - length cs ≡ 0 = omega arith in
    let itself : completion p cs ≡ Some cs =
    ap (λ (b : Bool). cond {A = Option (List ℕ)} b None (completed p cs (need_count p - length cs))) right
    ∙ ap (completed p cs) none in
    reached_cost best (cost p cs) (subst (λ found. is_no_better best (option_map (cost p) found) ≡ true) itself beaten)

full_depth : (m n : ℕ) → m ≡ n → nat_lt m n ≡ false
full_depth m n h = grind (arith, nat_tests)

full_right : (p : Problem) (cs : List ℕ) → length cs ≡ need_count p → is_over p cs ≡ false
    → node_fault p cs FullPart ≡ None
unfolding node_fault full_fault
full_right p cs size right = passes_by (is_over p cs) IsOver (full_fault p cs) right
    (ap (λ (b : Bool). cond b (Some Depth) None) (full_depth (length cs) (need_count p) size))

pub full_leaf : (p : Problem) (cs : List ℕ) (progress : Progress) → length cs ≡ need_count p → IsRoomy p cs
    → is_beaten p progress.cost cs ≡ true → IsLeaf p cs progress Full
unfolding is_tight
full_leaf p cs progress size room beaten =
    leaf_from p cs progress Full FullPart part_of-Full children_of-Full refl (full_right p cs size room.last) refl refl
    (λ left. full_reached p cs progress.cost size room.last beaten)

-- a crowd
pub hall_right : (p : Problem) (cs names : List ℕ) → length cs < need_count p → is_over p cs ≡ false
    → IsCrowd p cs names → node_fault p cs (HallPart names) ≡ None
unfolding node_fault hall_fault
hall_right p cs names above right crowd =
    let load = passes_by (not (is_crowded p cs names)) HallLoad None
    (negated (is_crowded p cs names) crowd.crowded) refl in
    let set = passes_by (not (is_hall_set p (length cs) names)) HallSet
    (cond (not (is_crowded p cs names)) (Some HallLoad) None)
    (negated (is_hall_set p (length cs) names) crowd.set) load in
    passes_by (is_over p cs) IsOver (hall_fault p cs names) right
    (passes_by (length cs == need_count p) Depth
    (cond (not (is_hall_set p (length cs) names)) (Some HallSet)
    (cond (not (is_crowded p cs names)) (Some HallLoad) None)) (not_last (length cs) (need_count p) above) set)

pub formed_hall : (p : Problem) (cs names : List ℕ) → IsWithin p.sites p.needs → IsCrowd p cs names
    → is_formed_part (length cs) (HallPart names) ≡ true
formed_hall p cs names within crowd =
    both (nat_le (length names) 64) (list_all (λ x. nat_lt x 64) names) (le-leb (length names) 64 crowd.few)
    (list_all-from_AllPass (λ x. nat_lt x 64) names (λ k d below.
    let lower = crowd.known k d below in
    lt-ltb (slice_index_or names k d) 64 (omega (arith, lower, within.few_needs))))

pub hall_leaf : (p : Problem) (cs names : List ℕ) (progress : Progress) → IsWithin p.sites p.needs
    → length cs < need_count p → IsRoomy p cs → IsCrowd p cs names → IsLeaf p cs progress (Hall names)
unfolding is_tight
hall_leaf p cs names progress within above room crowd =
    leaf_from p cs progress (Hall names) (HallPart names) (part_of-Hall names) (children_of-Hall names) refl
    (hall_right p cs names above room.last crowd) refl
    (formed_hall p cs names within crowd) (λ left. refl)

-- a dual
dual_shape : (p : Problem) (cs lambda mu : List ℕ) → ArePrices p cs lambda mu → is_dual_shape p cs lambda mu ≡ true
unfolding is_dual_shape
dual_shape p cs lambda mu prices =
    both (length lambda == need_count p - length cs) (length mu == site_count p)
    (eq-eqb (length lambda) (need_count p - length cs) (omega (arith, prices.lambdas)))
    (eq-eqb (length mu) (site_count p) prices.mus)

dual_right : (p : Problem) (cs lambda mu : List ℕ) → length cs < need_count p → is_over p cs ≡ false
    → IsDual p cs lambda mu → node_fault p cs (DualPart lambda mu) ≡ None
unfolding node_fault dual_fault
dual_right p cs lambda mu above right dual =
    let breach = option_map DualSum (dual_breach p cs lambda mu) in
    let none : breach ≡ None = ap (option_map DualSum) dual.right in
    let shape = passes_by (not (is_dual_shape p cs lambda mu)) DualShape breach
    (negated (is_dual_shape p cs lambda mu) (dual_shape p cs lambda mu dual.prices)) none in
    passes_by (is_over p cs) IsOver (dual_fault p cs lambda mu) right
    (passes_by (length cs == need_count p) Depth (cond (not (is_dual_shape p cs lambda mu)) (Some DualShape) breach)
    (not_last (length cs) (need_count p) above) shape)

small_prices : (xs : List ℕ) → All (λ x. x < 2 ^ 56) xs → are_prices xs ≡ true
small_prices xs small =
    list_all-from_AllPass (λ x. nat_lt x (2 ^ 56)) xs
    (λ k d below. lt-ltb (slice_index_or xs k d) (2 ^ 56) (small k d below))

formed_dual : (p : Problem) (cs lambda mu : List ℕ) → IsWithin p.sites p.needs → ArePrices p cs lambda mu
    → is_formed_part (length cs) (DualPart lambda mu) ≡ true
formed_dual p cs lambda mu within prices =
    both (nat_le (length lambda) 64 && nat_le (length mu) 32 && are_prices lambda) (are_prices mu)
    (both (nat_le (length lambda) 64 && nat_le (length mu) 32) (are_prices lambda)
    (both (nat_le (length lambda) 64) (nat_le (length mu) 32)
    (le-leb (length lambda) 64 (omega (arith, prices.lambdas, within.few_needs)))
    (le-leb (length mu) 32 (omega (arith, prices.mus, within.few_sites))))
    (small_prices lambda prices.small_lambdas))
    (small_prices mu prices.small_mus)

closed_or : (n : ℕ) (b : Bool) → (n == 0 || b) ≡ true → 0 < n → b ≡ true
closed_or n true closed left = refl
closed_or n false closed left = grind (arith, nat_tests)

pub dual_leaf : (p : Problem) (cs lambda mu : List ℕ) (progress : Progress) → IsWithin p.sites p.needs
    → length cs < need_count p → IsRoomy p cs → IsDual p cs lambda mu
    → (progress.left == 0 || reaches progress.cost (Some (dual_value p cs lambda mu))) ≡ true
    → IsLeaf p cs progress (Dual lambda mu)
unfolding is_tight
dual_leaf p cs lambda mu progress within above room dual closed =
    leaf_from p cs progress (Dual lambda mu) (DualPart lambda mu) (part_of-Dual lambda mu)
    (children_of-Dual lambda mu) refl (dual_right p cs lambda mu above room.last dual) dual.tight
    (formed_dual p cs lambda mu within dual.prices)
    (closed_or progress.left (reaches progress.cost (Some (dual_value p cs lambda mu))) closed)

-- a node that no leaf closes
unclosed_or : (n : ℕ) (b : Bool) → (n == 0 || b) ≡ false → (0 < n) × (b ≡ false)
unclosed_or n true unclosed = grind (arith, nat_tests)
unclosed_or n false unclosed = (grind (arith, nat_tests), refl)

below_cost : (f b c : ℕ) (value : ℤ) → int_le (pos f) value ≡ true → int_le (pos b) value ≡ false → b ≤ c
    → nat_lt f c ≡ true
below_cost f b c value tight above lower = grind (arith, ints, nat_tests)

under_ceiling : (best ceiling : Option ℕ) (f : ℕ) (value : ℤ) → int_le (pos f) value ≡ true
    → reaches best (Some value) ≡ false → is_no_better best ceiling ≡ true → is_under ceiling f ≡ true
under_ceiling best None f value tight unclosed begun = refl
under_ceiling None (Some c) f value tight unclosed begun = cc
under_ceiling (Some b) (Some c) f value tight unclosed begun =
    below_cost f b c value tight unclosed (grind (arith, nat_tests))

pub still_open : (p : Problem) (cs lambda mu : List ℕ) (progress : Progress) → length cs < need_count p
    → IsKept p progress → is_crowded p cs (later p (length cs)) ≡ false → IsDual p cs lambda mu
    → (progress.left == 0 || reaches progress.cost (Some (dual_value p cs lambda mu))) ≡ false → IsOpen p cs progress
still_open p cs lambda mu progress above kept busy dual unclosed =
    let parts = unclosed_or progress.left (reaches progress.cost (Some (dual_value p cs lambda mu))) unclosed in
    record {
      above = above;
      busy = busy;
      left = parts.0;
      under = under_ceiling progress.cost (first_fit_cost p) (floor p cs)
          (dual_value p cs lambda mu) dual.tight parts.1 kept.begun;
    }
