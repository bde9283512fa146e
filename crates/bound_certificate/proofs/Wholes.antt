-- A tree without a fault has no more Branch nodes than the whole tree.
use Rattle.std.proofs.Common.{◌≡◌, ℕ, zero, suc, ◌+◌, ◌*◌, ◌≤◌, cond, List, [], ◌∷◌, length, map, None, refl, sym, ◌∙◌, ap, subst, arith, mul_assoc, mul_comm}
use Rattle.std.specs.List.{AllByRecursion}
use Rattle.std.proofs.lemmas.List.{nil_from_length}
use Rattle.bound_certificate.specs.Sums.{sum_below}
use Rattle.bound_certificate.specs.Whole.{product_below, via_size, whole}
use Rattle.bound_certificate.specs.Problem.{Problem, need_count}
use Rattle.bound_certificate.specs.Node.{Part, BranchPart, OverPart, HallPart, DualPart, FullPart, node_fault}
use Rattle.bound_certificate.specs.Tree.{part_of, children_of, child_choices, below, visits, first_fault, is_branch, branches_of}
use Rattle.bound_certificate.specs.declared.tree.Tree.{Tree}
use Rattle.bound_certificate.proofs.Trees.{visits-out, fan, fan-part_of, tree_induction}
use Rattle.bound_certificate.proofs.Verdicts.{first_fault-append, branches_of-append}
use Rattle.bound_certificate.proofs.Nodes.{branch_right, none_first, node_is_right, length-child_choices}
use Rattle.bound_certificate.proofs.Sums.{sum_below-same, sum_below-times, sum_below-first}

-- the same count, depth by depth from d down
abbrev whole_from : Problem → ℕ → ℕ → ℕ
whole_from p d zero = 0
whole_from p d (suc r) = 1 + via_size p d * whole_from p (d + 1) r

product_below-first : (f : ℕ → ℕ) (n : ℕ) → product_below f (suc n) ≡ f 0 * product_below (λ i. f (suc i)) n
product_below-first f zero = omega arith
product_below-first f (suc n) =
    ap (λ (x : ℕ). x * f (suc n)) (product_below-first f n)
    ∙ mul_assoc (f 0) (product_below (λ i. f (suc i)) n) (f (suc n))

product_below-same : (f g : ℕ → ℕ) (n : ℕ) → ((i : ℕ) → f i ≡ g i) → product_below f n ≡ product_below g n
product_below-same f g zero each = refl
product_below-same f g (suc n) each =
    ap (λ (x : ℕ). x * f n) (product_below-same f g n each) ∙ ap (λ (x : ℕ). product_below g n * x) (each n)

from_depth : (p : Problem) (d r : ℕ) → sum_below (λ k. product_below (λ i. via_size p (d + i)) k) r ≡ whole_from p d r
from_depth p d zero = refl
from_depth p d (suc r) =
    let f : ℕ → ℕ = λ i. via_size p (d + i) in
    let next : ℕ → ℕ = λ i. via_size p ((d + 1) + i) in
    let moved : (i : ℕ) → f (suc i) ≡ next i =
    λ i. let same : d + suc i ≡ (d + 1) + i = omega arith in ap (via_size p) same in
    let first = sum_below-first (λ k. product_below f k) r in
    let each = sum_below-same (λ k. product_below f (suc k)) (λ k. product_below next k * f 0) r (λ k below.
    product_below-first f k ∙ ap (λ (x : ℕ). f 0 * x) (product_below-same (λ i. f (suc i)) next k moved)
    ∙ mul_comm (f 0) (product_below next k)) in
    let factor = sum_below-times (λ k. product_below next k) (f 0) r in
    let deeper = from_depth p (d + 1) r in
    let start : f 0 ≡ via_size p d = let same : d + 0 ≡ d = omega arith in ap (via_size p) same in
    first ∙ ap (λ (x : ℕ). 1 + x)
    (each ∙ factor ∙ ap (λ (x : ℕ). x * f 0) deeper ∙ ap (λ (x : ℕ). whole_from p (d + 1) r * x) start
    ∙ mul_comm (whole_from p (d + 1) r) (via_size p d))

whole-from : (p : Problem) → whole p ≡ whole_from p 0 (need_count p)
unfolding whole
whole-from p =
    sum_below-same (λ k. product_below (via_size p) k) (λ k. product_below (λ i. via_size p (0 + i)) k) (need_count p)
    (λ k below.
    product_below-same (via_size p) (λ i. via_size p (0 + i)) k
    (λ i. let same : i ≡ 0 + i = omega arith in ap (via_size p) same))
    ∙ from_depth p 0 (need_count p)

IsSmall : Problem → Tree → Type 0
IsSmall p tree = (cs : List ℕ) (n r : ℕ) → length cs + r ≡ need_count p → first_fault p n (visits p tree cs) ≡ None
    → branches_of (visits p tree cs) ≤ whole_from p (length cs) r

small_below : (p : Problem) (ts : List Tree) → AllByRecursion (IsSmall p) ts → (cs : List ℕ) (j m r : ℕ)
    → (length cs + 1) + r ≡ need_count p → first_fault p m (below p cs j (map (visits p) ts)) ≡ None
    → branches_of (below p cs j (map (visits p) ts)) ≤ length ts * whole_from p (length cs + 1) r
unfolding IsSmall branches_of
small_below p [] small cs j m r size none = omega arith
small_below p (t ∷ ts) small cs j m r size none =
    let here = visits p t (child_choices p cs j) in
    let others = below p cs (j + 1) (map (visits p) ts) in
    let depth = length-child_choices p cs j in
    let parts = none_first (first_fault p m here) (first_fault p (m + length here) others)
    (sym (first_fault-append p m here others) ∙ none) in
    let deep : length (child_choices p cs j) + r ≡ need_count p = omega (arith, depth, size) in
    let child = small.0 (child_choices p cs j) m r deep parts.0 in
    let child_le : branches_of here ≤ whole_from p (length cs + 1) r =
    subst (λ (d : ℕ). branches_of here ≤ whole_from p d r) depth child in
    let rest = small_below p ts small.1 cs (j + 1) (m + length here) r size parts.1 in
    let both = branches_of-append here others in
    grind (arith, child_le, rest, both)

part_small : (p : Problem) (cs : List ℕ) (m r : ℕ) (part : Part) (ts : List Tree) → AllByRecursion (IsSmall p) ts
    → length ts ≡ fan part → length cs + r ≡ need_count p → node_fault p cs part ≡ None
    → first_fault p m (below p cs 0 (map (visits p) ts)) ≡ None
    → cond {A = ℕ} (is_branch part) 1 0 + branches_of (below p cs 0 (map (visits p) ts)) ≤ whole_from p (length cs) r
unfolding fan branches_of
part_small p cs m zero (BranchPart n) ts small size depth right none =
    let branching = branch_right p cs n right in
    absurd (branching.above (omega arith))
part_small p cs m (suc r) (BranchPart n) ts small size depth right none =
    let branching = branch_right p cs n right in
    let deeper : (length cs + 1) + r ≡ need_count p = omega arith in
    let children = small_below p ts small cs 0 m r deeper none in
    let same : length ts * whole_from p (length cs + 1) r ≡ via_size p (length cs) * whole_from p (length cs + 1) r =
    ap (λ (k : ℕ). k * whole_from p (length cs + 1) r) (size ∙ branching.size) in
    omega (arith, children, same)
part_small p cs m r OverPart ts small size depth right none = rw (nil_from_length ts size) (omega arith)
part_small p cs m r (HallPart names) ts small size depth right none = rw (nil_from_length ts size) (omega arith)
part_small p cs m r (DualPart lambda mu) ts small size depth right none = rw (nil_from_length ts size) (omega arith)
part_small p cs m r FullPart ts small size depth right none = rw (nil_from_length ts size) (omega arith)

branches_of-out : (p : Problem) (tree : Tree) (cs : List ℕ)
    → branches_of (visits p tree cs) ≡ cond {A = ℕ} (is_branch (part_of tree)) 1 0 + branches_of
    (below p cs 0 (map (visits p) (children_of tree)))
unfolding branches_of
branches_of-out p tree cs = ap branches_of (visits-out p tree cs)

all_small : (p : Problem) (tree : Tree) → IsSmall p tree
unfolding IsSmall
all_small p = tree_induction (IsSmall p) (λ tree children cs n r depth none.
    let right = node_is_right p tree cs n none in
    let small = part_small p cs (n + 1) r (part_of tree) (children_of tree) children
    (fan-part_of tree) depth right.0 right.1 in
    omega (arith, small, branches_of-out p tree cs))

pub branches_of-le : (p : Problem) (tree : Tree) → first_fault p 0 (visits p tree []) ≡ None
    → branches_of (visits p tree []) ≤ whole p
unfolding IsSmall
branches_of-le p tree none =
    let small = all_small p tree [] 0 (need_count p) (omega arith) none in
    omega (arith, small, whole-from p)
