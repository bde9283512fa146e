-- How many nodes a tree has.
use Rattle.std.proofs.Common.{◌≡◌, ℕ, ◌+◌, ◌*◌, ◌≤◌, ◌<◌, true, ◌&&◌, cond, List, [], ◌∷◌, length, map, refl, ◌∙◌, ap, arith, length-append}
use Rattle.std.specs.Prelude.{nat_le, nat_lt, sum}
use Rattle.std.specs.List.{AllByRecursion, list_all}
use Rattle.std.proofs.lemmas.Bool.{and_parts, leb-true, ltb-true}
use Rattle.std.proofs.lemmas.List.Sums.{sum_by-cons}
use Rattle.bound_certificate.specs.Problem.{Problem}
use Rattle.bound_certificate.specs.Node.{Part, BranchPart, OverPart, HallPart, DualPart, FullPart}
use Rattle.bound_certificate.specs.Tree.{is_branch, part_of, children_of, child_choices, below, visits}
use Rattle.bound_certificate.specs.Formed.{branches, nodes, is_formed_part, is_formed_at, is_formed}
use Rattle.bound_certificate.specs.declared.tree.Tree.{Tree}
use Rattle.bound_certificate.proofs.Trees.{visits-out, nodes-out, branches-out, is_formed_at-parts, fan, fan-part_of, tree_induction}

-- one more in a sum
pub sum-cons : (x : ℕ) (xs : List ℕ) → sum (x ∷ xs) ≡ x + sum xs
sum-cons x xs = sum_by-cons (λ (y : ℕ). y) x xs

-- a tree's list of nodes has as many as the tree
IsSized : Tree → Type 0
IsSized tree = (p : Problem) (cs : List ℕ) → length (visits p tree cs) ≡ nodes tree

sized_below : (ts : List Tree) → AllByRecursion IsSized ts → (p : Problem) (cs : List ℕ) (n : ℕ)
    → length (below p cs n (map (visits p) ts)) ≡ sum (map nodes ts)
unfolding IsSized
sized_below [] each p cs n = refl
sized_below (t ∷ ts) each p cs n =
    let here = each.0 p (child_choices p cs n) in
    let rest = sized_below ts each.1 p cs (n + 1) in
    simp length-append (omega (arith, here, rest, sum-cons (nodes t) (map nodes ts)))

sized : (tree : Tree) → IsSized tree
unfolding IsSized
sized = tree_induction IsSized (λ tree each p cs.
    ap (λ vs. length vs) (visits-out p tree cs)
    ∙ omega (arith, sized_below (children_of tree) each p cs 0, nodes-out tree))

pub length-visits : (p : Problem) (tree : Tree) (cs : List ℕ) → length (visits p tree cs) ≡ nodes tree
unfolding IsSized
length-visits p tree cs = sized tree p cs

pub length-below : (p : Problem) (ts : List Tree) (cs : List ℕ) (n : ℕ)
    → length (below p cs n (map (visits p) ts)) ≡ sum (map nodes ts)
length-below p [] cs n = refl
length-below p (t ∷ ts) cs n =
    simp length-append (omega
    (arith, length-visits p t (child_choices p cs n), length-below p ts cs (n + 1), sum-cons (nodes t) (map nodes ts)))

-- a formed tree has at most eight times as many nodes as Branch nodes, and one more
IsBounded : Tree → Type 0
IsBounded tree = (d : ℕ) → is_formed_at tree d ≡ true → nodes tree ≤ 8 * branches tree + 1

bounded_below : (ts : List Tree) → AllByRecursion IsBounded ts → (d : ℕ)
    → list_all (λ child. child d) (map is_formed_at ts) ≡ true
    → sum (map nodes ts) ≤ 8 * sum (map branches ts) + length ts
unfolding IsBounded
bounded_below [] each d formed = omega arith
bounded_below (t ∷ ts) each d formed =
    let parts = and_parts (is_formed_at t d) (list_all (λ child. child d) (map is_formed_at ts)) formed in
    let here = each.0 d parts.0 in
    let rest = bounded_below ts each.1 d parts.1 in
    omega (arith, here, rest, sum-cons (nodes t) (map nodes ts), sum-cons (branches t) (map branches ts))

-- a formed part has at most eight children, and none where it is no Branch
fan-le : (d : ℕ) (part : Part) → is_formed_part d part ≡ true → fan part ≤ 8 * cond {A = ℕ} (is_branch part) 1 0
unfolding fan
fan-le d (BranchPart children) formed =
    let parts = and_parts (nat_lt d 64 && nat_le 1 children) (nat_le children 8) formed in
    leb-true children 8 parts.1
fan-le d OverPart formed = omega arith
fan-le d (HallPart names) formed = omega arith
fan-le d (DualPart lambda mu) formed = omega arith
fan-le d FullPart formed = omega arith

bounded : (tree : Tree) → IsBounded tree
unfolding IsBounded
bounded = tree_induction IsBounded (λ tree each d formed.
    let parts = is_formed_at-parts tree d formed in
    let children = bounded_below (children_of tree) each (d + 1) parts.1 in
    let few = fan-le d (part_of tree) parts.0 in
    omega (arith, children, few, fan-part_of tree, nodes-out tree, branches-out tree))

pub nodes-le : (tree : Tree) (d : ℕ) → is_formed_at tree d ≡ true → nodes tree ≤ 8 * branches tree + 1
unfolding IsBounded
nodes-le tree d formed = bounded tree d formed

-- a formed tree is formed from the root
pub formed_root : (tree : Tree) → is_formed tree ≡ true → is_formed_at tree 0 ≡ true
unfolding is_formed
formed_root tree formed = (and_parts (is_formed_at tree 0) (nat_le (branches tree) 4096) formed).0

-- a formed part with children stands at a depth below 64
pub fan_depth : (d : ℕ) (part : Part) → is_formed_part d part ≡ true → 0 < fan part → d + 1 ≤ 64
unfolding fan
fan_depth d (BranchPart children) formed some =
    let outer = and_parts (nat_lt d 64 && nat_le 1 children) (nat_le children 8) formed in
    let inner = and_parts (nat_lt d 64) (nat_le 1 children) outer.0 in
    let lower : d < 64 = ltb-true d 64 inner.0 in
    omega arith
fan_depth d OverPart formed some = absurd (omega arith)
fan_depth d (HallPart names) formed some = absurd (omega arith)
fan_depth d (DualPart lambda mu) formed some = absurd (omega arith)
fan_depth d FullPart formed some = absurd (omega arith)
