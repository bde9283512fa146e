-- Trees, layer by layer.
use Rattle.std.proofs.Common.{◌≡◌, ℕ, ◌+◌, Bool, true, ◌&&◌, cond, List, [], ◌∷◌, length, map, refl, sym, ◌∙◌, ap, subst, rules}
use Rattle.std.specs.Prelude.{sum}
use Rattle.std.specs.List.{AllByRecursion, list_all}
use Rattle.std.proofs.lemmas.Bool.{and_parts}
use Rattle.std.proofs.lemmas.List.{length-map}
use Rattle.bound_certificate.specs.Problem.{Problem}
use Rattle.bound_certificate.specs.Node.{Part, BranchPart, OverPart, HallPart, DualPart, FullPart}
use Rattle.bound_certificate.specs.Tree.{Visit, part_step, children_step, is_branch, part_of, children_of, below, visits_step, visits}
use Rattle.bound_certificate.specs.Formed.{branches_step, branches, nodes_step, nodes, is_formed_part, formed_step, is_formed_at}
use Rattle.bound_certificate.specs.declared.tree.Tree.{Tree}
use Rattle.bound_certificate.specs.declared.tree.Tree.TheOpen.{Tree-F}
use Rattle.bound_certificate.specs.declared.tree.Tree.TheFolds.{fold-Tree, map-Tree, fold_out-Tree, ind-Tree}
use Rattle.bound_certificate.specs.declared.tree.Tree.TheViews.{out-Tree, roll-Tree, the_lemmas}
use Rattle.bound_certificate.specs.declared.tree.Tree.TheVariants.{Branch, Over, Hall, Dual, Full}

-- a variant's part and children
pub part_of-Branch : (ts : List Tree) → part_of (Branch ts) ≡ BranchPart (length ts)
part_of-Branch ts = search (rules, the_lemmas)

pub part_of-Over : part_of Over ≡ OverPart
part_of-Over = search (rules, the_lemmas)

pub part_of-Hall : (names : List ℕ) → part_of (Hall names) ≡ HallPart names
part_of-Hall names = search (rules, the_lemmas)

pub part_of-Dual : (lambda mu : List ℕ) → part_of (Dual lambda mu) ≡ DualPart lambda mu
part_of-Dual lambda mu = search (rules, the_lemmas)

pub part_of-Full : part_of Full ≡ FullPart
part_of-Full = search (rules, the_lemmas)

pub children_of-Branch : (ts : List Tree) → children_of (Branch ts) ≡ ts
children_of-Branch ts = search (rules, the_lemmas)

pub children_of-Over : children_of Over ≡ []
children_of-Over = search (rules, the_lemmas)

pub children_of-Hall : (names : List ℕ) → children_of (Hall names) ≡ []
children_of-Hall names = search (rules, the_lemmas)

pub children_of-Dual : (lambda mu : List ℕ) → children_of (Dual lambda mu) ≡ []
children_of-Dual lambda mu = search (rules, the_lemmas)

pub children_of-Full : children_of Full ≡ []
children_of-Full = search (rules, the_lemmas)

-- mapping over the children changes no part, and maps the children
pub part_step-map : {X Y : Type 0} (f : X → Y) (layer : Tree-F X) → part_step (map-Tree X Y f layer) ≡ part_step layer
part_step-map f (Tree-F.Branch xs) = ap BranchPart (length-map xs f)
part_step-map f Tree-F.Over = refl
part_step-map f (Tree-F.Hall names) = refl
part_step-map f (Tree-F.Dual lambda mu) = refl
part_step-map f Tree-F.Full = refl

pub children_step-map : {X Y : Type 0} (f : X → Y) (layer : Tree-F X)
    → children_step (map-Tree X Y f layer) ≡ map f (children_step layer)
children_step-map f (Tree-F.Branch xs) = refl
children_step-map f Tree-F.Over = refl
children_step-map f (Tree-F.Hall names) = refl
children_step-map f (Tree-F.Dual lambda mu) = refl
children_step-map f Tree-F.Full = refl

-- the nodes of a tree: the node itself, and those below it
pub visits-out : (p : Problem) (tree : Tree) (cs : List ℕ)
    → visits p tree cs ≡ record { choices = cs; part = part_of tree } ∷ below p cs 0 (map (visits p) (children_of tree))
unfolding visits
visits-out p tree cs =
    let fold = fold-Tree (List ℕ → List Visit) (visits_step p) in
    let layer = map-Tree Tree (List ℕ → List Visit) fold (out-Tree tree) in
    let opened : visits p tree cs ≡ visits_step p layer cs =
    ap (λ (f : List ℕ → List Visit). f cs) (fold_out-Tree (List ℕ → List Visit) (visits_step p) tree) in
    opened
    ∙ ap (λ (part : Part). record { choices = cs; part = part } ∷ below p cs 0 (children_step layer))
    (part_step-map fold (out-Tree tree))
    ∙ ap (λ children. record { choices = cs; part = part_of tree } ∷ below p cs 0 children)
    (children_step-map fold (out-Tree tree))

-- the same for the other folds
pub nodes-out : (tree : Tree) → nodes tree ≡ 1 + sum (map nodes (children_of tree))
unfolding nodes
nodes-out tree =
    let fold = fold-Tree ℕ nodes_step in
    fold_out-Tree ℕ nodes_step tree ∙ ap (λ (counts : List ℕ). 1 + sum counts) (children_step-map fold (out-Tree tree))

pub branches-out : (tree : Tree)
    → branches tree ≡ cond {A = ℕ} (is_branch (part_of tree)) 1 0 + sum (map branches (children_of tree))
unfolding branches
branches-out tree =
    let fold = fold-Tree ℕ branches_step in
    let layer = map-Tree Tree ℕ fold (out-Tree tree) in
    fold_out-Tree ℕ branches_step tree
    ∙ ap (λ (part : Part). cond {A = ℕ} (is_branch part) 1 0 + sum (children_step layer))
    (part_step-map fold (out-Tree tree))
    ∙ ap (λ (counts : List ℕ). cond {A = ℕ} (is_branch (part_of tree)) 1 0 + sum counts)
    (children_step-map fold (out-Tree tree))

pub is_formed_at-out : (tree : Tree) (d : ℕ)
    → is_formed_at tree d ≡
    (is_formed_part d (part_of tree) && list_all (λ child. child (d + 1)) (map is_formed_at (children_of tree)))
unfolding is_formed_at
is_formed_at-out tree d =
    let fold = fold-Tree (ℕ → Bool) formed_step in
    let layer = map-Tree Tree (ℕ → Bool) fold (out-Tree tree) in
    let opened : is_formed_at tree d ≡ formed_step layer d =
    ap (λ (f : ℕ → Bool). f d) (fold_out-Tree (ℕ → Bool) formed_step tree) in
    opened
    ∙ ap (λ (part : Part). is_formed_part d part && list_all (λ child. child (d + 1)) (children_step layer))
    (part_step-map fold (out-Tree tree))
    ∙ ap (λ (children : List (ℕ → Bool)). is_formed_part d (part_of tree) && list_all
    (λ child. child (d + 1)) children) (children_step-map fold (out-Tree tree))

-- what a formed tree says of its node and of its children
pub is_formed_at-parts : (tree : Tree) (d : ℕ) → is_formed_at tree d ≡ true
    → (is_formed_part d (part_of tree) ≡ true) ×
    (list_all (λ child. child (d + 1)) (map is_formed_at (children_of tree)) ≡ true)
is_formed_at-parts tree d formed =
    and_parts (is_formed_part d (part_of tree))
    (list_all (λ child. child (d + 1)) (map is_formed_at (children_of tree))) (sym (is_formed_at-out tree d) ∙ formed)

-- how many children a part says that it has
unfoldable pub fan : Part → ℕ
fan (BranchPart children) = children
fan OverPart = 0
fan (HallPart names) = 0
fan (DualPart lambda mu) = 0
fan FullPart = 0

fan_step : {X : Type 0} (layer : Tree-F X) → length (children_step layer) ≡ fan (part_step layer)
unfolding fan
fan_step (Tree-F.Branch xs) = refl
fan_step Tree-F.Over = refl
fan_step (Tree-F.Hall names) = refl
fan_step (Tree-F.Dual lambda mu) = refl
fan_step Tree-F.Full = refl

pub fan-part_of : (tree : Tree) → length (children_of tree) ≡ fan (part_of tree)
fan-part_of tree = fan_step (out-Tree tree)

-- induction: what holds of a tree where it holds of its children holds of every tree
all_such : (P : Tree → Type 0) (es : List ((tree : Tree) × P tree)) → AllByRecursion P (map (λ e. e.0) es)
all_such P [] = tt
all_such P (e ∷ es) = (e.1, all_such P es)

pub children_of-roll : (layer : Tree-F Tree) → children_of (roll-Tree layer) ≡ children_step layer
children_of-roll layer = search (rules, the_lemmas)

pub tree_induction : (P : Tree → Type 0) → ((tree : Tree) → AllByRecursion P (children_of tree) → P tree)
    → (tree : Tree) → P tree
tree_induction P step = ind-Tree P (λ x y is.
    let children : map (λ e. e.0) (children_step y) ≡ children_of (roll-Tree x) =
    sym (children_step-map (λ e. e.0) y) ∙ ap children_step is ∙ sym (children_of-roll x) in
    step (roll-Tree x) (subst (λ ts. AllByRecursion P ts) children (all_such P (children_step y))))
