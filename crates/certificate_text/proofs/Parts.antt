-- A tree as the list of its nodes in preorder: which list it is, and that it ends by itself.
use Rattle.std.proofs.Common.{◌≡◌, ℕ, ◌+◌, List, [], ◌∷◌, ◌++◌, length, map, refl, sym, ◌∙◌, ap, append_assoc, arith, rules, suc}
use Rattle.std.specs.Prelude.{◌≤◌, drop, slice_index_or, sum}
use Rattle.std.specs.List.{AllByRecursion, concat, flat_map}
use Rattle.std.proofs.lemmas.List.Folds.{flat_map-map}
use Rattle.std.proofs.lemmas.List.Concat.{flat_map-append}
use Rattle.std.proofs.lemmas.List.{length-append}
use Rattle.bound_certificate.proofs.Counted.{sum-cons}
use Rattle.bound_certificate.proofs.Trees.{part_step-map, children_step-map, fan, fan-part_of, tree_induction, nodes-out}
use Rattle.certificate_text.proofs.RootFirst.{lines_of-out, bytes_of-out}
use Rattle.certificate_text.specs.Bytes.{part_bytes, bytes_of}
use Rattle.bound_certificate.specs.Formed.{nodes}
use Rattle.certificate_text.specs.Text.{part_line, lines_of}
use Rattle.bound_certificate.specs.Node.{Part, BranchPart, OverPart, HallPart, DualPart, FullPart}
use Rattle.certificate_text.specs.Parts.{parts_step, parts_of}
use Rattle.bound_certificate.specs.Tree.{part_step, children_step, part_of, children_of}
use Rattle.bound_certificate.specs.declared.tree.Tree.{Tree}
use Rattle.bound_certificate.specs.declared.tree.Tree.TheOpen.{Tree-F}
use Rattle.bound_certificate.specs.declared.tree.Tree.TheFolds.{fold-Tree, map-Tree, fold_out-Tree, ind-Tree}
use Rattle.bound_certificate.specs.declared.tree.Tree.TheViews.{out-Tree, roll-Tree, the_lemmas}

pub parts_of-out : (tree : Tree) → parts_of tree ≡ part_of tree ∷ flat_map parts_of (children_of tree)
unfolding parts_of
parts_of-out tree =
    let fold = fold-Tree (List Part) parts_step in
    let layer = map-Tree Tree (List Part) fold (out-Tree tree) in
    fold_out-Tree (List Part) parts_step tree
    ∙ ap (λ (part : Part). part ∷ flat_map (λ parts. parts) (children_step layer)) (part_step-map fold (out-Tree tree))
    ∙ ap (λ (lists : List (List Part)). part_of tree ∷ flat_map (λ parts. parts) lists)
    (children_step-map fold (out-Tree tree))
    ∙ ap (λ (parts : List Part). part_of tree ∷ parts) (flat_map-map (λ parts. parts) fold (children_of tree))

-- a tree is known by its root's part and its children
layer_of : {X : Type 0} → Part → List X → Tree-F X
layer_of (BranchPart n) xs = Tree-F.Branch xs
layer_of OverPart xs = Tree-F.Over
layer_of (HallPart names) xs = Tree-F.Hall names
layer_of (DualPart lambda mu) xs = Tree-F.Dual lambda mu
layer_of FullPart xs = Tree-F.Full

layer_is : {X : Type 0} (layer : Tree-F X) → layer_of (part_step layer) (children_step layer) ≡ layer
unfolding layer_of
layer_is (Tree-F.Branch xs) = refl
layer_is Tree-F.Over = refl
layer_is (Tree-F.Hall names) = refl
layer_is (Tree-F.Dual lambda mu) = refl
layer_is Tree-F.Full = refl

out_of-roll : (layer : Tree-F Tree) → out-Tree (roll-Tree layer) ≡ layer
out_of-roll layer = search (rules, the_lemmas)

rolled : (tree : Tree) → roll-Tree (out-Tree tree) ≡ tree
rolled = ind-Tree (λ tree. roll-Tree (out-Tree tree) ≡ tree) (λ x y is. ap roll-Tree (out_of-roll x))

pub tree_is : (t u : Tree) → part_of t ≡ part_of u → children_of t ≡ children_of u → t ≡ u
tree_is t u part children =
    let layers : out-Tree t ≡ out-Tree u =
    sym (layer_is (out-Tree t)) ∙ ap (λ p. layer_of p (children_of t)) part ∙ ap (layer_of (part_of u)) children
    ∙ layer_is (out-Tree u) in
    sym (rolled t) ∙ ap roll-Tree layers ∙ rolled u

-- a tree's list of nodes ends by itself: no other tree's begins with it
abbrev pub EndsByItself : Tree → Type 0
EndsByItself t = (u : Tree) (x y : List Part) → parts_of t ++ x ≡ parts_of u ++ y → (t ≡ u) × (x ≡ y)

all_end : (ts us : List Tree) → AllByRecursion EndsByItself ts → length ts ≡ length us → (x y : List Part)
    → flat_map parts_of ts ++ x ≡ flat_map parts_of us ++ y → (ts ≡ us) × (x ≡ y)
all_end [] [] each count x y is = (refl, is)
all_end [] (u ∷ us) each count x y is = grind (arith)
all_end (t ∷ ts) [] each count x y is = grind (arith)
all_end (t ∷ ts) (u ∷ us) each count x y is =
    let first = each.0 u (flat_map parts_of ts ++ x) (flat_map parts_of us ++ y)
    (sym (append_assoc (parts_of t) (flat_map parts_of ts) x) ∙ is
    ∙ append_assoc (parts_of u) (flat_map parts_of us) y) in
    let others = all_end ts us each.1 (omega (arith, count)) x y first.1 in
    (ap (λ e. e ∷ ts) first.0 ∙ ap (λ es. u ∷ es) others.0, others.1)

ends_step : (t : Tree) → AllByRecursion EndsByItself (children_of t) → EndsByItself t
ends_step t each u x y is =
    let whole : part_of t ∷ (flat_map parts_of (children_of t) ++ x) ≡ part_of u ∷
    (flat_map parts_of (children_of u) ++ y) =
    sym (ap (λ ps. ps ++ x) (parts_of-out t)) ∙ is ∙ ap (λ ps. ps ++ y) (parts_of-out u) in
    let part : part_of t ≡ part_of u = ap (λ ps. slice_index_or ps 0 OverPart) whole in
    let count = fan-part_of t ∙ ap fan part ∙ sym (fan-part_of u) in
    let below = all_end (children_of t) (children_of u) each count x y (ap (drop 1) whole) in
    (tree_is t u part below.0, below.1)

pub ends_by_itself : (t : Tree) → EndsByItself t
ends_by_itself = tree_induction EndsByItself ends_step

-- the lists of trees, one behind the other, behind which a list of trees goes on
pub record GoesOnAs (ts us : List Tree) (x y : List Part) : Type 0 where
  pub others : List Tree
  pub trees : us ≡ ts ++ others
  pub rest : x ≡ flat_map parts_of others ++ y

pub all_go_on : (ts us : List Tree) (x y : List Part) → length ts ≤ length us
    → flat_map parts_of ts ++ x ≡ flat_map parts_of us ++ y → GoesOnAs ts us x y
all_go_on [] us x y few is = record { others = us; trees = refl; rest = is }
all_go_on (t ∷ ts) [] x y few is = grind (arith)
all_go_on (t ∷ ts) (u ∷ us) x y few is =
    let first = ends_by_itself t u (flat_map parts_of ts ++ x) (flat_map parts_of us ++ y)
    (sym (append_assoc (parts_of t) (flat_map parts_of ts) x) ∙ is
    ∙ append_assoc (parts_of u) (flat_map parts_of us) y) in
    let others = all_go_on ts us x y (omega (arith, few)) first.1 in
    record {
      others = others.others;
      trees = ap (λ e. e ∷ us) (sym first.0)
          ∙ ap (λ es. t ∷ es) others.trees;
      rest = others.rest;
    }

-- what a tree spells, part by part
all_spell : (spell : Part → List ℕ) (f : Tree → List ℕ) (ts : List Tree)
    → AllByRecursion (λ t. f t ≡ flat_map spell (parts_of t)) ts
    → concat (map f ts) ≡ flat_map spell (flat_map parts_of ts)
all_spell spell f [] each = refl
all_spell spell f (t ∷ ts) each =
    ap (λ xs. xs ++ concat (map f ts)) each.0
    ∙ ap (λ xs. flat_map spell (parts_of t) ++ xs) (all_spell spell f ts each.1)
    ∙ sym (flat_map-append spell (parts_of t) (flat_map parts_of ts))

pub spelled : (spell : Part → List ℕ) (f : Tree → List ℕ)
    → ((t : Tree) → f t ≡ spell (part_of t) ++ concat (map f (children_of t))) → (t : Tree)
    → f t ≡ flat_map spell (parts_of t)
spelled spell f out = tree_induction (λ t. f t ≡ flat_map spell (parts_of t)) (λ t each.
    out t ∙ ap (λ xs. spell (part_of t) ++ xs) (all_spell spell f (children_of t) each)
    ∙ sym (ap (flat_map spell) (parts_of-out t)))

pub lines_of-parts : (t : Tree) → lines_of t ≡ flat_map part_line (parts_of t)
lines_of-parts = spelled part_line lines_of lines_of-out

pub bytes_of-parts : (t : Tree) → bytes_of t ≡ flat_map part_bytes (parts_of t)
bytes_of-parts = spelled part_bytes bytes_of bytes_of-out

-- as many parts as nodes
all_counted : (ts : List Tree) → AllByRecursion (λ t. length (parts_of t) ≡ nodes t) ts
    → length (flat_map parts_of ts) ≡ sum (map nodes ts)
all_counted [] each = refl
all_counted (t ∷ ts) each =
    length-append (parts_of t) (flat_map parts_of ts) ∙ ap (λ n. n + length (flat_map parts_of ts)) each.0
    ∙ ap (λ n. nodes t + n) (all_counted ts each.1) ∙ sym (sum-cons (nodes t) (map nodes ts))

pub length-parts_of : (t : Tree) → length (parts_of t) ≡ nodes t
length-parts_of = tree_induction (λ t. length (parts_of t) ≡ nodes t) (λ t each.
    let children = all_counted (children_of t) each in
    let whole : length (parts_of t) ≡ suc (length (flat_map parts_of (children_of t))) = ap length (parts_of-out t) in
    omega (arith, whole, children, nodes-out t))
