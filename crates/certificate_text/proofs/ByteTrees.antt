-- The bytes of a tree: of its root, and of its children.
use Rattle.std.proofs.Common.{◌≡◌, ℕ, ◌+◌, ◌-◌, ◌<◌, true, ◌&&◌, cond, List, [], ◌∷◌, ◌++◌, length, map, drop, flat_map, ◌⊎◌, inl, inr, Result, Ok, Err, refl, sym, ◌∙◌, ap, ap₂, subst, arith, append_assoc, rules}
use Rattle.std.specs.Prelude.{sum, nat_le}
use Rattle.std.specs.List.{AllByRecursion, list_all, concat}
use Rattle.std.proofs.lemmas.Bool.{and_parts, leb-true, le-leb}
use Rattle.certificate_text.specs.Bytes.{part_bytes, bytes_of}
use Rattle.bound_certificate.specs.Formed.{branches, is_formed_part, is_formed_at, is_formed}
use Rattle.bound_certificate.specs.Node.{Part, BranchPart, OverPart, HallPart, DualPart, FullPart}
use Rattle.certificate_text.specs.NodeHead.{head_part}
use Rattle.certificate_text.specs.ReadNode.{head_bytes, own_branches, FitsAt}
use Rattle.certificate_text.specs.ReadTree.{IsFormedAt, followers, grown}
use Rattle.certificate_text.specs.ReadBytes.{ReadsBytes}
use Rattle.certificate_text.specs.Reading.{Stands, Fails, Reads, One, Several}
use Rattle.bound_certificate.specs.Tree.{is_branch, part_of, children_of, part_step, children_step}
use Rattle.certificate_text.specs.declared.node_head.NodeHead.{NodeHead}
use Rattle.certificate_text.specs.declared.node_head.NodeHead.TheVariants.{Branch, Over, Hall, Dual, Full}
use Rattle.certificate_text.specs.declared.fault.TreeBytesFault.{TreeBytesFault}
use Rattle.certificate_text.specs.declared.fault.TreeBytesFault.TheVariants.{Short, Shape, Memory}
use Rattle.bound_certificate.specs.declared.tree.Tree.{Tree}
use Rattle.bound_certificate.specs.declared.tree.Tree.TheOpen.{Tree-F}
use Rattle.bound_certificate.specs.declared.tree.Tree.TheFolds.{ind-Tree}
use Rattle.bound_certificate.specs.declared.tree.Tree.TheViews.{out-Tree, roll-Tree, the_lemmas}
use Rattle.bound_certificate.specs.declared.tree.Tree.TheVariants.{Full as FullTree}
use Rattle.certificate_text.proofs.Reading.{Unique, Known, Apart, Row, reads_alone}
use Rattle.certificate_text.proofs.Severals.{Filler, filled, several_only, one_known, stands_more, Hangs, hangs_first, hangs_more}
use Rattle.certificate_text.proofs.ByteParts.{head_known}
use Rattle.bound_certificate.proofs.Trees.{part_of-Branch, part_of-Over, part_of-Hall, part_of-Dual, part_of-Full, children_of-Branch, children_of-Over, children_of-Hall, children_of-Dual, children_of-Full, branches-out, is_formed_at-out, is_formed_at-parts, children_of-roll, tree_induction}
use Rattle.certificate_text.proofs.RootFirst.{bytes_of-out}

-- a node's part, and the node of a part
head_of : Part → NodeHead
head_of (BranchPart children) = Branch children
head_of OverPart = Over
head_of (HallPart names) = Hall names
head_of (DualPart lambda mu) = Dual lambda mu
head_of FullPart = Full

head_part_of : (part : Part) → head_part (head_of part) ≡ part
unfolding head_of
head_part_of (BranchPart children) = refl
head_part_of OverPart = refl
head_part_of (HallPart names) = refl
head_part_of (DualPart lambda mu) = refl
head_part_of FullPart = refl

-- a tree is its root with its children
part_of-roll : (layer : Tree-F Tree) → part_of (roll-Tree layer) ≡ part_step layer
part_of-roll layer = search (rules, the_lemmas)

grown_layer : (layer : Tree-F Tree) → grown (head_of (part_step layer)) (children_step layer) ≡ roll-Tree layer
unfolding head_of
grown_layer (Tree-F.Branch xs) = search (rules, the_lemmas)
grown_layer Tree-F.Over = search (rules, the_lemmas)
grown_layer (Tree-F.Hall names) = search (rules, the_lemmas)
grown_layer (Tree-F.Dual lambda mu) = search (rules, the_lemmas)
grown_layer Tree-F.Full = search (rules, the_lemmas)

grown_is : (tree : Tree) → grown (head_of (part_of tree)) (children_of tree) ≡ tree
grown_is = ind-Tree (λ tree. grown (head_of (part_of tree)) (children_of tree) ≡ tree) (λ x y is.
    ap₂ (λ part children. grown (head_of part) children) (part_of-roll x) (children_of-roll x) ∙ grown_layer x)

followers_step : (layer : Tree-F Tree) → length (children_step layer) ≡ followers (head_of (part_step layer))
unfolding head_of
followers_step (Tree-F.Branch xs) = refl
followers_step Tree-F.Over = refl
followers_step (Tree-F.Hall names) = refl
followers_step (Tree-F.Dual lambda mu) = refl
followers_step Tree-F.Full = refl

followers_of : (tree : Tree) → length (children_of tree) ≡ followers (head_of (part_of tree))
followers_of tree = followers_step (out-Tree tree)

part_of-grown : (head : NodeHead) (ts : List Tree) → length ts ≡ followers head
    → part_of (grown head ts) ≡ head_part head
part_of-grown (Branch count) ts size = part_of-Branch ts ∙ ap BranchPart size
part_of-grown Over ts size = part_of-Over
part_of-grown (Hall names) ts size = part_of-Hall names
part_of-grown (Dual lambda mu) ts size = part_of-Dual lambda mu
part_of-grown Full ts size = part_of-Full

none_left : (ts : List Tree) → length ts ≡ 0 → [] ≡ ts
none_left [] size = refl
none_left (t ∷ ts) size = absurd (omega arith)

children_of-grown : (head : NodeHead) (ts : List Tree) → length ts ≡ followers head → children_of (grown head ts) ≡ ts
children_of-grown (Branch count) ts size = children_of-Branch ts
children_of-grown Over ts size = children_of-Over ∙ none_left ts size
children_of-grown (Hall names) ts size = children_of-Hall names ∙ none_left ts size
children_of-grown (Dual lambda mu) ts size = children_of-Dual lambda mu ∙ none_left ts size
children_of-grown Full ts size = children_of-Full ∙ none_left ts size

-- trees within their limits
pub formed_each : (d : ℕ) (ts : List Tree) → list_all (λ child. child d) (map is_formed_at ts) ≡ true
    → AllByRecursion (IsFormedAt d) ts
formed_each d [] formed = tt
formed_each d (t ∷ ts) formed =
    let parts = and_parts (is_formed_at t d) (list_all (λ child. child d) (map is_formed_at ts)) formed in
    (parts.0, formed_each d ts parts.1)

pub each_formed : (d : ℕ) (ts : List Tree) → AllByRecursion (IsFormedAt d) ts
    → list_all (λ child. child d) (map is_formed_at ts) ≡ true
each_formed d [] each = refl
each_formed d (t ∷ ts) each = ap₂ (λ p q. p && q) each.0 (each_formed d ts each.1)

concat_children : (ts : List Tree) → concat (map bytes_of ts) ≡ flat_map bytes_of ts
concat_children [] = refl
concat_children (t ∷ ts) = ap (λ xs. bytes_of t ++ xs) (concat_children ts)

-- a node and its children are a tree
grown_may : (d b : ℕ) (head : NodeHead) (ts : List Tree) → FitsAt d b head
    → Several (IsFormedAt (d + 1)) branches (followers head) (b - own_branches (head_part head)) ts
    → One (IsFormedAt d) branches b (grown head ts)
grown_may d b head ts may will =
    let tree = grown head ts in
    let part = part_of-grown head ts will.number in
    let children = children_of-grown head ts will.number in
    let formed : is_formed_at tree d ≡ true =
    is_formed_at-out tree d ∙ ap₂ (λ p q. p && q) (ap (is_formed_part d) part ∙ may.formed)
    (ap (λ cs. list_all (λ child. child (d + 1)) (map is_formed_at cs)) children ∙ each_formed (d + 1) ts will.each) in
    let own : cond {A = ℕ} (is_branch (part_of tree)) 1 0 ≡ own_branches (head_part head) = ap own_branches part in
    let rest : sum (map branches (children_of tree)) ≡ sum (map branches ts) =
    ap (λ cs. sum (map branches cs)) children in
    record { may = formed; few = omega (arith, branches-out tree, own, rest, may.few, will.few) }

grown_bytes : (head : NodeHead) (ts : List Tree) → length ts ≡ followers head
    → bytes_of (grown head ts) ≡ head_bytes head ++ flat_map bytes_of ts
grown_bytes head ts size =
    bytes_of-out (grown head ts)
    ∙ ap₂ (λ p cs. part_bytes p ++ concat (map bytes_of cs)) (part_of-grown head ts size)
    (children_of-grown head ts size)
    ∙ ap (λ xs. head_bytes head ++ xs) (concat_children ts)

pub branches-grown : (head : NodeHead) (ts : List Tree) → length ts ≡ followers head
    → branches (grown head ts) ≡ own_branches (head_part head) + sum (map branches ts)
branches-grown head ts size =
    let tree = grown head ts in
    branches-out tree ∙ ap₂ (λ part cs. own_branches part + sum (map branches cs)) (part_of-grown head ts size)
    (children_of-grown head ts size)

tree_apart : (d b : ℕ) (tree : Tree) → One (IsFormedAt d) branches b tree
    → Apart (FitsAt d b)
    (λ head. Several (IsFormedAt (d + 1)) branches (followers head) (b - own_branches (head_part head))) grown tree
tree_apart d b tree may =
    let head = head_of (part_of tree) in
    let part : head_part head ≡ part_of tree = head_part_of (part_of tree) in
    let parts = is_formed_at-parts tree d may.may in
    let own : cond {A = ℕ} (is_branch (part_of tree)) 1 0 ≡ own_branches (head_part head) =
    sym (ap own_branches part) in
    record {
      first = head;
      second = children_of tree;
      may = record {
        formed = ap (is_formed_part d) part
            ∙ parts.0;
        few = omega (arith, own, branches-out tree, may.few);
      };
      then = record {
        number = followers_of tree;
        each = formed_each (d + 1) (children_of tree) parts.1;
        few = omega (arith, own, branches-out tree, may.few);
      };
      is = sym (grown_is tree);
    }

-- a leaf, which may stand anywhere
pub full_tree : (d : ℕ) → Filler (IsFormedAt d) branches
full_tree d =
    let formed : is_formed_at FullTree d ≡ true =
    is_formed_at-out FullTree d
    ∙ ap₂ (λ part cs. is_formed_part d part && list_all (λ child. child (d + 1))
    (map is_formed_at cs)) part_of-Full children_of-Full in
    record {
      thing = FullTree;
      may = formed;
      free = branches-out FullTree
          ∙ ap₂ (λ part cs. own_branches part + sum (map branches cs)) part_of-Full children_of-Full;
    }

pub row_tree : (d b : ℕ)
    → Row (FitsAt d b) (λ head. Several (IsFormedAt (d + 1)) branches (followers head)
    (b - own_branches (head_part head))) (One (IsFormedAt d) branches b) head_bytes (flat_map bytes_of) bytes_of grown
row_tree d b = record {
  joined = grown_may d b;
  spelled = λ head ts may will. grown_bytes head ts will.number;
  apart = tree_apart d b;
  goes_on = λ head may. filled (full_tree (d + 1)) (followers head) (b - own_branches (head_part head));
  known = head_known d b;
}

-- bytes of which a tree's are at the front have no other tree's there
IsKnownTree : Tree → Type 0
IsKnownTree tree = (d : ℕ) → Unique (IsFormedAt d) bytes_of tree

known_at : (d : ℕ) (ts : List Tree) → AllByRecursion IsKnownTree ts → AllByRecursion (Unique (IsFormedAt d) bytes_of) ts
unfolding IsKnownTree
known_at d [] each = tt
known_at d (t ∷ ts) each = (each.0 d, known_at d ts each.1)

known_grown : (d b : ℕ) (tree other : Tree) (u v : List ℕ) → AllByRecursion IsKnownTree (children_of tree)
    → One (IsFormedAt d) branches b tree → One (IsFormedAt d) branches b other
    → bytes_of tree ++ u ≡ bytes_of other ++ v → (tree ≡ other) × (u ≡ v)
unfolding tree_apart
known_grown d b tree other u v each may will agree =
    let one = tree_apart d b tree may in
    let two = tree_apart d b other will in
    let left : bytes_of tree ++ u ≡ head_bytes one.first ++ (flat_map bytes_of one.second ++ u) =
    ap (λ t. bytes_of t ++ u) one.is ∙ ap (λ xs. xs ++ u) (grown_bytes one.first one.second one.then.number)
    ∙ append_assoc (head_bytes one.first) (flat_map bytes_of one.second) u in
    let right : bytes_of other ++ v ≡ head_bytes two.first ++ (flat_map bytes_of two.second ++ v) =
    ap (λ t. bytes_of t ++ v) two.is ∙ ap (λ xs. xs ++ v) (grown_bytes two.first two.second two.then.number)
    ∙ append_assoc (head_bytes two.first) (flat_map bytes_of two.second) v in
    let heads = (head_known d b one.first).only two.first (flat_map bytes_of one.second ++ u)
    (flat_map bytes_of two.second ++ v) one.may two.may (sym left ∙ agree ∙ right) in
    let size : length one.second ≡ length two.second = one.then.number ∙ ap followers heads.0 ∙ sym two.then.number in
    let rest = several_only (IsFormedAt (d + 1)) bytes_of one.second two.second u v
    (known_at (d + 1) (children_of tree) each) one.then.each two.then.each size heads.1 in
    (one.is ∙ ap₂ grown heads.0 rest.0 ∙ sym two.is, rest.1)

tree_is_known : (tree : Tree) → IsKnownTree tree
unfolding IsKnownTree
tree_is_known = tree_induction IsKnownTree (λ tree each d. record {
  only = λ other u v may will agree.
      known_grown d (branches tree + branches other) tree other u v each
      (record { may = may; few = omega arith }) (record { may = will; few = omega arith }) agree;
})

pub tree_known : (d : ℕ) → Known (IsFormedAt d) bytes_of
unfolding IsKnownTree
tree_known d tree = tree_is_known tree d

-- the trees that were read, and one more
pub trees_stand : (d i b left at k : ℕ) (bytes rest : List ℕ) (ts : List Tree) (t : Tree)
    → Stands (Several (IsFormedAt d) branches i b) (flat_map bytes_of) bytes ts at → rest ≡ drop at bytes
    → Stands (One (IsFormedAt d) branches left) bytes_of rest t k → left + sum (map branches ts) ≡ b
    → Stands (Several (IsFormedAt d) branches (i + 1) b) (flat_map bytes_of) bytes (ts ++ t ∷ []) (at + k)
trees_stand d i b left at k bytes rest ts t before place here spent =
    stands_more bytes i b left at k ts t before
    (subst (λ xs. Stands (One (IsFormedAt d) branches left) bytes_of xs t k) place here) spent

pub trees_hang : (d n b i left after at k : ℕ) (bytes rest : List ℕ) (t : Tree) → i < n
    → Hangs (IsFormedAt d) bytes_of branches n b bytes (n - i) left at → rest ≡ drop at bytes
    → Stands (One (IsFormedAt d) branches left) bytes_of rest t k → after + branches t ≡ left
    → Hangs (IsFormedAt d) bytes_of branches n b bytes (n - (i + 1)) after (at + k)
trees_hang d n b i left after at k bytes rest t within hangs place here spent =
    let next = subst (λ xs. Stands (One (IsFormedAt d) branches left) bytes_of xs t k) place here in
    let same : left - branches t ≡ after = omega arith in
    subst (λ m. Hangs (IsFormedAt d) bytes_of branches n b bytes (n - (i + 1)) m (at + k)) same
    (hangs_more (tree_known d) (full_tree d) n b bytes (n - i) (n - (i + 1)) left at k t hangs (omega arith) next)

pub trees_fail : (d n b i left at : ℕ) (bytes rest : List ℕ) (fault : TreeBytesFault) → i < n
    → Hangs (IsFormedAt d) bytes_of branches n b bytes (n - i) left at → rest ≡ drop at bytes
    → Fails (One (IsFormedAt d) branches left) bytes_of rest fault
    → Fails (Several (IsFormedAt d) branches n b) (flat_map bytes_of) bytes fault
trees_fail d n b i left at bytes rest fault within hangs place fails =
    hangs_first (tree_known d) (full_tree d) n b bytes rest (n - i) (n - (i + 1)) left at hangs
    (omega arith) fault place fails

-- a tree within its limits, from the root
formed_parts : (tree : Tree) → is_formed tree ≡ true → One (IsFormedAt 0) branches 4096 tree
unfolding is_formed
formed_parts tree formed =
    let parts = and_parts (is_formed_at tree 0) (nat_le (branches tree) 4096) formed in
    record { may = parts.0; few = leb-true (branches tree) 4096 parts.1 }

parts_formed : (tree : Tree) → One (IsFormedAt 0) branches 4096 tree → is_formed tree ≡ true
unfolding is_formed
parts_formed tree may = ap₂ (λ p q. p && q) may.may (le-leb (branches tree) 4096 may.few)

pub reads_bytes : (bytes : List ℕ) (read : Result (Tree × ℕ) TreeBytesFault)
    → Reads (One (IsFormedAt 0) branches 4096) bytes_of bytes read → (read ≡ Err Memory) ⊎ ReadsBytes bytes read
reads_bytes bytes (Ok read) stands =
    inr (record { may = parts_formed read.0 stands.may; size = stands.size; parts = stands.parts })
reads_bytes bytes (Err Short) cut =
    inr (record {
      thing = cut.thing;
      rest = cut.rest;
      may = parts_formed cut.thing cut.may;
      some = cut.some;
      parts = cut.parts;
    })
reads_bytes bytes (Err Shape) none =
    inr (λ tree more rest formed agree. none tree more rest (formed_parts tree formed) agree)
reads_bytes bytes (Err Memory) none = inl refl

bytes_read : (bytes : List ℕ) (read : Result (Tree × ℕ) TreeBytesFault) → ReadsBytes bytes read
    → Reads (One (IsFormedAt 0) branches 4096) bytes_of bytes read
bytes_read bytes (Ok read) begins =
    record { may = formed_parts read.0 begins.may; size = begins.size; parts = begins.parts }
bytes_read bytes (Err Short) ends =
    record {
      thing = ends.thing;
      rest = ends.rest;
      may = formed_parts ends.thing ends.may;
      some = ends.some;
      parts = ends.parts;
    }
bytes_read bytes (Err Shape) none = λ tree more rest may agree. none tree more rest (parts_formed tree may) agree
bytes_read bytes (Err Memory) none = tt

pub bytes_alone : (bytes : List ℕ) (one other : Result (Tree × ℕ) TreeBytesFault)
    → Reads (One (IsFormedAt 0) branches 4096) bytes_of bytes one → ReadsBytes bytes other
    → (one ≡ Err Memory) ⊎ (one ≡ other)
bytes_alone bytes one other first second =
    elim (reads_alone (one_known (tree_known 0) 4096) bytes one other first (bytes_read bytes other second)) [
      | inl memory ↦ inl memory
      | inr rest ↦ elim rest [ inl memory ↦ absurd (subst (ReadsBytes bytes) memory second) | inr same ↦ inr same ]
    ]

pub bytes_once : (bytes : List ℕ) (one other : Result (Tree × ℕ) TreeBytesFault) → ReadsBytes bytes one
    → ReadsBytes bytes other → one ≡ other
bytes_once bytes one other first second =
    elim (bytes_alone bytes one other (bytes_read bytes one first) second) [
      | inl memory ↦ absurd (subst (ReadsBytes bytes) memory first)
      | inr same ↦ same
    ]
