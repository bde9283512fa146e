-- Where the reading of a tree stops: at a node, behind nodes that were read, and below a Branch.
use Rattle.std.proofs.Common.{◌≡◌, ℕ, ◌+◌, ◌<◌, ◌⊎◌, inl, inr, Bool, true, false, ◌&&◌, cond, List, [], ◌∷◌, ◌++◌, length, map, refl, zero, sym, ◌∙◌, ap, subst, append_assoc, arith, rules, suc}
use Rattle.std.specs.Prelude.{◌≤◌, slice_index_or, drop, sum}
use Rattle.std.specs.List.{flat_map, list_all}
use Rattle.std.proofs.lemmas.Bool.{and_parts}
use Rattle.std.proofs.lemmas.List.{append-nil, length-append, nil_from_length}
use Rattle.std.proofs.lemmas.List.Concat.{flat_map-append}
use Rattle.certificate_text.proofs.Beginnings.{continues, shorter}
use Rattle.bound_certificate.proofs.Counted.{sum-cons}
use Rattle.certificate_text.proofs.Parts.{parts_of-out, all_go_on, ends_by_itself}
use Rattle.bound_certificate.proofs.Trees.{part_of-Branch, part_of-Over, part_of-Hall, part_of-Dual, part_of-Full, children_of-Branch, children_of-Over, children_of-Hall, children_of-Dual, children_of-Full, branches-out, is_formed_at-out, is_formed_at-parts, fan, fan-part_of}
use Rattle.bound_certificate.specs.Formed.{branches, is_formed_at, is_formed_part}
use Rattle.bound_certificate.specs.Node.{Part, BranchPart, OverPart, HallPart, DualPart, FullPart}
use Rattle.certificate_text.specs.Parts.{parts_of, CanStand, Begins, GoesOn, AllBegin, AllGoOn, Stops, AllStop}
use Rattle.bound_certificate.specs.Tree.{is_branch, part_of, children_of}
use Rattle.bound_certificate.specs.declared.tree.Tree.{Tree}
use Rattle.bound_certificate.specs.declared.tree.Tree.TheVariants.{Branch, Over, Hall, Dual, Full}

-- trees of one Over leaf each
pub overs : ℕ → List Tree
overs zero = []
overs (suc n) = Over ∷ overs n

pub formed-Over : (d : ℕ) → is_formed_at Over d ≡ true
formed-Over d = search (rules, is_formed_at-out, part_of-Over, children_of-Over)

pub branches-Over : branches Over ≡ 0
branches-Over = search (rules, branches-out, part_of-Over, children_of-Over)

pub parts_of-Over : parts_of Over ≡ OverPart ∷ []
parts_of-Over = search (rules, parts_of-out, part_of-Over, children_of-Over)

pub length-overs : (n : ℕ) → length (overs n) ≡ n
unfolding overs
length-overs zero = refl
length-overs (suc n) = ap suc (length-overs n)

pub formed-overs : (n d : ℕ) → list_all (λ child. child d) (map is_formed_at (overs n)) ≡ true
unfolding overs
formed-overs zero d = refl
formed-overs (suc n) d =
    ap (λ b. b && list_all (λ child. child d) (map is_formed_at (overs n))) (formed-Over d) ∙ formed-overs n d

pub branches-overs : (n : ℕ) → sum (map branches (overs n)) ≡ 0
unfolding overs
branches-overs zero = refl
branches-overs (suc n) =
    let more = branches-overs n in
    omega (arith, sum-cons (branches Over) (map branches (overs n)), branches-Over, more)

-- lists of trees joined
pub all_formed-append : (ts us : List Tree) (d : ℕ)
    → list_all (λ child. child d) (map is_formed_at (ts ++ us)) ≡
    (list_all (λ child. child d) (map is_formed_at ts) && list_all (λ child. child d) (map is_formed_at us))
all_formed-append [] us d = refl
all_formed-append (t ∷ ts) us d = search (rules, all_formed-append ts us d)

pub all_branches-append : (ts us : List Tree)
    → sum (map branches (ts ++ us)) ≡ sum (map branches ts) + sum (map branches us)
all_branches-append [] us = search (rules)
all_branches-append (t ∷ ts) us =
    let more = all_branches-append ts us in
    let left = sum-cons (branches t) (map branches (ts ++ us)) in
    let right = sum-cons (branches t) (map branches ts) in
    omega (arith, more, left, right)

-- the root of a tree that begins with it
pub stands_first : (d b : ℕ) (part : Part) (parts : List Part) → Begins d b (part ∷ parts) → CanStand d b part
stands_first d b part parts begins =
    let tree = begins.tree in
    let whole : part_of tree ∷ flat_map parts_of (children_of tree) ≡ part ∷ (parts ++ begins.rest) =
    sym (parts_of-out tree) ∙ begins.split in
    let root : part_of tree ≡ part = ap (λ ps. slice_index_or ps 0 OverPart) whole in
    let formed = (is_formed_at-parts tree d begins.formed).0 in
    record {
      formed = subst (λ p. is_formed_part d p ≡ true) root formed;
      few = λ branch.
          let own : cond {A = ℕ} (is_branch (part_of tree)) 1 0 ≡ 1 =
          ap (λ (p : Part). cond {A = ℕ} (is_branch p) 1 0) root ∙ ap (λ b. cond {A = ℕ} b 1 0) branch in
          omega (arith, own, branches-out tree, begins.few);
    }

-- a tree with this root and these children
pub record Made (part : Part) (trees : List Tree) : Type 0 where
  pub tree : Tree
  pub root : part_of tree ≡ part
  pub children : children_of tree ≡ trees

pub made : (part : Part) (trees : List Tree) → length trees ≡ fan part → Made part trees
unfolding fan
made (BranchPart n) trees count =
    record {
      tree = Branch trees;
      root = part_of-Branch trees
          ∙ ap BranchPart count;
      children = children_of-Branch trees;
    }
made OverPart trees count =
    record { tree = Over; root = part_of-Over; children = children_of-Over ∙ sym (nil_from_length trees count) }
made (HallPart names) trees count =
    record {
      tree = Hall names;
      root = part_of-Hall names;
      children = children_of-Hall names
          ∙ sym (nil_from_length trees count);
    }
made (DualPart lambda mu) trees count =
    record {
      tree = Dual lambda mu;
      root = part_of-Dual lambda mu;
      children = children_of-Dual lambda mu
          ∙ sym (nil_from_length trees count);
    }
made FullPart trees count =
    record { tree = Full; root = part_of-Full; children = children_of-Full ∙ sym (nil_from_length trees count) }

pub made_parts : (part : Part) (trees : List Tree) (m : Made part trees)
    → parts_of m.tree ≡ part ∷ flat_map parts_of trees
made_parts part trees m =
    parts_of-out m.tree ∙ ap (λ (p : Part). p ∷ flat_map parts_of (children_of m.tree)) m.root
    ∙ ap (λ ts. part ∷ flat_map parts_of ts) m.children

pub made_branches : (part : Part) (trees : List Tree) (m : Made part trees)
    → branches m.tree ≡ cond {A = ℕ} (is_branch part) 1 0 + sum (map branches trees)
made_branches part trees m =
    branches-out m.tree ∙ ap
    (λ (p : Part). cond {A = ℕ} (is_branch p) 1 0 + sum (map branches (children_of m.tree))) m.root
    ∙ ap (λ ts. cond {A = ℕ} (is_branch part) 1 0 + sum (map branches ts)) m.children

pub made_formed : (part : Part) (trees : List Tree) (m : Made part trees) (d : ℕ)
    → is_formed_at m.tree d ≡ (is_formed_part d part && list_all (λ child. child (d + 1)) (map is_formed_at trees))
made_formed part trees m d =
    is_formed_at-out m.tree d
    ∙ ap (λ (p : Part). is_formed_part d p && list_all (λ child. child (d + 1))
    (map is_formed_at (children_of m.tree))) m.root
    ∙ ap (λ ts. is_formed_part d part && list_all (λ child. child (d + 1)) (map is_formed_at ts)) m.children

few_branches : (branch : Bool) (n sum b : ℕ) → n ≡ cond {A = ℕ} branch 1 0 + sum → sum ≡ 0 → (branch ≡ true → 0 < b)
    → n ≤ b
few_branches true n sum b is none few = omega (arith, is, none, few refl)
few_branches false n sum b is none few = omega (arith, is, none)

-- a node that may stand begins a tree
pub begins_with : (d b : ℕ) (part : Part) → CanStand d b part → Begins d b (part ∷ [])
begins_with d b part may =
    let n = fan part in
    let m = made part (overs n) (length-overs n) in
    let formed : is_formed_at m.tree d ≡ true =
    made_formed part (overs n) m d
    ∙ ap (λ b. b && list_all (λ child. child (d + 1)) (map is_formed_at (overs n))) may.formed
    ∙ formed-overs n (d + 1) in
    record {
      tree = m.tree;
      rest = flat_map parts_of (overs n);
      formed = formed;
      few = few_branches (is_branch part) (branches m.tree) (sum (map branches (overs n))) b
          (made_branches part (overs n) m) (branches-overs n) may.few;
      split = made_parts part (overs n) m;
    }

-- a Branch and its children begin a tree where the children begin trees
pub branch_begins : (d b n : ℕ) (parts : List Part) → CanStand d (suc b) (BranchPart n) → AllBegin (d + 1) b n parts
    → Begins d (suc b) (BranchPart n ∷ parts)
unfolding fan
branch_begins d b n parts may all =
    let part = BranchPart n in
    let m = made part all.trees all.count in
    let formed : is_formed_at m.tree d ≡ true =
    made_formed part all.trees m d
    ∙ ap (λ b. b && list_all (λ child. child (d + 1)) (map is_formed_at all.trees)) may.formed ∙ all.formed in
    record {
      tree = m.tree;
      rest = all.rest;
      formed = formed;
      few = omega (arith, made_branches part all.trees m, all.few);
      split = made_parts part all.trees m ∙ ap (λ ps. part ∷ ps) all.split;
    }

pub branch_began : (d b n : ℕ) (parts : List Part) → Begins d (suc b) (BranchPart n ∷ parts)
    → AllBegin (d + 1) b n parts
unfolding fan
branch_began d b n parts begins =
    let tree = begins.tree in
    let whole : part_of tree ∷ flat_map parts_of (children_of tree) ≡ BranchPart n ∷ (parts ++ begins.rest) =
    sym (parts_of-out tree) ∙ begins.split in
    let root : part_of tree ≡ BranchPart n = ap (λ ps. slice_index_or ps 0 OverPart) whole in
    let own : cond {A = ℕ} (is_branch (part_of tree)) 1 0 ≡ 1 =
    ap (λ (p : Part). cond {A = ℕ} (is_branch p) 1 0) root in
    record {
      trees = children_of tree;
      rest = begins.rest;
      count = fan-part_of tree ∙ ap fan root;
      formed = (is_formed_at-parts tree d begins.formed).1;
      few = omega (arith, own, branches-out tree, begins.few);
      split = ap (drop 1) whole;
    }

-- what is bad where some parts could stand is bad where the same parts could
abbrev pub Respects : ((Part → Type 0) → List ℕ → Type 0) → Type 1
Respects Bad = (P Q : Part → Type 0) (next : List ℕ) → ((part : Part) → P part → Q part)
    → ((part : Part) → Q part → P part) → Bad P next → Bad Q next

-- reading stops at a root
pub stops_at_root : (spell : Part → List ℕ) (Bad : (Part → Type 0) → List ℕ → Type 0) → Respects Bad
    → (d b : ℕ) (bytes : List ℕ) → Bad (CanStand d b) bytes → Stops spell Bad d b bytes 0
stops_at_root spell Bad respects d b bytes bad = record {
  parts = [];
  next = bytes;
  split = refl;
  number = refl;
  going = record {
    begins = record {
      tree = Over;
      rest = OverPart ∷ [];
      formed = formed-Over d;
      few = omega
          (arith, branches-Over);
      split = parts_of-Over;
    };
    more = omega arith;
  };
  bad = respects (CanStand d b) (λ part. Begins d b (part ∷ [])) bytes (begins_with d b)
      (λ part. stands_first d b part []) bad;
}

-- reading stops below a Branch
pub stops_below : (spell : Part → List ℕ) (Bad : (Part → Type 0) → List ℕ → Type 0) → Respects Bad
    → (d b n count : ℕ) (bytes : List ℕ) → CanStand d (suc b) (BranchPart n) → AllStop spell Bad (d + 1) b n bytes count
    → Stops spell Bad d (suc b) (spell (BranchPart n) ++ bytes) (suc count)
unfolding branch_begins
stops_below spell Bad respects d b n count bytes may stop =
    let began = branch_begins d b n stop.parts may stop.going.begin in
    record {
      parts = BranchPart n ∷ stop.parts;
      next = stop.next;
      split = ap (λ xs. spell (BranchPart n) ++ xs) stop.split
          ∙ sym (append_assoc (spell (BranchPart n)) (flat_map spell stop.parts) stop.next);
      number = ap suc stop.number;
      going = record { begins = began; more = stop.going.more };
      bad = respects (λ part. AllBegin (d + 1) b n (stop.parts ++ part ∷ []))
          (λ part. Begins d (suc b) (BranchPart n ∷ (stop.parts ++ part ∷ []))) stop.next
          (λ part. branch_begins d b n (stop.parts ++ part ∷ []) may)
          (λ part. branch_began d b n (stop.parts ++ part ∷ [])) stop.bad;
    }

-- trees of which the first goes on behind parts that a tree goes on behind
record First (us : List Tree) (part : Part) (parts : List Part) : Type 0 where
  tree : Tree
  others : List Tree
  trees : us ≡ tree ∷ others
  rest : List Part
  split : parts_of tree ≡ (parts ++ part ∷ []) ++ rest

first_in : (d b : ℕ) (parts : List Part) (part : Part) (rest tail : List Part) (tree : Tree) (others : List Tree)
    → GoesOn d b parts
    → parts_of tree ++ tail ≡ (parts ++ part ∷ []) ++ rest
    → (length (parts ++ part ∷ []) ≤ length (parts_of tree)) ⊎ (length (parts_of tree) < length (parts ++ part ∷ []))
    → First (tree ∷ others) part parts
first_in d b parts part rest tail tree others going is (inl few) =
    let c = continues (parts ++ part ∷ []) (parts_of tree) rest tail few (sym is) in
    record { tree = tree; others = others; trees = refl; rest = c.more; split = c.later }
first_in d b parts part rest tail tree others going is (inr many) =
    let sizes = length-append parts (part ∷ []) in
    let c = continues (parts_of tree) parts tail (part ∷ rest) (omega (arith, sizes, many))
    (is ∙ append_assoc parts (part ∷ []) rest) in
    let other = going.begins in
    let same = ends_by_itself other.tree tree [] (c.more ++ other.rest)
    (append-nil (parts_of other.tree) ∙ other.split ∙ ap (λ ps. ps ++ other.rest) c.later
    ∙ append_assoc (parts_of tree) c.more other.rest) in
    let none = ap length same.1 in
    absurd (omega (arith, none, length-append c.more other.rest, going.more))

first_of : (d b m : ℕ) (parts : List Part) (part : Part) (rest : List Part) (us : List Tree) → GoesOn d b parts
    → length us ≡ suc m
    → (parts ++ part ∷ []) ++ rest ≡ flat_map parts_of us ++ [] → First us part parts
first_of d b m parts part rest [] going count is = grind (arith)
first_of d b m parts part rest (u ∷ us) going count is =
    first_in d b parts part rest (flat_map parts_of us ++ []) u us going
    (sym (append_assoc (parts_of u) (flat_map parts_of us) []) ∙ sym is) (shorter (parts ++ part ∷ []) (parts_of u))

-- trees that were read, of n trees at depth d with at most b Branch nodes, and m more behind the next one, which
-- have at most c
pub record WereRead (d b c n m : ℕ) (trees : List Tree) : Type 0 where
  pub formed : list_all (λ child. child d) (map is_formed_at trees) ≡ true
  pub left : sum (map branches trees) + c ≡ b
  pub count : n ≡ length trees + suc m

with_next : (d b c n m : ℕ) (trees : List Tree) (parts : List Part) → WereRead d b c n m trees → Begins d c parts
    → AllBegin d b n (flat_map parts_of trees ++ parts)
with_next d b c n m trees parts read begins =
    let next = begins.tree ∷ overs m in
    let all = flat_map parts_of trees in
    let behind = flat_map parts_of (overs m) in
    let formed : list_all (λ child. child d) (map is_formed_at next) ≡ true =
    ap (λ b. b && list_all (λ child. child d) (map is_formed_at (overs m))) begins.formed ∙ formed-overs m d in
    let counts = sum-cons (branches begins.tree) (map branches (overs m)) in
    record {
      trees = trees ++ next;
      rest = begins.rest ++ behind;
      count = omega (arith, length-append trees next, length-overs m, read.count);
      formed = all_formed-append trees next d
          ∙ ap (λ b. b && list_all (λ child. child d) (map is_formed_at next)) read.formed ∙ formed;
      few = omega (arith, all_branches-append trees next, counts, branches-overs m, begins.few, read.left);
      split = flat_map-append parts_of trees next
          ∙ ap (λ ps. all ++ (ps ++ behind)) begins.split
          ∙ ap (λ ps. all ++ ps) (append_assoc parts begins.rest behind)
          ∙ sym (append_assoc all parts (begins.rest ++ behind));
    }

goes_on_with : (d b c n m : ℕ) (trees : List Tree) (parts : List Part) → WereRead d b c n m trees → GoesOn d c parts
    → AllGoOn d b n (flat_map parts_of trees ++ parts)
unfolding with_next
goes_on_with d b c n m trees parts read going = record {
  begin = with_next d b c n m trees parts read going.begins;
  more = omega (arith, length-append going.begins.rest (flat_map parts_of (overs m)), going.more);
}

-- what trees say of one of them, behind some and before others
formed_among : (d : ℕ) (us trees : List Tree) (tree : Tree) (others : List Tree) → us ≡ trees ++ tree ∷ others
    → list_all (λ child. child d) (map is_formed_at us) ≡ true → is_formed_at tree d ≡ true
formed_among d us trees tree others whole formed =
    let apart = sym (all_formed-append trees (tree ∷ others) d)
    ∙ sym (ap (λ us. list_all (λ child. child d) (map is_formed_at us)) whole) ∙ formed in
    let behind = (and_parts (list_all (λ child. child d) (map is_formed_at trees))
    (list_all (λ child. child d) (map is_formed_at (tree ∷ others))) apart).1 in
    (and_parts (is_formed_at tree d) (list_all (λ child. child d) (map is_formed_at others)) behind).0

branches_among : (us trees : List Tree) (tree : Tree) (others : List Tree) → us ≡ trees ++ tree ∷ others
    → sum (map branches us) ≡ sum (map branches trees) + (branches tree + sum (map branches others))
branches_among us trees tree others whole =
    ap (λ us. sum (map branches us)) whole ∙ all_branches-append trees (tree ∷ others)
    ∙ ap (λ k. sum (map branches trees) + k) (sum-cons (branches tree) (map branches others))

begins_among : (d b c n : ℕ) (trees : List Tree) (parts : List Part) (part : Part)
    (all : AllBegin d b n ((flat_map parts_of trees ++ parts) ++ part ∷ [])) (others : List Tree)
    → all.trees ≡ trees ++ others → sum (map branches trees) + c ≡ b → First others part parts
    → Begins d c (parts ++ part ∷ [])
begins_among d b c n trees parts part all others behind left first =
    let whole : all.trees ≡ trees ++ first.tree ∷ first.others = behind ∙ ap (λ us. trees ++ us) first.trees in
    let counts = branches_among all.trees trees first.tree first.others whole in
    record {
      tree = first.tree;
      rest = first.rest;
      formed = formed_among d all.trees trees first.tree first.others whole all.formed;
      few = omega (arith, counts, all.few, left);
      split = first.split;
    }

begins_next : (d b c n m : ℕ) (trees : List Tree) (parts : List Part) (part : Part) → WereRead d b c n m trees
    → GoesOn d c parts
    → AllBegin d b n ((flat_map parts_of trees ++ parts) ++ part ∷ []) → Begins d c (parts ++ part ∷ [])
begins_next d b c n m trees parts part read going all =
    let front = flat_map parts_of trees in
    let one = part ∷ [] in
    let behind : front ++ ((parts ++ one) ++ all.rest) ≡ flat_map parts_of all.trees ++ [] =
    sym (append_assoc front (parts ++ one) all.rest) ∙ ap (λ ps. ps ++ all.rest) (sym (append_assoc front parts one))
    ∙ sym all.split ∙ sym (append-nil (flat_map parts_of all.trees)) in
    let go = all_go_on trees all.trees ((parts ++ one) ++ all.rest) [] (omega (arith, all.count, read.count)) behind in
    let sizes = ap length go.trees ∙ length-append trees go.others in
    let first = first_of d c m parts part all.rest go.others going
    (omega (arith, sizes, all.count, read.count)) go.rest in
    begins_among d b c n trees parts part all go.others go.trees read.left first

-- reading stops behind trees that were read
pub stops_behind : (spell : Part → List ℕ) (Bad : (Part → Type 0) → List ℕ → Type 0) → Respects Bad
    → (d b c n m count : ℕ) (trees : List Tree) (bytes : List ℕ) → WereRead d b c n m trees
    → Stops spell Bad d c bytes count
    → AllStop spell Bad d b n (flat_map spell (flat_map parts_of trees) ++ bytes)
    (length (flat_map parts_of trees) + count)
stops_behind spell Bad respects d b c n m count trees bytes read stop =
    let front = flat_map parts_of trees in
    record {
      parts = front ++ stop.parts;
      next = stop.next;
      split = ap (λ xs. flat_map spell front ++ xs) stop.split
          ∙ sym (append_assoc (flat_map spell front) (flat_map spell stop.parts) stop.next)
          ∙ ap (λ xs. xs ++ stop.next) (sym (flat_map-append spell front stop.parts));
      number = ap (λ k. length front + k) stop.number ∙ sym (length-append front stop.parts);
      going = goes_on_with d b c n m trees stop.parts read stop.going;
      bad = respects (λ part. Begins d c (stop.parts ++ part ∷ []))
          (λ part. AllBegin d b n ((front ++ stop.parts) ++ part ∷ [])) stop.next
          (λ part begins. subst (AllBegin d b n) (sym (append_assoc front stop.parts (part ∷ [])))
          (with_next d b c n m trees (stop.parts ++ part ∷ []) read begins))
          (λ part all. begins_next d b c n m trees stop.parts part read stop.going all) stop.bad;
    }
