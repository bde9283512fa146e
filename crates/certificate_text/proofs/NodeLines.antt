-- Lines that are read as the nodes of a tree.
use Rattle.std.proofs.Common.{◌≡◌, ℕ, suc, ◌+◌, true, ◌&&◌, cond, List, [], ◌∷◌, ◌++◌, length, map, Option, Some, None, refl, sym, ◌∙◌, ap, subst, arith, append_assoc, append-nil, length-append}
use Rattle.std.specs.Prelude.{sum}
use Rattle.std.specs.List.{flat_map, list_all}
use Rattle.std.proofs.lemmas.List.Concat.{flat_map-append}
use Rattle.certificate_text.specs.Cursor.{HasPassed}
use Rattle.bound_certificate.specs.Formed.{branches, is_formed_at, is_formed_part}
use Rattle.bound_certificate.specs.Node.{Part, BranchPart}
use Rattle.certificate_text.specs.NodeHead.{head_part, IsSound, ReadsLine}
use Rattle.certificate_text.specs.NodeLines.{BadLine, IsNodeRead, ReadsNode, IsHeadRead, IsTreeRead, AreTreesRead, IsStopped, AreStopped}
use Rattle.certificate_text.specs.ReadText.{IsLine, ended}
use Rattle.certificate_text.specs.Text.{part_line}
use Rattle.certificate_text.specs.Parts.{CanStand, parts_of, Stops, AllStop}
use Rattle.bound_certificate.specs.Tree.{is_branch, part_of, children_of}
use Rattle.certificate_text.specs.declared.cursor.Cursor.{Cursor}
use Rattle.certificate_text.specs.declared.fault.CertFault.{CertFault}
use Rattle.certificate_text.specs.declared.fault.CertFault.TheVariants.{TooLong, NoTree, Line, Node, Memory}
use Rattle.certificate_text.specs.declared.node_head.NodeHead.{NodeHead}
use Rattle.certificate_text.specs.declared.node_head.NodeHead.TheVariants.{Branch}
use Rattle.bound_certificate.specs.declared.tree.Tree.{Tree}
use Rattle.certificate_text.proofs.Lines.{part_line_ended}
use Rattle.certificate_text.proofs.Stopping.{all_formed-append, all_branches-append, WereRead, stops_at_root, stops_below, stops_behind}
use Rattle.certificate_text.proofs.TextLines.{same_first_line, no_line_feed}
use Rattle.certificate_text.proofs.TextParts.{sound_at, parts_apart}
use Rattle.bound_certificate.proofs.Trees.{branches-out, is_formed_at-out}
use Rattle.bound_certificate.proofs.Counted.{sum-cons}
use Rattle.certificate_text.proofs.Parts.{parts_of-out}

-- where no line feed is left, no node's line stands first
pub last_is_bad : (next : List ℕ) → IsLine next → BadLine IsSound next
last_is_bad next whole part after sound same =
    let line = part_line_ended part sound in
    no_line_feed next line.0 after whole (same ∙ ap (λ (line : List ℕ). line ++ after) line.2)

-- the node of the line that is passed
pub reads_node : (before after : Cursor) (line : List ℕ) (read : Option NodeHead) → HasPassed before after line
    → ReadsLine line read → ReadsNode before after read
reads_node before after line (Some head) passed reads = record {
  sound = reads.0;
  split = passed.split ∙ ap (λ (line : List ℕ). line ++ after.rest.now) (sym reads.1);
  number = passed.number;
  branches = passed.branches;
  room = passed.room;
}
reads_node before after line None passed reads = λ part behind sound same.
    let spelled = part_line_ended part sound in
    let first = same_first_line line spelled.0 after.rest.now behind passed.whole spelled.1
    (sym passed.split ∙ same ∙ ap (λ (line : List ℕ). line ++ behind) spelled.2) in
    reads part sound (spelled.2 ∙ ap ended (sym first.0))

respects_bad : (P Q : Part → Type 0) (next : List ℕ) → ((part : Part) → P part → Q part)
    → ((part : Part) → Q part → P part) → BadLine P next → BadLine Q next
respects_bad P Q next to from bad part after such = bad part after (from part such)

-- where no line of a node that can stand follows, reading stops there
pub root_stops : (d : ℕ) (before : Cursor) → BadLine (CanStand d before.branches) before.rest.now
    → IsStopped d before (Line before.number)
root_stops d before bad = (
  0,
  omega arith,
  stops_at_root part_line BadLine respects_bad d before.branches before.rest.now
      (λ part after may. bad part after (record { formed = may.formed; few = may.few })),
)

pub none_stops : (d : ℕ) (before : Cursor) → BadLine IsSound before.rest.now → IsStopped d before (Line before.number)
none_stops d before bad = root_stops d before (λ part after can. bad part after (sound_at d part can.formed))

pub refused_stops : (d : ℕ) (before after : Cursor) (head : NodeHead) → IsNodeRead before after head
    → (CanStand d before.branches (head_part head) → ⊥) → IsStopped d before (Line before.number)
refused_stops d before after head read refused = root_stops d before (λ part behind can same.
    let first = parts_apart.first (head_part head) part after.rest.now behind read.sound (sound_at d part can.formed)
    (sym read.split ∙ same) in
    refused (subst (λ part. CanStand d before.branches part) (sym first.0) can))

-- a tree by its root and its children
pub rooted : (d : ℕ) (before mid after : Cursor) (head : NodeHead) (tree : Tree) (trees : List Tree)
    → part_of tree ≡ head_part head → children_of tree ≡ trees
    → IsHeadRead d before mid head → AreTreesRead (d + 1) mid after trees → IsTreeRead d before after tree
rooted d before mid after head tree trees root children read rest =
    let part = head_part head in
    let behind = flat_map parts_of trees in
    let parts : parts_of tree ≡ part ∷ behind =
    parts_of-out tree ∙ ap (λ (part : Part). part ∷ flat_map parts_of (children_of tree)) root
    ∙ ap (λ (ts : List Tree). part ∷ flat_map parts_of ts) children in
    let count : branches tree ≡ cond {A = ℕ} (is_branch part) 1 0 + sum (map branches trees) =
    branches-out tree ∙ ap
    (λ (part : Part). cond {A = ℕ} (is_branch part) 1 0 + sum (map branches (children_of tree))) root
    ∙ ap (λ (ts : List Tree). cond {A = ℕ} (is_branch part) 1 0 + sum (map branches ts)) children in
    record {
      formed = is_formed_at-out tree d
          ∙ ap (λ (part : Part). is_formed_part d part && list_all (λ child. child (d + 1))
          (map is_formed_at (children_of tree))) root
          ∙ ap (λ own. own && list_all (λ child. child (d + 1)) (map is_formed_at (children_of tree))) read.formed
          ∙ ap (λ (ts : List Tree). list_all (λ child. child (d + 1)) (map is_formed_at ts)) children ∙ rest.formed;
      split = read.split ∙ ap (λ (rest : List ℕ). part_line part ++ rest) rest.split
          ∙ sym (append_assoc (part_line part) (flat_map part_line behind) after.rest.now)
          ∙ ap (λ (ps : List Part). flat_map part_line ps ++ after.rest.now) (sym parts);
      number = omega (arith, ap length parts, read.number, rest.number);
      branches = omega (arith, count, read.branches, rest.branches);
      room = omega (arith, read.room, rest.room);
    }

pub no_trees : (d : ℕ) (cursor : Cursor) → AreTreesRead d cursor cursor []
no_trees d cursor = record
    { formed = refl; split = refl; number = omega arith; branches = omega arith; room = omega arith }

pub leaf_read : (d : ℕ) (before after : Cursor) (head : NodeHead) (tree : Tree) → part_of tree ≡ head_part head
    → children_of tree ≡ [] → IsHeadRead d before after head → IsTreeRead d before after tree
leaf_read d before after head tree root children read =
    rooted d before after after head tree [] root children read (no_trees (d + 1) after)

-- one more tree behind those that were read
pub trees_more : (d : ℕ) (before mid after : Cursor) (trees : List Tree) (tree : Tree)
    → AreTreesRead d before mid trees → IsTreeRead d mid after tree → AreTreesRead d before after (trees ++ tree ∷ [])
trees_more d before mid after trees tree read more =
    let front = flat_map parts_of trees in
    let parts : flat_map parts_of (trees ++ tree ∷ []) ≡ front ++ parts_of tree =
    flat_map-append parts_of trees (tree ∷ []) ∙ ap (λ (ps : List Part). front ++ ps) (append-nil (parts_of tree)) in
    record {
      formed = all_formed-append trees (tree ∷ []) d
          ∙ ap (λ own. own && list_all (λ child. child d) (map is_formed_at (tree ∷ []))) read.formed
          ∙ ap (λ own. own && true) more.formed;
      split = read.split ∙ ap (λ (rest : List ℕ). flat_map part_line front ++ rest) more.split
          ∙ sym (append_assoc (flat_map part_line front) (flat_map part_line (parts_of tree)) after.rest.now)
          ∙ ap (λ (bytes : List ℕ). bytes ++ after.rest.now)
          (sym (flat_map-append part_line front (parts_of tree)) ∙ ap (flat_map part_line) (sym parts));
      number = omega (arith, ap length parts, length-append front (parts_of tree), read.number, more.number);
      branches = omega (
        arith,
        all_branches-append trees (tree ∷ []),
        sum-cons
            (branches tree) [],
        read.branches,
        more.branches,
      );
      room = omega (arith, read.room, more.room);
    }

-- reading stops below a Branch
pub branch_stops : (d n : ℕ) (before mid : Cursor) (fault : CertFault) → IsHeadRead d before mid (Branch n)
    → AreStopped (d + 1) n mid fault → IsStopped d before fault
branch_stops d n before mid (Line number) read stopped =
    let left : before.branches ≡ suc mid.branches = omega (arith, read.branches) in
    let stops = stops_below part_line BadLine respects_bad d mid.branches n stopped.0 mid.rest.now
    (record { formed = read.formed; few = λ branch. omega arith }) stopped.2 in (
      suc stopped.0,
      omega (arith, read.number, stopped.1),
      subst (λ (bytes : List ℕ). Stops part_line BadLine d before.branches bytes (suc stopped.0)) (sym read.split)
          (subst (λ (b : ℕ). Stops part_line BadLine d b (part_line (BranchPart n) ++ mid.rest.now) (suc stopped.0))
          (sym left) stops),
    )
branch_stops d n before mid Memory read stopped = tt
branch_stops d n before mid TooLong read stopped = stopped
branch_stops d n before mid NoTree read stopped = stopped
branch_stops d n before mid (Node node why) read stopped = stopped

-- reading stops in a tree behind those that were read
pub child_stops : (d n m : ℕ) (before mid : Cursor) (trees : List Tree) (fault : CertFault)
    → AreTreesRead d before mid trees → n ≡ length trees + suc m → IsStopped d mid fault → AreStopped d n before fault
child_stops d n m before mid trees (Line number) read count stopped =
    let were : WereRead d before.branches mid.branches n m trees =
    record { formed = read.formed; left = sym read.branches; count = count } in
    let stops =
    stops_behind part_line BadLine respects_bad d before.branches mid.branches n m stopped.0 trees mid.rest.now
    were stopped.2 in (
      length (flat_map parts_of trees) + stopped.0,
      omega (arith, read.number, stopped.1),
      subst (λ (bytes : List ℕ). AllStop part_line BadLine d before.branches n bytes
          (length (flat_map parts_of trees) + stopped.0)) (sym read.split) stops,
    )
child_stops d n m before mid trees Memory read count stopped = tt
child_stops d n m before mid trees TooLong read count stopped = stopped
child_stops d n m before mid trees NoTree read count stopped = stopped
child_stops d n m before mid trees (Node node why) read count stopped = stopped
