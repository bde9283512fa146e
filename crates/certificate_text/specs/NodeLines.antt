-- Lines that are read as the nodes of a tree, in preorder.
use Rattle.std.specs.Prelude.{◌≡◌, ℕ, ◌+◌, List, ◌++◌, length, map, sum, Option, Some, None, IsTrue, if◌then◌else◌}
use Rattle.std.specs.List.{flat_map, list_all}
use Rattle.certificate_text.specs.Cursor.{KeepsRoom}
use Rattle.bound_certificate.specs.Formed.{branches, is_formed_at, is_formed_part}
use Rattle.bound_certificate.specs.Node.{Part}
use Rattle.certificate_text.specs.NodeHead.{head_part, IsSound}
use Rattle.certificate_text.specs.Parts.{parts_of, Stops, AllStop}
use Rattle.certificate_text.specs.Text.{part_line}
use Rattle.bound_certificate.specs.Tree.{is_branch}
use Rattle.certificate_text.specs.declared.cursor.Cursor.{Cursor}
use Rattle.certificate_text.specs.declared.fault.CertFault.{CertFault}
use Rattle.certificate_text.specs.declared.fault.CertFault.TheVariants.{TooLong, NoTree, Line, Node, Memory}
use Rattle.certificate_text.specs.declared.node_head.NodeHead.{NodeHead}
use Rattle.bound_certificate.specs.declared.tree.Tree.{Tree}

-- no line of such a node stands first
abbrev pub BadLine : (Part → Type 0) → List ℕ → Type 0
BadLine Such next = (part : Part) (after : List ℕ) → Such part → next ≡ part_line part ++ after → ⊥

-- the next line is this node's, or no node's
pub record IsNodeRead (before after : Cursor) (head : NodeHead) : Type 0 where
  pub sound : IsSound (head_part head)
  pub split : before.rest.now ≡ part_line (head_part head) ++ after.rest.now
  pub number : after.number ≡ before.number + 1
  pub branches : after.branches ≡ before.branches
  pub room : KeepsRoom before after

abbrev pub ReadsNode : Cursor → Cursor → Option NodeHead → Type 0
ReadsNode before after (Some head) = IsNodeRead before after head
ReadsNode before after None = BadLine IsSound before.rest.now

-- the next line is that of a node which can stand at depth d
pub record IsHeadRead (d : ℕ) (before after : Cursor) (head : NodeHead) : Type 0 where
  pub formed : IsTrue (is_formed_part d (head_part head))
  pub split : before.rest.now ≡ part_line (head_part head) ++ after.rest.now
  pub number : after.number ≡ before.number + 1
  pub branches : before.branches ≡ (if is_branch (head_part head) then 1 else 0) + after.branches
  pub room : KeepsRoom before after

-- the next lines are those of this tree, whose root has depth d
pub record IsTreeRead (d : ℕ) (before after : Cursor) (tree : Tree) : Type 0 where
  pub formed : IsTrue (is_formed_at tree d)
  pub split : before.rest.now ≡ flat_map part_line (parts_of tree) ++ after.rest.now
  pub number : after.number ≡ before.number + length (parts_of tree)
  pub branches : before.branches ≡ branches tree + after.branches
  pub room : KeepsRoom before after

-- the same of trees, one behind the other
pub record AreTreesRead (d : ℕ) (before after : Cursor) (trees : List Tree) : Type 0 where
  pub formed : IsTrue (list_all (λ child. child d) (map is_formed_at trees))
  pub split : before.rest.now ≡ flat_map part_line (flat_map parts_of trees) ++ after.rest.now
  pub number : after.number ≡ before.number + length (flat_map parts_of trees)
  pub branches : before.branches ≡ sum (map branches trees) + after.branches
  pub room : KeepsRoom before after

-- the first line on which reading a tree of depth d stops, or want of memory
abbrev pub IsStopped : ℕ → Cursor → CertFault → Type 0
IsStopped d before (Line number) =
    (count : ℕ) × (number ≡ before.number + count) × Stops part_line BadLine d before.branches before.rest.now count
IsStopped d before Memory = Unit {0}
IsStopped d before TooLong = ⊥
IsStopped d before NoTree = ⊥
IsStopped d before (Node node why) = ⊥

-- the same of n trees
abbrev pub AreStopped : ℕ → ℕ → Cursor → CertFault → Type 0
AreStopped d n before (Line number) =
    (count : ℕ) × (number ≡ before.number + count) × AllStop part_line BadLine d before.branches n before.rest.now count
AreStopped d n before Memory = Unit {0}
AreStopped d n before TooLong = ⊥
AreStopped d n before NoTree = ⊥
AreStopped d n before (Node node why) = ⊥
