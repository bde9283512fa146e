-- How bytes are read as a tree: its root without children, and then these.
use Rattle.std.specs.Prelude.{ℕ, List, IsTrue}
use Rattle.bound_certificate.specs.Formed.{is_formed_at}
use Rattle.certificate_text.specs.declared.node_head.NodeHead.{NodeHead}
use Rattle.certificate_text.specs.declared.node_head.NodeHead.TheVariants.{Branch, Over, Hall, Dual, Full}
use Rattle.bound_certificate.specs.declared.tree.Tree.{Tree}
use Rattle.bound_certificate.specs.declared.tree.Tree.TheVariants.{Branch as BranchTree, Over as OverTree, Hall as HallTree, Dual as DualTree, Full as FullTree}

-- within its limits where its root has this depth
abbrev pub IsFormedAt : ℕ → Tree → Type 0
IsFormedAt depth tree = IsTrue (is_formed_at tree depth)

-- how many children follow a node
abbrev pub followers : NodeHead → ℕ
followers (Branch children) = children
followers Over = 0
followers (Hall names) = 0
followers (Dual lambda mu) = 0
followers Full = 0

-- a node with its children
abbrev pub grown : NodeHead → List Tree → Tree
grown (Branch count) children = BranchTree children
grown Over children = OverTree
grown (Hall names) children = HallTree names
grown (Dual lambda mu) children = DualTree lambda mu
grown Full children = FullTree
