-- The nodes of a tree are what falls; what is written, with the trees that are left, is what is to be written.
use Rattle.std.proofs.Common.{◌≡◌, ◌+◌, ◌*◌, ◌++◌, drop, map}
use Rattle.std.specs.Prelude.{sum}
use Rattle.std.specs.List.{concat}
use Rattle.bound_certificate.specs.Formed.{nodes}
use Rattle.certificate_text.specs.Bytes.{bytes_of}
use Rattle.certificate_text.proofs.bytes.+bytes.Given as goal

abbrev pub decreases-put_tree : goal.decreases-put_tree
decreases-put_tree l = 2 * nodes l.tree.now

abbrev pub decreases-put_trees : goal.decreases-put_trees
decreases-put_trees l = 2 * sum (map nodes l.trees.now) + 1

abbrev pub invariant-put_trees-loop-tree : goal.invariant-put_trees-loop-tree
invariant-put_trees-loop-tree l =
    l.out.items ++ concat (map bytes_of (drop l.tree-index l.trees)) ≡ l.initial.out.items ++ concat
    (map bytes_of l.trees)
