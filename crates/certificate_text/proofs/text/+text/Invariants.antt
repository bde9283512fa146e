-- The nodes of a tree are what falls; what is written, with the trees that are left, is what is to be written.
use Rattle.std.proofs.Common.{◌≡◌, ◌+◌, ◌*◌, ◌++◌, drop, map}
use Rattle.std.specs.Prelude.{sum, string_bytes}
use Rattle.std.specs.List.{concat}
use Rattle.bound_certificate.specs.Formed.{nodes}
use Rattle.certificate_text.specs.Text.{lines_of}
use Rattle.certificate_text.proofs.text.+text.Given as goal

abbrev pub decreases-put_tree : goal.decreases-put_tree
decreases-put_tree l = 2 * nodes l.tree.now

abbrev pub decreases-put_trees : goal.decreases-put_trees
decreases-put_trees l = 2 * sum (map nodes l.trees.now) + 1

abbrev pub invariant-put_trees-loop-tree : goal.invariant-put_trees-loop-tree
invariant-put_trees-loop-tree l =
    string_bytes l.text ++ concat (map lines_of (drop l.tree-index l.trees)) ≡ string_bytes l.initial.text ++ concat
    (map lines_of l.trees)
