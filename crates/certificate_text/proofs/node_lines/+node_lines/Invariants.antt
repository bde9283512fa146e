-- The depth that is left is what falls; the trees so far are read.
use Rattle.std.proofs.Common.{◌≡◌, ◌+◌, ◌-◌, ◌*◌, length}
use Rattle.certificate_text.specs.NodeLines.{AreTreesRead}
use Rattle.certificate_text.proofs.node_lines.+node_lines.Given as goal

abbrev pub decreases-read_tree : goal.decreases-read_tree
decreases-read_tree l = 2 * (64 - l.depth)

abbrev pub decreases-read_trees : goal.decreases-read_trees
decreases-read_trees l = 2 * (64 - l.depth) + 1

abbrev pub invariant-read_trees-loop : goal.invariant-read_trees-loop
invariant-read_trees-loop l =
    AreTreesRead l.depth l.fn.cursor l.cursor l.trees × (length l.trees ≡ l.counter)
