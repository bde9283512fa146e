use Rattle.std.proofs.Common.{◌≡◌, ◌+◌, ◌∷◌, ◌++◌, [], length, map, ◌∙◌, arith, rules}
use Rattle.std.specs.Prelude.{sum}
use Rattle.bound_certificate.specs.Formed.{branches}
use Rattle.certificate_text.specs.ReadTree.{followers}
use Rattle.certificate_text.proofs.ByteTrees.{row_tree, branches-grown, trees_stand, trees_hang, trees_fail}
use Rattle.certificate_text.proofs.Reading.{first_fails, then_stands, then_fails}
use Rattle.certificate_text.proofs.Severals.{sum-more}
use Rattle.certificate_text.proofs.read_bytes.+reading.Goals as goal

pub read_tree-returns-in-Err-clause-reads : goal.read_tree-returns-in-Err-clause-reads
read_tree-returns-in-Err-clause-reads t c =
    first_fails (row_tree c.args.depth c.args.left.now) c.args.bytes.now c.in-Err.fault c.in-Err.ensures

pub read_tree-returns-in-Ok-read_trees-clause-reads : goal.read_tree-returns-in-Ok-read_trees-clause-reads
read_tree-returns-in-Ok-read_trees-clause-reads t c =
    rw c.grown.ensures (
    then_stands (row_tree c.args.depth c.args.left.now) c.args.bytes.now c.rest_of.result.now c.in-Ok.read.0
    c.in-Ok-read_trees.children c.in-Ok.read.1 c.in-Ok-read_trees.taken
    c.in-Ok.ensures c.rest_of.ensures
    (rw (c.followers-count.ensures, c.own_branches.ensures) at c.in-Ok-read_trees.ensures.reads)
    )

pub read_tree-returns-in-Ok-read_trees-clause-left : goal.read_tree-returns-in-Ok-read_trees-clause-left
read_tree-returns-in-Ok-read_trees-clause-left t c =
    let size : length c.in-Ok-read_trees.children ≡ followers c.in-Ok.read.0 =
    c.in-Ok-read_trees.ensures.reads.may.number ∙ c.followers-count.ensures in
    let whole = branches-grown c.in-Ok.read.0 c.in-Ok-read_trees.children size in
    rw c.grown.ensures (omega
    (arith, whole, c.in-Ok-read_trees.ensures.left, c.own_branches.ensures, c.in-Ok.ensures.may.few))

pub read_tree-returns-in-Err-read_trees-clause-reads : goal.read_tree-returns-in-Err-read_trees-clause-reads
read_tree-returns-in-Err-read_trees-clause-reads t c =
    then_fails (row_tree c.args.depth c.args.left.now) c.args.bytes.now c.rest_of.result.now c.in-Ok.read.0
    c.in-Ok.read.1 c.in-Err-read_trees.fault
    c.in-Ok.ensures c.rest_of.ensures
    (rw (c.followers-count.ensures, c.own_branches.ensures) at c.in-Err-read_trees.ensures.reads)

pub read_trees-returns-in-Err-clause-reads : goal.read_trees-returns-in-Err-clause-reads
read_trees-returns-in-Err-clause-reads t c =
    trees_fail c.args.depth c.args.count c.args.left.now c.loop.counter c.loop.left c.loop.at c.args.bytes.now
    c.rest_of.result.now c.in-Err.fault
    c.loop-test.true c.loop.invariant.hangs c.rest_of.ensures c.in-Err.ensures.reads

pub read_trees-loop-preserved : goal.read_trees-loop-preserved
read_trees-loop-preserved t c =
    let pushed : c.push.new.self ≡ c.loop.trees ++ c.in-Ok.read.0 ∷ [] = search rules in
    let count : sum (map branches (c.loop.trees ++ c.in-Ok.read.0 ∷ [])) ≡ sum
    (map branches c.loop.trees) + branches c.in-Ok.read.0 =
    sum-more branches c.loop.trees c.in-Ok.read.0 in
    record {
      front = rw pushed (
          trees_stand c.args.depth c.loop.counter c.args.left.now c.loop.left c.loop.at c.in-Ok.read.1 c.args.bytes.now
          c.rest_of.result.now c.loop.trees c.in-Ok.read.0
          c.loop.invariant.front c.rest_of.ensures c.in-Ok.ensures.reads c.loop.invariant.spent
          );
      hangs = trees_hang c.args.depth c.args.count c.args.left.now c.loop.counter c.loop.left c.read_tree.new.left
          c.loop.at c.in-Ok.read.1 c.args.bytes.now c.rest_of.result.now c.in-Ok.read.0
          c.loop-test.true c.loop.invariant.hangs c.rest_of.ensures c.in-Ok.ensures.reads c.in-Ok.ensures.left;
      spent = rw pushed (omega (arith, count, c.in-Ok.ensures.left, c.loop.invariant.spent));
    }
