-- The depths that are left are what falls; the trees so far stand at the front, and what is no others behind them
-- is no whole.
use Rattle.std.proofs.Common.{◌≡◌, ◌+◌, ◌-◌, ◌*◌, map, flat_map}
use Rattle.std.specs.Prelude.{sum}
use Rattle.certificate_text.specs.Bytes.{bytes_of}
use Rattle.bound_certificate.specs.Formed.{branches}
use Rattle.certificate_text.specs.ReadTree.{IsFormedAt}
use Rattle.certificate_text.specs.Reading.{Stands, Several}
use Rattle.certificate_text.proofs.Severals.{Hangs}
use Rattle.certificate_text.proofs.read_bytes.+reading.Given as goal

abbrev pub decreases-read_tree : goal.decreases-read_tree
decreases-read_tree l = 2 * (65 - l.depth)

abbrev pub decreases-read_trees : goal.decreases-read_trees
decreases-read_trees l = 2 * (65 - l.depth) + 1

abbrev pub invariant-read_trees-loop : goal.invariant-read_trees-loop
invariant-read_trees-loop l = record {
  front : Stands (Several (IsFormedAt l.depth) branches l.counter l.initial.left)
      (λ trees. flat_map bytes_of trees) l.bytes l.trees l.at;
  hangs : Hangs (IsFormedAt l.depth) bytes_of branches l.count l.initial.left l.bytes (l.count - l.counter) l.left l.at;
  spent : l.left + sum (map branches l.trees) ≡ l.initial.left;
}
