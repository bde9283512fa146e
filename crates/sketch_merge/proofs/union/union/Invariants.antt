use Rattle.std.proofs.Common.{◌≡◌, ◌+◌, ◌-◌, ◌≤◌, ◌++◌, drop, length}
use Rattle.sketch_merge.specs.Merged.{united}
use Rattle.sketch_merge.proofs.union.union.Given as goal

abbrev pub invariant-loop-next : goal.invariant-loop-next
invariant-loop-next l = record {
  keys_within : l.of_keys ≤ length l.keys;
  more_within : l.of_more ≤ length l.more;
  rest : l.all.items ++ united (drop l.of_keys l.keys) (drop l.of_more l.more) ≡ united l.keys l.more;
}

abbrev pub decreases-loop-next : goal.decreases-loop-next
decreases-loop-next l = (length l.keys - l.of_keys) + (length l.more - l.of_more)
