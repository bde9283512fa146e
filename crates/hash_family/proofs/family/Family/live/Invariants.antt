use Rattle.std.proofs.Common.{◌≡◌, true}
use Rattle.hash_family.specs.Hash.{is_live}
use Rattle.hash_family.proofs.family.Family.live.Given as goal

abbrev pub invariant-loop-below : goal.invariant-loop-below
invariant-loop-below l = is_live l.self l.below l.key ≡ true
