use Rattle.std.proofs.Common.{◌≡◌, ℕ, ◌≤◌, true}
use Rattle.hash_family.specs.Hash.{is_live}
use Rattle.spot_table.proofs.known.live_up_to.Given as goal

abbrev pub invariant-loop-below : goal.invariant-loop-below
invariant-loop-below l = (level : ℕ) → level ≤ l.below → is_live l.family level l.key ≡ true
