use Rattle.std.proofs.Common.{◌≡◌, ℕ, ◌≤◌, true}
use Rattle.hash_family.specs.Hash.{is_live}
use Rattle.sketch_levels.proofs.all_keys.highest_live.Given as goal

abbrev pub invariant-loop-level : goal.invariant-loop-level
invariant-loop-level l = (below : ℕ) → below ≤ l.level → is_live l.family below l.key ≡ true
