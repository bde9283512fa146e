use Rattle.std.proofs.Common.{◌≡◌}
use Rattle.levels_rows.proofs.levels.noted_keys.Given as goal

abbrev pub invariant-loop-n : goal.invariant-loop-n
invariant-loop-n g l = l.all.top ≡ 3
