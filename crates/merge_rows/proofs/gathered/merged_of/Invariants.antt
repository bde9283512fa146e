use Rattle.std.proofs.Common.{◌≡◌}
use Rattle.hash_family.specs.Setting.{setting_of}
use Rattle.merge_rows.proofs.gathered.merged_of.Given as goal

abbrev pub invariant-loop-n : goal.invariant-loop-n
invariant-loop-n g l = (l.all.top ≡ l.fn.params.levels) × (l.levels.setting ≡ setting_of l.fn.params)
