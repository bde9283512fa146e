use Rattle.std.proofs.Common.{◌≡◌, ◌++◌, drop, string_bytes}
use Rattle.change_report.specs.Block.{level_lines}
use Rattle.change_report.proofs.block.levels_text.Given as goal

abbrev pub invariant-loop-level : goal.invariant-loop-level
invariant-loop-level l = string_bytes l.text ++ level_lines l.level (drop l.level l.counts) ≡ level_lines 0 l.counts
