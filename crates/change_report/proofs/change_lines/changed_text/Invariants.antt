use Rattle.std.proofs.Common.{◌≡◌, ◌++◌, drop, string_bytes}
use Rattle.change_report.specs.Change.{changed_lines}
use Rattle.change_report.proofs.change_lines.changed_text.Given as goal

abbrev pub invariant-loop-pair : goal.invariant-loop-pair
invariant-loop-pair l = string_bytes l.text ++ changed_lines (drop l.pair-index l.keys) ≡ changed_lines l.keys
