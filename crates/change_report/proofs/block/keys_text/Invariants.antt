use Rattle.std.proofs.Common.{◌≡◌, ◌++◌, drop, string_bytes}
use Rattle.change_report.specs.Block.{heavy_lines}
use Rattle.change_report.proofs.block.keys_text.Given as goal

abbrev pub invariant-loop-pair : goal.invariant-loop-pair
invariant-loop-pair l = string_bytes l.text ++ heavy_lines (drop l.pair-index l.keys) ≡ heavy_lines l.keys
