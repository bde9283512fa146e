use Rattle.std.proofs.Common.{ℕ, ℤ, List, ◌++◌, ◌∙◌, ap}
use Rattle.recursive_sum.specs.Sum.{recursive_sum}
use Rattle.recursive_sum.specs.declared.measure.G.TheVariants.{One, Value}
use Rattle.change_report.specs.Block.{block_text, cardinality_line, epoch_line, heavy_lines, level_lines, total_line}
use Rattle.change_report.proofs.block.epoch_text.Goals as goal

pub returns-in-Ok : goal.returns-in-Ok
unfolding block_text
returns-in-Ok c = record {
  text = c.in-Ok.ensures.text
      ∙ ap (λ (pairs : List (List ℕ × ℤ)).
      epoch_line c.args.epoch c.args.packets c.args.merged.now ++ (level_lines 0 c.args.levels.now
      ++ (cardinality_line (recursive_sum c.args.family.now One c.args.merged.now)
      ++ (total_line (recursive_sum c.args.family.now Value c.args.merged.now) ++ heavy_lines pairs))))
      (c.deref.ensures.value ∙ c.in_ok-keys.ensures.value);
}
