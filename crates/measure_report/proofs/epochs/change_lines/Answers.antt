use Rattle.change_report.specs.Form.{change_block}
use Rattle.measure_report.proofs.epochs.change_lines.Goals as goal

pub returns-else-is_brief : goal.returns-else-is_brief
unfolding change_block
returns-else-is_brief c = record {
  text = rw (c.if-is_brief.ensures.form, ← c.heavy.ensures.value) c.change_text.ensures.text;
}
