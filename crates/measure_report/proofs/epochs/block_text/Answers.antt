use Rattle.change_report.specs.Form.{epoch_block}
use Rattle.measure_report.proofs.epochs.block_text.Goals as goal

pub returns-else-is_brief : goal.returns-else-is_brief
unfolding epoch_block
returns-else-is_brief c = record {
  text = rw (c.if-is_brief.ensures.form, ← c.heavy.ensures.value, ← c.packets_in-packets.ensures.value)
      c.epoch_text.ensures.text;
}
