use Rattle.std.proofs.Common.{◌∙◌, sym}
use Rattle.mon_central.proofs.Ranges.{if_ok_weaker}
use Rattle.mon_central.proofs.Views.{change_is}
use Rattle.mon_central.proofs.sketching.Sketched.change.Goals as goal

pub change_text-requires-clause-setting : goal.change_text-requires-clause-setting
change_text-requires-clause-setting c = c.requires.merged.shape ∙ sym c.requires.before.shape

pub returns : goal.returns
returns c = record {
  text = if_ok_weaker c.change_text.result (λ text is earlier items sketches before view.
      is ∙ change_is c.args.setting.now c.args.epoch earlier items _ _ _ sketches.feeds.family before view)
      c.change_text.ensures.text;
}
