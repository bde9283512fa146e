use Rattle.std.proofs.Common.{◌∙◌, ap}
use Rattle.hash_family.specs.Setting as sketch
use Rattle.sketch_levels.proofs.Standing.{number_of-all}
use Rattle.mon_central.proofs.Ranges.{if_ok_weaker}
use Rattle.mon_central.proofs.Views.{block_is}
use Rattle.mon_central.proofs.sketching.Sketched.block.Goals as goal

pub level_counts-requires-clause-levels : goal.level_counts-requires-clause-levels
level_counts-requires-clause-levels c = ap (λ (s : sketch.Setting). s.levels) c.requires.merged.shape

pub returns : goal.returns
returns c = record {
  text = if_ok_weaker c.epoch_text.result (λ text is items sketches view.
      is ∙ block_is c.args.setting.now c.args.epoch items _ _ _ _ sketches.feeds.family
      (sketches.feeds.number_is ∙ number_of-all sketches.counted items sketches.count) view
      (c.deref.ensures.value ∙ c.in_ok-counts.ensures.value items sketches view)) c.epoch_text.ensures.text;
}
