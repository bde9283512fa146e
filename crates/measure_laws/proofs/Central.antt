-- The lines of a sketch with every live key are those of `central`.
use Rattle.std.proofs.Common.{◌≡◌, ℕ, ◌-◌, List, [], ◌++◌, length, refl, sym, ap, subst}
use Rattle.change_report.specs.Block.{block_text, cardinality_line, epoch_line, heavy_lines, level_lines, total_line}
use Rattle.change_report.specs.Form.{Whole, change_block, epoch_block}
use Rattle.count_sketch.specs.Counters.{Item}
use Rattle.flow_keys.specs.declared.routed.Routed.{Routed}
use Rattle.measure_laws.specs.Central.{IsWithout, all_kept}
use Rattle.measure_answers.specs.Text.{sketch_setting}
use Rattle.mon_call.specs.declared.setting.Setting.{Setting}
use Rattle.mon_central.specs.Central.{block_of, central_view, change_of, drops, kept_keys, level_counts}
use Rattle.path_shares.specs.Honest.{whole_view}
use Rattle.recursive_sum.specs.Select.{heavy_keys}
use Rattle.recursive_sum.specs.Sum.{recursive_sum}
use Rattle.recursive_sum.specs.declared.measure.G.TheVariants.{One, Value}
use Rattle.routed_trace.specs.Routed.{items_in}
use Rattle.sketch_merge.specs.Merged.{View}

-- the lines of `central` without those of the levels are the lines of its sketch
pub without_levels : (setting : Setting) (epoch : ℕ) (items : List Item)
    → IsWithout (block_of setting epoch items) (level_lines 0 (level_counts setting items))
    (epoch_block Whole setting.seed setting.heavy epoch (length items) (central_view setting items))
unfolding block_of block_text epoch_block level_lines
without_levels setting epoch items =
    let view = central_view setting items in record {
      front = epoch_line epoch (length items) view;
      back = cardinality_line (recursive_sum setting.seed One view)
          ++ (total_line (recursive_sum setting.seed Value view)
          ++ heavy_lines (heavy_keys setting.seed setting.heavy view));
      whole = refl;
      left = refl;
    }

module _ (setting : Setting) (routed : List Routed) where
  -- the sketch of an epoch with every live key is that of `central`
  pub view_is_central : (epoch : ℕ)
      → whole_view (sketch_setting setting) routed epoch ≡ central_view (all_kept setting) (items_in epoch routed)
  unfolding whole_view central_view kept_keys drops
  view_is_central epoch = refl

  -- so are its lines
  pub block_is_central : (epoch : ℕ)
      → epoch_block Whole setting.seed setting.heavy epoch (length (items_in epoch routed))
      (whole_view (sketch_setting setting) routed epoch)
      ≡ block_text setting.seed epoch (length (items_in epoch routed))
      (central_view (all_kept setting) (items_in epoch routed)) [] setting.heavy
  unfolding epoch_block
  block_is_central epoch =
      ap (λ (view : View). block_text setting.seed epoch (length (items_in epoch routed)) view [] setting.heavy)
      (view_is_central epoch)

  -- but for those of the levels
  pub block_without_levels : (epoch : ℕ)
      → IsWithout (block_of (all_kept setting) epoch (items_in epoch routed))
      (level_lines 0 (level_counts (all_kept setting) (items_in epoch routed)))
      (epoch_block Whole setting.seed setting.heavy epoch (length (items_in epoch routed))
      (whole_view (sketch_setting setting) routed epoch))
  block_without_levels epoch =
      subst (λ (view : View). IsWithout (block_of (all_kept setting) epoch (items_in epoch routed))
      (level_lines 0 (level_counts (all_kept setting) (items_in epoch routed)))
      (epoch_block Whole setting.seed setting.heavy epoch (length (items_in epoch routed)) view))
      (sym (view_is_central epoch)) (without_levels (all_kept setting) epoch (items_in epoch routed))

  -- the lines of a change are those of `central`
  pub change_is_central : (epoch : ℕ)
      → change_block Whole setting.seed setting.heavy epoch (whole_view (sketch_setting setting) routed (epoch - 1))
      (whole_view (sketch_setting setting) routed epoch)
      ≡ change_of (all_kept setting) epoch (items_in (epoch - 1) routed) (items_in epoch routed)
  unfolding change_block change_of
  change_is_central epoch =
      λ i. change_block Whole setting.seed setting.heavy epoch (view_is_central (epoch - 1) i) (view_is_central epoch i)
