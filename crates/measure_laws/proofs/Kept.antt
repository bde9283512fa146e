-- The lines of a measure whose children are honest, where no heap dropped a key.
use Rattle.std.proofs.Common.{◌≡◌, ℕ, ◌-◌, ◌<◌, ℤ, false, List, length, sym, ◌∙◌, ap, subst, arith}
use Rattle.change_report.specs.Block.{level_lines}
use Rattle.change_report.specs.Form.{Form, Whole, change_block, epoch_block}
use Rattle.flow_keys.specs.declared.routed.Routed.{Routed}
use Rattle.honest_logs.specs.Honest.{IsHonest}
use Rattle.measure_answers.specs.Replayed.{Contents, HasReplies, IsMeasured}
use Rattle.measure_answers.specs.Text.{epochs_of, measure_text, packets_of, sketch_setting}
use Rattle.measure_laws.proofs.Central.{block_without_levels, change_is_central, view_is_central}
use Rattle.measure_laws.specs.Central.{IsWithout, all_kept, central_at, epoch_items}
use Rattle.measure_report.proofs.EpochLines.{lines_by_blocks}
use Rattle.measure_report.proofs.Reports.{report_by_lines}
use Rattle.mon_call.specs.CrewCall.{CrewCall}
use Rattle.mon_call.specs.declared.setting.Setting.{Setting}
use Rattle.mon_central.specs.Central.{block_of, change_of, level_counts}
use Rattle.replay_places.specs.Epochs.{view_at}
use Rattle.routed_trace.specs.Routed.{keyed_in}
use Rattle.sketch_merge.specs.Merged.{View}
use Rattle.solve_phase.specs.declared.solving.Solving.{Solving}

module _ (contents : Contents) (setting : Setting) (solving : Solving) (c : CrewCall)
    (has : HasReplies contents setting solving c) (honest : IsHonest has.gathers.plan has.replay)
  where
    abbrev packets : List Routed
    packets = packets_of setting has.placed.topo has.placed.traced.header has.placed.traced.members

    abbrev epochs : ℕ
    epochs = epochs_of setting has.placed.traced.header has.placed.traced.members

    abbrev view : ℕ → View
    view = view_at has.merged

    abbrev central : ℕ → View
    central = central_at setting has.placed.topo has.placed.traced.header has.placed.traced.members

    abbrev items : ℕ → ℕ
    items epoch =
        length (epoch_items setting has.placed.topo has.placed.traced.header has.placed.traced.members epoch)

    pub block_as_central : (epoch : ℕ) → epoch < epochs → (view epoch).dropped ≡ false
        → IsWithout (block_of (all_kept setting) epoch
        (epoch_items setting has.placed.topo has.placed.traced.header has.placed.traced.members epoch))
        (level_lines 0 (level_counts (all_kept setting)
        (epoch_items setting has.placed.topo has.placed.traced.header has.placed.traced.members epoch)))
        (epoch_block Whole setting.seed setting.heavy epoch (items epoch) (view epoch))
    block_as_central epoch within kept =
        subst (IsWithout (block_of (all_kept setting) epoch
        (epoch_items setting has.placed.topo has.placed.traced.header has.placed.traced.members epoch))
        (level_lines 0 (level_counts (all_kept setting)
        (epoch_items setting has.placed.topo has.placed.traced.header has.placed.traced.members epoch))))
        (sym ((has.whole honest).block Whole setting.heavy epoch (items epoch) within kept))
        (block_without_levels setting packets epoch)

    pub change_as_central : (epoch : ℕ) → 0 < epoch → epoch < epochs → (view (epoch - 1)).dropped ≡ false
        → (view epoch).dropped ≡ false
        → change_block Whole setting.seed setting.heavy epoch (view (epoch - 1)) (view epoch)
        ≡ change_of (all_kept setting) epoch
        (epoch_items setting has.placed.topo has.placed.traced.header has.placed.traced.members (epoch - 1))
        (epoch_items setting has.placed.topo has.placed.traced.header has.placed.traced.members epoch)
    change_as_central epoch later within before kept =
        (has.whole honest).change Whole setting.heavy epoch later within before kept
        ∙ change_is_central setting packets epoch

    -- the text, where no heap of any epoch dropped a key
    text_as_central : (form : Form) (bound : ℤ)
        → ((epoch : ℕ) → epoch < epochs → (view epoch).dropped ≡ false)
        → measure_text form setting has.placed.topo has.placed.traced.header has.placed.traced.members
        has.placed.placement.sites bound view
        ≡ measure_text form setting has.placed.topo has.placed.traced.header has.placed.traced.members
        has.placed.placement.sites bound central
    text_as_central form bound kept =
        report_by_lines form has.placed.topo (sketch_setting setting) setting.division.bytes setting.heavy
        (length has.placed.traced.members) (keyed_in has.placed.traced.header has.placed.traced.members)
        (length packets) epochs items items has.placed.placement.sites bound view central
        (λ epoch within. lines_by_blocks form setting.seed setting.heavy items items view central epoch
        ((has.whole honest).block form setting.heavy epoch (items epoch) within (kept epoch within)
        ∙ ap (epoch_block form setting.seed setting.heavy epoch (items epoch)) (view_is_central setting packets epoch))
        (λ later.
        (has.whole honest).change form setting.heavy epoch later within (kept (epoch - 1) (omega (arith, within)))
        (kept epoch within)
        ∙ (λ i. change_block form setting.seed setting.heavy epoch (view_is_central setting packets (epoch - 1) i)
        (view_is_central setting packets epoch i))))

pub measured_as_central : (form : Form) (contents : Contents) (setting : Setting) (solving : Solving) (c : CrewCall)
    (text : List ℕ) (m : IsMeasured contents setting solving c form text)
    → IsHonest m.has.gathers.plan m.has.replay
    → ((epoch : ℕ) → epoch < epochs_of setting m.has.placed.traced.header m.has.placed.traced.members
    → (view_at m.has.merged epoch).dropped ≡ false)
    → text ≡ measure_text form setting m.has.placed.topo m.has.placed.traced.header m.has.placed.traced.members
    m.has.placed.placement.sites m.bound
    (central_at setting m.has.placed.topo m.has.placed.traced.header m.has.placed.traced.members)
measured_as_central form contents setting solving c text m honest kept =
    m.lines ∙ text_as_central contents setting solving c m.has honest form m.bound kept
