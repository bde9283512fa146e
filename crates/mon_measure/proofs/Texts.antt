-- The text of a run is that of its trace.
use Rattle.std.proofs.Common.{◌≡◌, ◌<◌, ℕ, ℤ, Bool, List, length, Option, Some, refl, ◌∙◌, ap, arith}
use Rattle.std.specs.Prelude.{slice_index}
use Rattle.change_report.specs.Form.{Form}
use Rattle.hash_family.specs.Setting as sketch
use Rattle.measure_report.specs.Report.{report_text}
use Rattle.measure_report.specs.Run.{Reported, run_text, view_in}
use Rattle.measure_report.specs.declared.counts.Counts.{Counts}
use Rattle.measure_report.proofs.Reports.{same_report}
use Rattle.mon_call.specs.declared.setting.Setting.{Setting}
use Rattle.mon_trace.specs.Reading.{IsRead}
use Rattle.mon_trace.specs.declared.reading.RoutedTrace.{RoutedTrace}
use Rattle.mon_trace.proofs.Limits.{few_epochs}
use Rattle.replay_places.specs.Epochs.{no_view, view_at}
use Rattle.routed_trace.specs.Routed.{items_in}
use Rattle.sketch_merge.specs.Merged.{View}
use Rattle.topology.specs.Topology.{Topo}
use Rattle.measure_answers.specs.Text.{epochs_of, measure_text, packets_of, sketch_setting}

-- the numbers of a trace are those of its records
pub record AreOf (read : RoutedTrace) (bytes : Bool) (counts : Counts) : Type 0 where
  pub packets : counts.packets ≡ read.counts.packets
  pub keyed : counts.keyed ≡ read.counts.keyed
  pub routed : counts.routed ≡ read.counts.routed
  pub epochs : counts.epochs ≡ read.counts.epochs
  pub bytes_are : counts.bytes ≡ bytes
  pub each : (epoch : ℕ) → epoch < 8 → slice_index counts.epoch_packets epoch ≡ length (items_in epoch read.routed.items)

module _ (form : Form) (setting : Setting) (topo : Topo) (contents : Option (List ℕ)) (read : RoutedTrace)
    (is : IsRead contents (Some topo) setting.division read) (counts : Counts)
    (are : AreOf read setting.division.bytes counts)
    (placement : List ℕ) (bound : ℤ) (merged : List View)
  where
    abbrev run : Reported
    run = record {
      form = form;
      topo = topo;
      setting = sketch_setting setting;
      counts = counts;
      placement = placement;
      bound = bound;
      heavy = setting.heavy;
    }

    packets_are : (epoch : ℕ) → epoch < epochs_of setting is.header is.members
        → slice_index counts.epoch_packets epoch
        ≡ length (items_in epoch (packets_of setting topo is.header is.members))
    packets_are epoch within =
        are.each epoch (omega (arith, within, is.counts_are.epochs, few_epochs is))
        ∙ ap (λ routed. length (items_in epoch routed)) is.list

    pub text_is : report_text form topo (sketch_setting setting) counts.bytes setting.heavy counts.packets counts.keyed
        counts.routed counts.epochs (λ epoch. slice_index counts.epoch_packets epoch) placement bound (view_at merged)
        ≡ measure_text form setting topo is.header is.members placement bound (view_at merged)
    text_is =
        (λ i. report_text form topo (sketch_setting setting) (are.bytes_are i) setting.heavy
        ((are.packets ∙ is.counts_are.packets) i) ((are.keyed ∙ is.counts_are.keyed) i)
        ((are.routed ∙ is.counts_are.routed) i) ((are.epochs ∙ is.counts_are.epochs) i)
        (λ epoch. slice_index counts.epoch_packets epoch) placement bound (view_at merged))
        ∙ same_report form topo (sketch_setting setting) setting.division.bytes setting.heavy (length is.members) _ _
        (epochs_of setting is.header is.members) (λ epoch. slice_index counts.epoch_packets epoch)
        (λ epoch. length (items_in epoch (packets_of setting topo is.header is.members))) placement bound
        (view_at merged) (view_at merged) packets_are (λ epoch within. refl)

    pub run_is : (given : Reported) (params : sketch.Setting) (told : ℤ) (views : List View) (text : List ℕ)
        → given ≡ record {
          form = form;
          topo = topo;
          setting = params;
          counts = counts;
          placement = placement;
          bound = told;
          heavy = setting.heavy;
        } → told ≡ bound → params ≡ sketch_setting setting → views ≡ merged
        → ((other : View) → text ≡ run_text given (view_in views other))
        → text ≡ measure_text form setting topo is.header is.members placement bound (view_at merged)
    run_is given params told views text same least numbers list says =
        says no_view
        ∙ ap (λ (run : Reported). run_text run (view_in views no_view)) same
        ∙ ap (λ (z : ℤ). run_text (record {
          form = form;
          topo = topo;
          setting = params;
          counts = counts;
          placement = placement;
          bound = z;
          heavy = setting.heavy;
        }) (view_in views no_view)) least
        ∙ ap (λ (s : sketch.Setting). run_text (record {
          form = form;
          topo = topo;
          setting = s;
          counts = counts;
          placement = placement;
          bound = bound;
          heavy = setting.heavy;
        }) (view_in views no_view)) numbers
        ∙ ap (λ (l : List View). run_text run (view_in l no_view)) list ∙ text_is
