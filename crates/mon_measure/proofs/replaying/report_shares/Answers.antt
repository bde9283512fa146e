use Rattle.std.proofs.Common.{◌≡◌, ◌^◌, List, None, length, All, refl, sym, ◌∙◌, ap, subst, arith}
use Rattle.std.proofs.lemmas.Int.{to_z-of_z}
use Rattle.std.specs.Int.{w128}
use Rattle.count_sketch.specs.Counters.{AllUpTo}
use Rattle.measure_report.specs.Run.{Reported, form_of}
use Rattle.mon_call.specs.declared.status.Status.{Status}
use Rattle.mon_trace.proofs.Limits.{few_routed, in_eight_epochs}
use Rattle.sketch_merge.specs.Merged.{HaveUpTo, View}
use Rattle.measure_answers.specs.Reported.{ReportsShares, shares_of}
use Rattle.measure_answers.specs.Text.{replaying_of}
use Rattle.mon_measure.proofs.Accepted.{heavy_few}
use Rattle.mon_measure.proofs.Replays.{few_enough, finished, given_up, settings_are, small_enough}
use Rattle.mon_measure.proofs.Texts.{run_is}
use Rattle.mon_measure.proofs.replaying.report_shares.Goals as goal

pub counts_of-counts-requires-clause-few : goal.counts_of-counts-requires-clause-few
counts_of-counts-requires-clause-few g c = few_routed c.requires.read

pub counts_of-counts-requires-clause-within : goal.counts_of-counts-requires-clause-within
counts_of-counts-requires-clause-within g c = in_eight_epochs c.requires.read

pub returns-in-Err-clause-reports : goal.returns-in-Err-clause-reports
returns-in-Err-clause-reports g c = λ r.
    let m = c.args.measuring.now in
    let shares = shares_of (form_of m.brief) m.setting m.solving c.args.network.now r.header r.members
    c.args.placement.now.sites c.args.bound in
    let before = g.S.Spawner.state c.args.crew.now in
    let after = g.S.Spawner.state c.replay.new.crew in
    let sink = g.K.Sink.state c.args.sink.now in
    subst (λ (s : Status). ReportsShares shares before after sink sink s) (sym c.stop_status.ensures.value)
    (given_up shares before after sink c.in-Err.stop
    (c.in-Err.ensures.replayed shares.replays refl refl (c.in-Ok.ensures.work r)))

pub new-run-requires-clause-heavy : goal.new-run-requires-clause-heavy
new-run-requires-clause-heavy g c = heavy_few c.args.measuring.now.setting c.requires.measuring.sketching.range

pub write_report-requires-clause-number : goal.write_report-requires-clause-number
write_report-requires-clause-number g c =
    let m = c.args.measuring.now in
    let r = c.requires.read in
    let replays = replaying_of m.setting m.solving c.args.network.now r.header r.members c.args.placement.now.sites in
    let has = c.in-Ok-replay.ensures.replayed replays refl refl (c.in-Ok.ensures.work r) in
    ap (λ (l : List View). length l) c.deref.ensures.value ∙ has.gathers.number
    ∙ sym (ap (λ (run : Reported). run.counts.epochs) c.new-run.ensures.value
    ∙ (c.counts_of-counts.ensures.epochs ∙ r.counts_are.epochs))

pub write_report-requires-clause-setting : goal.write_report-requires-clause-setting
write_report-requires-clause-setting g c =
    let m = c.args.measuring.now in
    let r = c.requires.read in
    let replays = replaying_of m.setting m.solving c.args.network.now r.header r.members c.args.placement.now.sites in
    let has = c.in-Ok-replay.ensures.replayed replays refl refl (c.in-Ok.ensures.work r) in
    let merged = c.in-Ok-replay.merged.items in
    let is = ap (λ (run : Reported). run.setting) c.new-run.ensures.value ∙ c.params_of.ensures in
    subst (λ (l : List View). All (λ (view : View). view.setting ≡ c.new-run.result.setting) l)
    (sym c.deref.ensures.value)
    (λ k d within. settings_are replays (g.S.Spawner.state c.args.crew.now).issued has.replay merged has.gathers k d within
    ∙ sym is)

pub write_report-requires-clause-small : goal.write_report-requires-clause-small
write_report-requires-clause-small g c =
    subst (λ (l : List View). All (λ (view : View). All (AllUpTo (2 ^ 44)) view.counters) l) (sym c.deref.ensures.value)
    (small_enough c.in-Ok-replay.merged.items (2 ^ 44) c.in-Ok-replay.ensures.small c.in-Ok-replay.ensures.light)

pub write_report-requires-clause-few : goal.write_report-requires-clause-few
write_report-requires-clause-few g c =
    subst (λ (l : List View). All (λ (view : View). HaveUpTo 1048576 view.keys) l) (sym c.deref.ensures.value)
    (few_enough 32768 1048576 (omega arith) c.in-Ok-replay.merged.items c.in-Ok-replay.ensures.few)

pub returns-in-Ok-write_report-clause-reports : goal.returns-in-Ok-write_report-clause-reports
returns-in-Ok-write_report-clause-reports g c = λ r.
    let m = c.args.measuring.now in
    let topo = c.args.network.now in
    let sites = c.args.placement.now.sites in
    let shares = shares_of (form_of m.brief) m.setting m.solving topo r.header r.members sites c.args.bound in
    let has = c.in-Ok-replay.ensures.replayed shares.replays refl refl (c.in-Ok.ensures.work r) in
    let merged = c.in-Ok-replay.merged.items in
    let counts = c.counts_of-counts in
    finished shares (g.S.Spawner.state c.args.crew.now) (g.S.Spawner.state c.replay.new.crew)
    (g.K.Sink.state c.args.sink.now) (g.K.Sink.state c.finish.new.sink) merged c.as_str.result.now c.finish.result has
    (c.as_str.ensures.value
    ∙ run_is (form_of m.brief) m.setting topo None c.args.read r counts.result
    (record {
      packets = counts.ensures.packets;
      keyed = counts.ensures.keyed;
      routed = counts.ensures.routed;
      epochs = counts.ensures.epochs;
      bytes_are = counts.ensures.bytes;
      each = counts.ensures.each;
    })
    sites c.args.bound merged c.new-run.result _ _ c.deref.result.now _ c.new-run.ensures.value
    (to_z-of_z w128 c.args.bound c.ranges.bound) c.params_of.ensures
    c.deref.ensures.value c.in-Ok-write_report.ensures.text)
    c.finish.ensures.finishes
