use Rattle.std.proofs.Common.{refl, subst}
use Rattle.change_report.specs.Form.{Brief}
use Rattle.measure_answers.specs.Measure.{MeasureAnswers}
use Rattle.measure_answers.specs.Replayed.{Contents}
use Rattle.mon_call.specs.CrewCall.{crew_call_of}
use Rattle.mon_io.specs.NeverInputs.{never_inputs_state}
use Rattle.mon_drill.proofs.Made.{made_are}
use Rattle.mon_drill.proofs.Wanting.{drill_wanting, stays_calm}
use Rattle.mon_drill.proofs.command.drill.Goals as goal

pub returns-in_default-clause-drills : goal.returns-in_default-clause-drills
returns-in_default-clause-drills g c =
    let crew = g.S.Spawner.state c.args.crew.now in
    let sink = g.K.Sink.state c.args.sink.now in
    drill_wanting c.args.packets c.args.flows c.args.setting.now c.args.solving crew crew sink sink refl refl

pub returns-clause-drills : goal.returns-clause-drills
returns-clause-drills g c =
    let files = never_inputs_state c.new-inputs.result in
    let files_after = never_inputs_state c.measure.new.inputs in
    let is = made_are files c.in-Ok.files.items c.args.setting.now.seed c.args.packets c.args.flows
    c.new-inputs.ensures.contents c.in-Ok.ensures.topology c.in-Ok.ensures.trace in
    record {
      files = files;
      files_after = files_after;
      calm = stays_calm;
      answers = subst (λ (contents : Contents). MeasureAnswers Brief contents c.args.setting.now c.args.solving
          (crew_call_of files files_after (g.S.Spawner.state c.args.crew.now) (g.S.Spawner.state c.measure.new.crew)
          (g.K.Sink.state c.args.sink.now) (g.K.Sink.state c.measure.new.sink)) c.measure.result) is
          c.measure.ensures.answers;
    }
