use Rattle.std.proofs.Common.{arith}
use Rattle.mon_call.proofs.Behind.{answers_behind}
use Rattle.mon_central.proofs.Answered.{alone}
use Rattle.mon_central.proofs.central.central_alone.Goals as goal

pub returns-clause-answers : goal.returns-clause-answers
returns-clause-answers g c =
    let before = g.I.Inputs.state c.args.inputs.now in
    answers_behind before before (g.I.Inputs.state c.report.new.inputs) (g.K.Sink.state c.args.sink.now)
    (g.K.Sink.state c.report.new.sink) c.report.result
    (alone before.contents c.args.trace.now c.args.setting.now before.rest) (omega arith) c.report.ensures.answers
