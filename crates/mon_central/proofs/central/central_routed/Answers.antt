use Rattle.std.proofs.Common.{None}
use Rattle.mon_call.specs.Call.{call_of}
use Rattle.mon_call.proofs.Behind.{answers_behind, picks_behind}
use Rattle.mon_call.proofs.Endings.{picks_unread}
use Rattle.mon_central.specs.Duty.{central_reads}
use Rattle.mon_central.proofs.Answered.{behind}
use Rattle.mon_central.proofs.central.central_routed.Goals as goal

pub returns-in-Err-clause-picks : goal.returns-in-Err-clause-picks
returns-in-Err-clause-picks g c =
    let before = g.I.Inputs.state c.args.inputs.now in
    let sink = g.K.Sink.state c.args.sink.now in
    picks_unread (g.I.Inputs.picks c.args.inputs.now) (g.I.Inputs.picks c.read_topology.new.inputs)
    (before.contents c.args.name.now) c.args.name.now
    (central_reads c.args.trace.now None) (call_of before (g.I.Inputs.state c.read_topology.new.inputs) sink sink)
    c.in-Err.status c.in-Err.ensures.reads c.in-Err.ensures.picks

pub returns-clause-answers : goal.returns-clause-answers
returns-clause-answers g c =
    let before = g.I.Inputs.state c.args.inputs.now in
    let mid = g.I.Inputs.state c.read_topology.new.inputs in
    answers_behind before mid (g.I.Inputs.state c.report.new.inputs) (g.K.Sink.state c.args.sink.now)
    (g.K.Sink.state c.report.new.sink) c.report.result
    (behind before.contents mid.contents c.args.trace.now c.args.name.now c.in-Ok.topology c.args.setting.now before mid
    c.in-Ok.ensures.stays c.in-Ok.ensures.reads.0 c.in-Ok.ensures.reads.1)
    c.in-Ok.ensures.later c.report.ensures.answers

pub returns-clause-picks : goal.returns-clause-picks
returns-clause-picks g c =
    let before = g.I.Inputs.state c.args.inputs.now in
    let mid = g.I.Inputs.state c.read_topology.new.inputs in
    picks_behind (g.I.Inputs.picks c.args.inputs.now) (g.I.Inputs.picks c.read_topology.new.inputs)
    (g.I.Inputs.picks c.report.new.inputs)
    c.args.name.now (central_reads c.args.trace.now None) before mid (g.I.Inputs.state c.report.new.inputs)
    (g.K.Sink.state c.args.sink.now) (g.K.Sink.state c.report.new.sink) c.report.result
    (behind before.contents mid.contents c.args.trace.now c.args.name.now c.in-Ok.topology c.args.setting.now before mid
    c.in-Ok.ensures.stays c.in-Ok.ensures.reads.0 c.in-Ok.ensures.reads.1)
    c.report.ensures.answers c.in-Ok.ensures.picks c.report.ensures.picks
