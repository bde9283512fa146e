use Rattle.std.proofs.Common.{subst}
use Rattle.bound_certificate.specs.Problem.{Problem}
use Rattle.mon_call.specs.Call.{Answers, call_of}
use Rattle.mon_call.proofs.Behind.{answers_behind, picks_behind}
use Rattle.mon_call.proofs.Endings.{picks_unread}
use Rattle.mon_check.specs.Duty.{certify_duty, tree_reads}
use Rattle.mon_check.proofs.Certifying.{behind}
use Rattle.mon_check.proofs.checking.check_tree.Goals as goal

pub returns-in-Err-clause-picks : goal.returns-in-Err-clause-picks
returns-in-Err-clause-picks g c =
    let before = g.I.Inputs.state c.args.inputs.now in
    let sink = g.K.Sink.state c.args.sink.now in
    picks_unread (g.I.Inputs.picks c.args.inputs.now) (g.I.Inputs.picks c.read_topology.new.inputs)
    (before.contents c.args.topology.now) c.args.topology.now
    (tree_reads c.args.tree.now) (call_of before (g.I.Inputs.state c.read_topology.new.inputs) sink sink)
    c.in-Err.status c.in-Err.ensures.reads c.in-Err.ensures.picks

pub returns-clause-answers : goal.returns-clause-answers
returns-clause-answers g c =
    let before = g.I.Inputs.state c.args.inputs.now in
    let mid = g.I.Inputs.state c.read_topology.new.inputs in
    let after = g.I.Inputs.state c.certify.new.inputs in
    let sink = g.K.Sink.state c.args.sink.now in
    let sink_after = g.K.Sink.state c.certify.new.sink in
    answers_behind before mid after sink sink_after c.certify.result
    (behind before.contents mid.contents c.args.topology.now c.args.tree.now c.in-Ok.network before mid
    c.in-Ok.ensures.stays c.in-Ok.ensures.reads.0 c.in-Ok.ensures.reads.1)
    c.in-Ok.ensures.later
    (subst (λ (problem : Problem). Answers (certify_duty mid.contents c.args.tree.now problem)
    (call_of mid after sink sink_after) c.certify.result)
    c.problem.ensures.problem c.certify.ensures.answers)

pub returns-clause-picks : goal.returns-clause-picks
returns-clause-picks g c =
    let before = g.I.Inputs.state c.args.inputs.now in
    let mid = g.I.Inputs.state c.read_topology.new.inputs in
    let after = g.I.Inputs.state c.certify.new.inputs in
    let sink = g.K.Sink.state c.args.sink.now in
    let sink_after = g.K.Sink.state c.certify.new.sink in
    picks_behind (g.I.Inputs.picks c.args.inputs.now) (g.I.Inputs.picks c.read_topology.new.inputs)
    (g.I.Inputs.picks c.certify.new.inputs)
    c.args.topology.now (tree_reads c.args.tree.now) before mid after sink sink_after c.certify.result
    (behind before.contents mid.contents c.args.topology.now c.args.tree.now c.in-Ok.network before mid
    c.in-Ok.ensures.stays c.in-Ok.ensures.reads.0 c.in-Ok.ensures.reads.1)
    (subst (λ (problem : Problem). Answers (certify_duty mid.contents c.args.tree.now problem)
    (call_of mid after sink sink_after) c.certify.result)
    c.problem.ensures.problem c.certify.ensures.answers)
    c.in-Ok.ensures.picks c.certify.ensures.picks
