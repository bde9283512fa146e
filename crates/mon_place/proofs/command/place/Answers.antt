use Rattle.mon_call.specs.CrewCall.{crew_call_of}
use Rattle.std.proofs.Common.{refl}
use Rattle.mon_place.proofs.Answered.{picks_topology, unread}
use Rattle.mon_place.proofs.Kept.{keeps_crew}
use Rattle.mon_place.proofs.command.place.Goals as goal

pub returns-in-Err-clause-picks : goal.returns-in-Err-clause-picks
returns-in-Err-clause-picks g c =
    let inputs = g.I.Inputs.state c.args.inputs.now in
    let crew = g.S.Spawner.state c.args.crew.now in
    let sink = g.K.Sink.state c.args.sink.now in
    let call = crew_call_of inputs (g.I.Inputs.state c.read_topology.new.inputs) crew crew sink sink in
    let contents = inputs.contents c.args.topology.now in
    picks_topology (g.I.Inputs.picks c.args.inputs.now) (g.I.Inputs.picks c.read_topology.new.inputs) contents
    c.args.topology.now c.args.solving call c.in-Err.status
    (unread contents c.args.solving call c.in-Err.status refl refl c.in-Err.ensures.reads) c.in-Err.ensures.picks

pub returns-clause-answers : goal.returns-clause-answers
returns-clause-answers g c =
    let inputs = g.I.Inputs.state c.args.inputs.now in
    c.search.ensures.answers (inputs.contents c.args.topology.now) inputs (g.I.Inputs.state c.read_topology.new.inputs)
    c.in-Ok.ensures.reads.0

pub returns-clause-picks : goal.returns-clause-picks
returns-clause-picks g c =
    let inputs = g.I.Inputs.state c.args.inputs.now in
    let after = g.I.Inputs.state c.read_topology.new.inputs in
    let contents = inputs.contents c.args.topology.now in
    picks_topology (g.I.Inputs.picks c.args.inputs.now) (g.I.Inputs.picks c.read_topology.new.inputs) contents
    c.args.topology.now c.args.solving
    (crew_call_of inputs after (g.S.Spawner.state c.args.crew.now) (g.S.Spawner.state c.search.new.crew)
    (g.K.Sink.state c.args.sink.now) (g.K.Sink.state c.search.new.sink))
    c.search.result (c.search.ensures.answers contents inputs after c.in-Ok.ensures.reads.0) c.in-Ok.ensures.picks

pub returns-clause-keeps : goal.returns-clause-keeps
returns-clause-keeps g c =
    let inputs = g.I.Inputs.state c.args.inputs.now in
    let after = g.I.Inputs.state c.read_topology.new.inputs in
    let contents = inputs.contents c.args.topology.now in
    keeps_crew contents c.args.solving
    (crew_call_of inputs after (g.S.Spawner.state c.args.crew.now) (g.S.Spawner.state c.search.new.crew)
    (g.K.Sink.state c.args.sink.now) (g.K.Sink.state c.search.new.sink))
    c.search.result
    (record { contents = c.in-Ok.ensures.stays; inputs_later = c.in-Ok.ensures.later; sink_later = c.search.ensures.later })
    c.requires.none_out (c.search.ensures.answers contents inputs after c.in-Ok.ensures.reads.0)
