use Rattle.std.proofs.Common.{ℕ, List, Option, Some, Err, refl, ◌∙◌, ap, subst, arith}
use Rattle.measure_report.specs.Run.{form_of}
use Rattle.mon_call.specs.CrewCall.{crew_call_of}
use Rattle.std.proofs.lemmas.Option.{same_Some}
use Rattle.mon_call.specs.Topology.{SpellTopology}
use Rattle.topology.specs.Topology.{Topo}
use Rattle.mon_trace.specs.Reading.{IsRead, IsRefused}
use Rattle.measure_answers.proofs.Answered.{picks_both, picks_first, picks_second, untraced}
use Rattle.measure_answers.proofs.Kept.{keeps_measure}
use Rattle.measure_answers.specs.Replayed.{contents_of}
use Rattle.mon_measure.proofs.Searches.{read_for, reads_for}
use Rattle.mon_measure.proofs.command.measure.Goals as goal

pub returns-in-Err-clause-picks : goal.returns-in-Err-clause-picks
returns-in-Err-clause-picks g c =
    let inputs = g.I.Inputs.state c.args.inputs.now in
    picks_first (g.I.Inputs.picks c.args.inputs.now) (g.I.Inputs.picks c.read_topology.new.inputs)
    (inputs.contents c.args.topology.now) inputs (g.I.Inputs.state c.read_topology.new.inputs) c.args.topology.now
    c.args.trace.now c.in-Err.status c.in-Err.ensures.reads c.in-Err.ensures.picks

pub returns-in-Err-read_trace-clause-answers : goal.returns-in-Err-read_trace-clause-answers
returns-in-Err-read_trace-clause-answers g c =
    let m = c.args.measuring.now in
    let inputs = g.I.Inputs.state c.args.inputs.now in
    let mid = g.I.Inputs.state c.read_topology.new.inputs in
    let later = g.I.Inputs.state c.read_trace.new.inputs in
    let crew = g.S.Spawner.state c.args.crew.now in
    let sink = g.K.Sink.state c.args.sink.now in
    let contents = contents_of inputs c.args.topology.now c.args.trace.now in
    untraced (form_of m.brief) contents m.setting m.solving (crew_call_of inputs later crew crew sink sink) refl refl
    (IsRead contents.trace (Some c.in-Ok.network) m.setting.division) c.in-Ok.network mid c.in-Err-read_trace.status
    c.in-Ok.ensures.reads.0 c.in-Ok.ensures.reads.1 c.in-Ok.ensures.later
    (reads_for contents.trace (mid.contents c.args.trace.now) (Some c.in-Ok.network) m.setting.division mid later
    (Err c.in-Err-read_trace.status) (ap (λ (k : List ℕ → Option (List ℕ)). k c.args.trace.now) c.in-Ok.ensures.stays)
    c.in-Err-read_trace.ensures.read)

pub returns-in-Err-read_trace-clause-picks : goal.returns-in-Err-read_trace-clause-picks
returns-in-Err-read_trace-clause-picks g c =
    let division = c.args.measuring.now.setting.division in
    let told = (g.I.Inputs.state c.read_topology.new.inputs).contents c.args.trace.now in
    picks_second (g.I.Inputs.picks c.args.inputs.now) (g.I.Inputs.picks c.read_topology.new.inputs)
    (g.I.Inputs.picks c.read_trace.new.inputs) (IsRead told (Some c.in-Ok.network) division) (IsRefused told division)
    told (g.I.Inputs.state c.read_topology.new.inputs)
    (g.I.Inputs.state c.read_trace.new.inputs) c.args.topology.now c.args.trace.now c.in-Err-read_trace.status
    c.in-Err-read_trace.ensures.read c.in-Ok.ensures.picks c.in-Err-read_trace.ensures.picks

pub returns-clause-answers : goal.returns-clause-answers
returns-clause-answers g c =
    let inputs = g.I.Inputs.state c.args.inputs.now in
    let later = g.I.Inputs.state c.read_trace.new.inputs in
    let mid = g.I.Inputs.state c.read_topology.new.inputs in
    let contents = contents_of inputs c.args.topology.now c.args.trace.now in
    let same = same_Some c.in-Ok.network c.unwrap.result c.unwrap.ensures in
    c.search-2.ensures.answers contents inputs later
    (subst (λ (t : Topo). SpellTopology contents.topology t) same c.in-Ok.ensures.reads.0)
    (read_for contents.trace (mid.contents c.args.trace.now) c.in-Ok.network c.unwrap.result
    c.args.measuring.now.setting.division c.in-Ok-read_trace.read
    (ap (λ (k : List ℕ → Option (List ℕ)). k c.args.trace.now) c.in-Ok.ensures.stays) same
    c.in-Ok-read_trace.ensures.read)

pub returns-clause-picks : goal.returns-clause-picks
returns-clause-picks g c =
    picks_both (g.I.Inputs.picks c.args.inputs.now) (g.I.Inputs.picks c.read_topology.new.inputs)
    (g.I.Inputs.picks c.read_trace.new.inputs) c.args.topology.now c.args.trace.now c.search-2.result
    c.search-2.ensures.late c.in-Ok.ensures.picks c.in-Ok-read_trace.ensures.picks

pub returns-clause-keeps : goal.returns-clause-keeps
returns-clause-keeps g c =
    let m = c.args.measuring.now in
    let inputs = g.I.Inputs.state c.args.inputs.now in
    let mid = g.I.Inputs.state c.read_topology.new.inputs in
    let later = g.I.Inputs.state c.read_trace.new.inputs in
    keeps_measure (form_of m.brief) (contents_of inputs c.args.topology.now c.args.trace.now) m.setting m.solving
    (crew_call_of inputs later (g.S.Spawner.state c.args.crew.now) (g.S.Spawner.state c.search-2.new.crew)
    (g.K.Sink.state c.args.sink.now) (g.K.Sink.state c.search-2.new.sink))
    (record {
      contents = c.in-Ok-read_trace.ensures.stays ∙ c.in-Ok.ensures.stays;
      inputs_later = omega (arith, c.in-Ok.ensures.later, c.in-Ok-read_trace.ensures.later);
      sink_later = c.search-2.ensures.later;
    })
    c.requires.none_out c.search-2.result (returns-clause-answers g c)
