use Rattle.std.proofs.Common.{◌≡◌, ◌<◌, [], length, slice_index_or, string_bytes, ◌∙◌, ap, arith, inr, refl, rules}
use Rattle.std.proofs.lemmas.List.{length-map}
use Rattle.mon_call.specs.CrewCall.{crew_call_of}
use Rattle.mon_words.specs.Values.{Values, name_count}
use Rattle.mon_words.specs.declared.command.Command.TheVariants.{Drill, Place}
use Rattle.mon_command.proofs.Asking.{drilled_in, name_at, placed_in}
use Rattle.mon_command.proofs.crewed.perform_with.Goals as goal

pub returns-in-Place-clause-outcome : goal.returns-in-Place-clause-outcome
returns-in-Place-clause-outcome g c =
    let is : c.args.words.now.command ≡ Place = search rules in
    let items = c.words.inside.names.items in
    let some : 0 < length items = omega (
      arith,
      c.requires.range.names,
      ap name_count is,
      ap (λ (v : Values). length v.names) c.words.view_is,
      length-map items string_bytes,
    ) in
    placed_in (g.I.Inputs.picks c.args.inputs.now) (g.I.Inputs.picks c.place.new.inputs) c.args.words.now
    (crew_call_of (g.I.Inputs.state c.args.inputs.now) (g.I.Inputs.state c.place.new.inputs)
    (g.S.Spawner.state c.args.crew.now) (g.S.Spawner.state c.place.new.crew) (g.K.Sink.state c.args.sink.now)
    (g.K.Sink.state c.place.new.sink))
    c.place.result c.as_str-topology.result.now c.solving_of.result is
    (c.as_str-topology.ensures.value
    ∙ name_at items 0 c.index.result.now some c.index.ensures
    ∙ ap (λ (v : Values). slice_index_or v.names 0 []) c.words.view_is)
    c.solving_of.ensures.value c.solving_of.ensures.limits c.place.ensures.answers c.place.ensures.picks

pub returns-in-Drill-clause-outcome : goal.returns-in-Drill-clause-outcome
returns-in-Drill-clause-outcome g c =
    let is : c.args.words.now.command ≡ Drill = search rules in
    let picks = g.I.Inputs.picks c.args.inputs.now in
    let inputs = g.I.Inputs.state c.args.inputs.now in
    drilled_in picks picks c.args.words.now
    (crew_call_of inputs inputs (g.S.Spawner.state c.args.crew.now) (g.S.Spawner.state c.drill_of.new.crew)
    (g.K.Sink.state c.args.sink.now) (g.K.Sink.state c.drill_of.new.sink)) c.drill_of.result is
    (record {
      limits = inr c.drill_of.ensures.limits;
      drills = c.drill_of.ensures.drills;
      none = λ earlier stood. stood;
      stays = refl;
    })

pub returns-in-Drill-clause-keeps : goal.returns-in-Drill-clause-keeps
returns-in-Drill-clause-keeps g c = c.drill_of.ensures.keeps (g.I.Inputs.state c.args.inputs.now)
