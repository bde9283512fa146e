use Rattle.std.proofs.Common.{◌<◌, [], length, slice_index_or, string_bytes, ◌∙◌, ap, arith, inr}
use Rattle.std.proofs.lemmas.List.{length-map}
use Rattle.mon_call.specs.CrewCall.{crew_call_of}
use Rattle.mon_words.specs.Values.{Values, name_count}
use Rattle.mon_command.proofs.Asking.{measured_in, name_at}
use Rattle.mon_command.proofs.crewed.measure_named.Goals as goal

pub returns-clause-outcome : goal.returns-clause-outcome
returns-clause-outcome g c =
    let items = c.words.inside.names.items in
    let two : 1 < length items = omega (
      arith,
      c.requires.range.names,
      ap name_count c.requires.command,
      ap (λ (v : Values). length v.names) c.words.view_is,
      length-map items string_bytes,
    ) in
    measured_in (g.I.Inputs.picks c.args.inputs.now) (g.I.Inputs.picks c.measure.new.inputs) c.args.words.now
    (crew_call_of (g.I.Inputs.state c.args.inputs.now) (g.I.Inputs.state c.measure.new.inputs)
    (g.S.Spawner.state c.args.crew.now) (g.S.Spawner.state c.measure.new.crew) (g.K.Sink.state c.args.sink.now)
    (g.K.Sink.state c.measure.new.sink))
    c.measure.result c.as_str-topology.result.now c.as_str-trace.result.now c.of.result c.solving_of.result
    c.requires.command
    (c.as_str-topology.ensures.value
    ∙ name_at items 0 c.index.result.now (omega (arith, two)) c.index.ensures
    ∙ ap (λ (v : Values). slice_index_or v.names 0 []) c.words.view_is)
    (c.as_str-trace.ensures.value
    ∙ name_at items 1 c.index-2.result.now two c.index-2.ensures
    ∙ ap (λ (v : Values). slice_index_or v.names 1 []) c.words.view_is)
    c.of.ensures.value c.solving_of.ensures.value
    (record {
      limits = inr c.solving_of.ensures.limits;
      answers = c.measure.ensures.answers;
      picks = c.measure.ensures.picks;
    })
