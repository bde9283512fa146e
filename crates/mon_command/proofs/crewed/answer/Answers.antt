use Rattle.std.proofs.Common.{map, refl, string_bytes, true}
use Rattle.mon_call.specs.CrewCall.{crew_call_of}
use Rattle.mon_command.specs.Asked.{asked_of}
use Rattle.mon_command.proofs.Asking.{crew_wanting}
use Rattle.mon_command.proofs.crewed.answer.Goals as goal

pub returns-in-Err-Memory-clause-outcome : goal.returns-in-Err-Memory-clause-outcome
returns-in-Err-Memory-clause-outcome g c =
    let inputs = g.I.Inputs.state c.args.inputs.now in
    let crew = g.S.Spawner.state c.args.crew.now in
    let sink = g.K.Sink.state c.args.sink.now in
    crew_wanting (g.I.Inputs.picks c.args.inputs.now) (g.I.Inputs.picks c.args.inputs.now)
    (asked_of true (map string_bytes c.args.words.now)) (crew_call_of inputs inputs crew crew sink sink) refl refl refl
    (λ earlier stood. stood)
