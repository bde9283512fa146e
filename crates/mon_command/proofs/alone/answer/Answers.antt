use Rattle.std.proofs.Common.{map, refl, string_bytes}
use Rattle.mon_call.specs.Call.{call_of}
use Rattle.mon_command.proofs.Asking.{alone_wanting}
use Rattle.mon_command.proofs.alone.answer.Goals as goal

pub returns-in-Err-Memory-clause-outcome : goal.returns-in-Err-Memory-clause-outcome
returns-in-Err-Memory-clause-outcome g c =
    let inputs = g.I.Inputs.state c.args.inputs.now in
    let sink = g.K.Sink.state c.args.sink.now in
    alone_wanting (g.I.Inputs.picks c.args.inputs.now) (g.I.Inputs.picks c.args.inputs.now)
    (map string_bytes c.args.words.now) (call_of inputs inputs sink sink) refl (λ earlier stood. stood)
