use Rattle.std.proofs.Common.{[], ◌∷◌, refl}
use Rattle.mon_call.specs.Call.{call_of}
use Rattle.mon_call.proofs.Endings.{picks_untraced}
use Rattle.mon_command.specs.Total.{IsBroken, IsCount}
use Rattle.mon_command.proofs.total.total.Goals as goal

pub returns-in-Err-clause-picks : goal.returns-in-Err-clause-picks
returns-in-Err-clause-picks g c =
    let before = g.I.Inputs.state c.args.inputs.now in
    let sink = g.K.Sink.state c.args.sink.now in
    let contents = before.contents c.args.trace.now in
    picks_untraced (IsCount contents) (IsBroken contents) (g.I.Inputs.picks c.args.inputs.now)
    (g.I.Inputs.picks c.count.new.inputs) contents c.args.trace.now
    (call_of before (g.I.Inputs.state c.count.new.inputs) sink sink) c.in-Err.status c.in-Err.ensures.counted
    c.in-Err.ensures.picks

pub returns-in_default-clause-picks : goal.returns-in_default-clause-picks
returns-in_default-clause-picks g c =
    record { front = c.args.trace.now ∷ []; back = []; parts = refl; picked = c.in-Ok.ensures.picks }
