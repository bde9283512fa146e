use Rattle.std.proofs.Common.{[], ◌∷◌, refl}
use Rattle.mon_call.specs.Call.{call_of}
use Rattle.mon_call.proofs.Endings.{picks_untraced}
use Rattle.mon_central.specs.Duty.{IsRefused}
use Rattle.mon_central.specs.Sketched.{IsSketched}
use Rattle.mon_central.proofs.Answered.{part_of_trace}
use Rattle.mon_central.proofs.central.report.Goals as goal

pub text-requires-clause-part : goal.text-requires-clause-part
text-requires-clause-part g c = (c.args.topology.now, part_of_trace c.in-Ok.ensures.sketched)

pub returns-in-Err-clause-picks : goal.returns-in-Err-clause-picks
returns-in-Err-clause-picks g c =
    let before = g.I.Inputs.state c.args.inputs.now in
    let sink = g.K.Sink.state c.args.sink.now in
    let contents = before.contents in
    picks_untraced (IsSketched (contents c.args.trace.now) c.args.topology.now c.args.setting.now)
    (IsRefused contents c.args.trace.now c.args.setting.now)
    (g.I.Inputs.picks c.args.inputs.now) (g.I.Inputs.picks c.sketch.new.inputs) (contents c.args.trace.now)
    c.args.trace.now
    (call_of before (g.I.Inputs.state c.sketch.new.inputs) sink sink) c.in-Err.status c.in-Err.ensures.sketched
    c.in-Err.ensures.picks

pub returns-in_default-clause-picks : goal.returns-in_default-clause-picks
returns-in_default-clause-picks g c =
    record { front = c.args.trace.now ∷ []; back = []; parts = refl; picked = c.in-Ok.ensures.picks }
