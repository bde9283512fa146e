use Rattle.std.proofs.Common.{[], ◌∷◌, refl}
use Rattle.mon_call.specs.Call.{call_of}
use Rattle.mon_check.proofs.Certifying.{picks_uncertified}
use Rattle.mon_check.proofs.checking.certify.Goals as goal

pub returns-in-Err-clause-picks : goal.returns-in-Err-clause-picks
returns-in-Err-clause-picks g c =
    let before = g.I.Inputs.state c.args.inputs.now in
    let sink = g.K.Sink.state c.args.sink.now in
    picks_uncertified (g.I.Inputs.picks c.args.inputs.now) (g.I.Inputs.picks c.read_certificate.new.inputs)
    (before.contents c.args.tree.now) c.args.tree.now
    (call_of before (g.I.Inputs.state c.read_certificate.new.inputs) sink sink) c.in-Err.status c.in-Err.ensures.reads
    c.in-Err.ensures.picks

pub returns-in_default-clause-picks : goal.returns-in_default-clause-picks
returns-in_default-clause-picks g c =
    record { front = c.args.tree.now ∷ []; back = []; parts = refl; picked = c.in-Ok.ensures.picks }
