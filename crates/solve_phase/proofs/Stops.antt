-- A ticket that is stopped is neither a bad attempt nor a stale event.
use Rattle.std.proofs.Common.{◌≡◌, ℕ, List, [], ◌∷◌, refl, arith}
use Rattle.crew.specs.Log.{Entry}
use Rattle.crew.specs.Log.Entry.{Stopped}
use Rattle.replay_core.specs.declared.attempt.Attempt.{Attempt}
use Rattle.replay_supervisor.specs.Jobs.{Work}
use Rattle.replay_supervisor.specs.Reading.{bad_in, stale_in}
use Rattle.replay_supervisor.specs.Steps.{with_stops}

pub bad-stops : (work : Work) (outs : List Attempt) (log : List Entry) (job : ℕ)
    → bad_in work (with_stops outs log) job ≡ bad_in work log job
unfolding bad_in
bad-stops work [] log job = refl
bad-stops work (a ∷ outs) log job = bad-stops work outs (Stopped a.ticket ∷ log) job

pub stale-stops : (work : Work) (outs : List Attempt) (log : List Entry)
    → stale_in work (with_stops outs log) ≡ stale_in work log
unfolding stale_in
stale-stops work [] log = refl
stale-stops work (a ∷ outs) log =
    let rest = stale-stops work outs (Stopped a.ticket ∷ log) in omega (arith, rest)
