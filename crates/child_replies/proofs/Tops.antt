-- What whole replies are read as.
use Rattle.std.proofs.Common.{◌≡◌, ℕ, Bool, true, false, List, [], Option, None, Some, cond, refl, sym, ap, subst}
use Rattle.byte_format.specs.Format.{Reached, At, Broken, reached}
use Rattle.child_replies.specs.Steps.{SolveStops, Stops, stop_of}
use Rattle.reply_format.proofs.ReplayFaults.{replay_breach, replay_short}
use Rattle.reply_format.proofs.SolveFaults.{solve_breach, solve_short}
use Rattle.reply_format.specs.Outcomes.{Place as SolvePlace, is_tree, solve_format}
use Rattle.reply_format.specs.Outcomes.{Found as AnyFound}
use Rattle.reply_format.specs.Outcomes as solves
use Rattle.reply_format.specs.Places.{Place, replay_format}
use Rattle.reply_format.specs.Places as replays
use Rattle.reply_format.specs.Read.{BreaksReplay, BreaksSolve, is_end}
use Rattle.reply_format.specs.Reply.{ReplayHead}
use Rattle.reply_format.specs.declared.fault.ReplyFault.{ReplyFault}
use Rattle.reply_format.specs.declared.fault.ReplyFault.TheVariants.{Short}

-- where bytes stop they broke, or they end inside
pub data Stopped {S F : Type 0} (whole : S → Bool) (short : F) (now : Reached S F) (fault : F) : Type 0 where
  broke : now ≡ Broken fault → Stopped whole short now fault
  ended : (place : S) (part : List ℕ) → now ≡ At place part → whole place ≡ false → fault ≡ short
      → Stopped whole short now fault

none_is : {F : Type 0} (short fault : F) (whole : Bool) → cond {A = Option F} whole None (Some short) ≡ Some fault
    → (whole ≡ false) × (fault ≡ short)
none_is short fault true is = cc
none_is short fault false is = (refl, cc)

pub stopped : {S F : Type 0} (whole : S → Bool) (short : F) (now : Reached S F) (fault : F)
    → stop_of whole short now ≡ Some fault → Stopped whole short now fault
stopped whole short (Broken broken) fault is = let same : broken ≡ fault = cc in broke (ap (λ f. Broken f) same)
stopped whole short (At place part) fault is = let said = none_is short fault
    (whole place) is in ended place part refl said.0 said.1

pub replay_stop : (e : ReplayHead) (bytes : List ℕ) (fault : ReplyFault) → Stops e replays.Magic bytes fault
    → BreaksReplay e bytes fault
replay_stop e bytes fault stop =
    elim (stopped is_end Short (reached (replay_format e) (At replays.Magic []) bytes) fault stop) [
      | broke is ↦ replay_breach e bytes fault is
      | ended place part is inside same ↦ subst (λ (f : ReplyFault). BreaksReplay e bytes f) (sym same)
          (replay_short e place bytes part is inside)
    ]

pub solve_stop : (number : ℕ) (bytes : List ℕ) (fault : ReplyFault) → SolveStops number solves.Magic bytes fault
    → BreaksSolve number bytes fault
solve_stop number bytes fault stop =
    elim (stopped is_tree Short (reached (solve_format number) (At solves.Magic []) bytes) fault stop) [
      | broke is ↦ solve_breach number bytes fault is
      | ended place part is inside same ↦ subst (λ (f : ReplyFault). BreaksSolve number bytes f) (sym same)
          (solve_short number place bytes part is inside)
    ]
