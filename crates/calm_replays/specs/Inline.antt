-- What a crew writes whose children are answered in this process.
use Rattle.std.specs.Prelude.{◌≡◌, ℕ, List, [], ◌++◌, Some}
use Rattle.bound_certificate.specs.Problem.{Problem}
use Rattle.bound_certificate.specs.declared.outcome.Outcome.{Outcome}
use Rattle.child_worker.specs.Replies.{AnswersBytes, IsRefused}
use Rattle.crew.specs.Log.{AreAnswered, Entry}
use Rattle.inline_crew.specs.InOrder.{InOrder}
use Rattle.mon_call.specs.CrewCall.{CrewCall}
use Rattle.solve_phase.specs.Phase.{Finds}
use Rattle.solve_phase.specs.declared.solving.Solving.{Solving}

-- a search ended with this outcome, and with what stands behind it in the log all is in order and answered
pub record IsBehind (problem : Problem) (solving : Solving) (start : ℕ) (outcome : Outcome) (solve replay : List Entry)
    : Type 0 where
  pub finds : Finds problem solving start solve outcome
  pub order : InOrder (replay ++ solve)
  pub answered : AreAnswered AnswersBytes IsRefused (replay ++ solve)

-- a crew's log was empty and is told now, and in it all is in order and answered
pub record IsInline (c : CrewCall) (entries : List Entry) : Type 0 where
  pub fresh : c.crew.log ≡ Some []
  pub told : c.crew_after.log ≡ Some entries
  pub order : ∥ InOrder entries ∥₁
  pub answered : ∥ AreAnswered AnswersBytes IsRefused entries ∥₁
