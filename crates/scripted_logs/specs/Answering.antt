-- Scripts whose acts are answers and deaths alone, and what such a crew over workers writes.
use Rattle.std.specs.Prelude.{◌≡◌, ℕ, List, [], ◌++◌, Some, ⊤, All}
use Rattle.bound_certificate.specs.Problem.{Problem}
use Rattle.bound_certificate.specs.declared.outcome.Outcome.{Outcome}
use Rattle.child_worker.specs.Replies.{AnswersBytes, IsRefused}
use Rattle.crew.specs.Log.{AreAnswered, Entry}
use Rattle.mon_call.specs.CrewCall.{CrewCall}
use Rattle.scripted_crew.specs.Script.{Deed, IsScripted, Script}
use Rattle.solve_phase.specs.Phase.{Finds}
use Rattle.solve_phase.specs.declared.solving.Solving.{Solving}

-- the deed gives no bytes of its own
abbrev pub GivesNoBytes : Deed → Type 0
GivesNoBytes (Deed.Answer ticket) = Unit {0}
GivesNoBytes (Deed.Give ticket bytes) = ⊥
GivesNoBytes (Deed.Die ticket) = Unit {0}

-- the deeds are answers and deaths alone
abbrev pub AnswersAlone : List Deed → Type 0
AnswersAlone deeds = All GivesNoBytes deeds

-- each reply answers what was fed to its ticket before it, and of deaths nothing is said
abbrev pub RepliesAnswer : (List ℕ → List ℕ → Type 0) → List Entry → Type 0
RepliesAnswer answers log = AreAnswered answers (λ job. ⊤) log

-- the script allows the log, over workers
abbrev pub FollowsScript : Script → List Entry → Type 0
FollowsScript s log = ∥ IsScripted s AnswersBytes IsRefused log ∥₁

-- a search ended with this outcome, and the script allows it with what stands behind it in the log
pub record IsScriptedBehind (s : Script) (problem : Problem) (solving : Solving) (start : ℕ) (outcome : Outcome)
    (solve replay : List Entry) : Type 0 where
  pub finds : Finds problem solving start solve outcome
  pub follows : FollowsScript s (replay ++ solve)

-- a crew's log was empty and is told now, and the script allows it
pub record IsScriptedRun (s : Script) (c : CrewCall) (entries : List Entry) : Type 0 where
  pub fresh : c.crew.log ≡ Some []
  pub told : c.crew_after.log ≡ Some entries
  pub follows : FollowsScript s entries
