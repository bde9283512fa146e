-- What a search by children left in the log, the newest entry first.
use Rattle.std.specs.Prelude.{◌≡◌, ◌⊎◌, ℕ, ◌+◌, ◌≤◌, false, List, [], ⊤, Some, flat_map, Result, Ok, Err}
use Rattle.crew.specs.Crew.{CrewState}
use Rattle.crew.specs.Log.{Entry, told}
use Rattle.job_format.specs.Job.{SpellsSolve}
use Rattle.bound_certificate.specs.Meaning.{Shows}
use Rattle.bound_certificate.specs.Outcome.{tree_of}
use Rattle.bound_certificate.specs.Problem.{Problem}
use Rattle.bound_certificate.specs.Tree.{verdict_of, visits}
use Rattle.bound_certificate.specs.declared.outcome.Outcome.{Outcome}
use Rattle.bound_certificate.specs.declared.verdict.Verdict.{Verdict}
use Rattle.replay_supervisor.specs.Outcome.{IsFinished, IsSpent, IsStale}
use Rattle.replay_supervisor.specs.Reading.{accepted, drawn_in, read}
use Rattle.replay_supervisor.specs.Steps.{IsLog, Plan, with_stops}
use Rattle.replay_supervisor.specs.declared.stop.Stop.{Stop}
use Rattle.replay_supervisor.specs.declared.stop.Stop.TheVariants as stops
use Rattle.solve_jobs.specs.Replies.{IsReplyWith}
use Rattle.solve_jobs.specs.Search.{Judges}
use Rattle.solve_phase.specs.declared.phase.Found.{Found}
use Rattle.solve_phase.specs.declared.solving.Solving.{Solving}

-- the verdict of an outcome's tree
abbrev pub verdict_on : Problem → Outcome → Verdict
verdict_on problem outcome = verdict_of problem (visits problem (tree_of outcome) [])

-- the pieces of a job, joined
abbrev pub joined : List (List ℕ) → List ℕ
joined pieces = flat_map (λ piece. piece) pieces

-- The plan of a search: one job, whose pieces spell it, and of whose replies those with a right outcome are good.
pub record IsSearch (problem : Problem) (solving : Solving) (first_ticket : ℕ) (p : Plan) : Type 0 where
  pub one : p.work.count ≡ 1
  pub spells : SpellsSolve (record { number = 0; nodes = solving.nodes; problem = problem }) (joined (p.work.pieces 0))
  pub judges : Judges p.work problem solving.nodes
  pub first_is : p.first ≡ first_ticket
  pub window_is : p.window ≡ solving.window
  pub restarts_are : p.restarts ≡ solving.restarts

-- A search ended: its log is one of supervising it, in which the accepted reply of its job spells this outcome, which
-- is right and shows what a right one shows.
pub record Finds (problem : Problem) (solving : Solving) (first_ticket : ℕ) (solve : List Entry) (outcome : Outcome)
    : Type 0 where
  pub plan : Plan
  pub search : IsSearch problem solving first_ticket plan
  pub is_log : IsLog plan solve
  pub finished : IsFinished plan solve
  pub bytes : List ℕ
  pub accepts : accepted (read plan.work solve) 0 ≡ Some bytes
  pub reply : IsReplyWith problem solving.nodes outcome bytes
  pub shows : Shows problem solving.nodes outcome (verdict_on problem outcome)

-- A search was given up: a log of which P holds, behind which each ticket that is out is stopped.
pub record GivesUp (problem : Problem) (solving : Solving) (first_ticket : ℕ) (P : Plan → List Entry → Type 0)
    (solve : List Entry) : Type 0 where
  pub plan : Plan
  pub search : IsSearch problem solving first_ticket plan
  pub log : List Entry
  pub whole : solve ≡ with_stops (read plan.work log).outs log
  pub is_log : IsLog plan log
  pub why : P plan log

-- A part was appended to the log of a crew, its tickets were drawn, and none is out.
pub record Grows (before after : CrewState) (part : List Entry) : Type 0 where
  pub log : after.log ≡ told before.log part
  pub issued : after.issued ≡ before.issued + drawn_in part
  pub faults : before.faults ≤ after.faults
  pub none_out : (t : ℕ) → after.is_out t ≡ false

-- a crew that was given up on, for a reason
pub record EndsSearch (problem : Problem) (solving : Solving) (before after : CrewState)
    (P : Plan → List Entry → Type 0) : Type 0 where
  pub solve : List Entry
  pub grows : Grows before after solve
  pub gives_up : GivesUp problem solving before.issued P solve

-- a crew of which a child has found this outcome
pub record HasFound (problem : Problem) (solving : Solving) (before after : CrewState) (outcome : Outcome) : Type 0
  where
    pub solve : List Entry
    pub grows : Grows before after solve
    pub finds : Finds problem solving before.issued solve outcome

-- what a search by children did
abbrev pub Solves : Problem → Solving → CrewState → CrewState → Result Found Stop → Type 0
Solves problem solving before after (Ok found) =
    HasFound problem solving before after found.outcome × (found.verdict ≡ verdict_on problem found.outcome)
Solves problem solving before after (Err (stops.RestartsSpent job bad)) =
    EndsSearch problem solving before after (λ plan log. IsSpent plan before after log job bad)
Solves problem solving before after (Err stops.StaleLimit) = EndsSearch problem solving before after IsStale
Solves problem solving before after (Err stops.Memory) =
    (after ≡ before) ⊎ EndsSearch problem solving before after (λ plan log. ⊤)
