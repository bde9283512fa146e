-- A search whose children are answered in this process is calm.
use Rattle.std.proofs.Common.{◌≡◌, ℕ, ◌<◌, List, Result, Ok, Err, sym, ◌∙◌, subst, arith}
use Rattle.std.specs.Prelude.{⊤}
use Rattle.bound_certificate.specs.Problem.{Problem}
use Rattle.bound_certificate.specs.declared.outcome.Outcome.{Outcome}
use Rattle.child_worker.specs.Replies.{AnswersBytes, IsAnswer, IsRefused}
use Rattle.crew.specs.Log.{AreAnswered, Entry}
use Rattle.inline_crew.specs.InOrder.{InOrder}
use Rattle.job_format.proofs.Reading.{one_read}
use Rattle.job_format.specs.Job.{Job, Solve, SpellsJob}
use Rattle.job_format.specs.declared.fault.JobFault.{JobFault}
use Rattle.replay_core.specs.declared.attempt.Attempt.{Attempt}
use Rattle.replay_supervisor.specs.Jobs.{Work}
use Rattle.replay_supervisor.specs.Reading.{read}
use Rattle.replay_supervisor.specs.Steps.{AreSteps, Plan, with_stops}
use Rattle.solve_phase.proofs.Alike.{bad-alike, stale-alike}
use Rattle.solve_phase.proofs.Stops.{bad-stops, stale-stops}
use Rattle.solve_phase.specs.Phase.{Finds, GivesUp, IsSearch, joined}
use Rattle.solve_phase.specs.Solving.{IsSolving}
use Rattle.solve_phase.specs.Told.{ReadsSearch}
use Rattle.solve_phase.specs.declared.solving.Solving.{Solving}
use Rattle.calm_logs.specs.Calm.{IsCalm}
use Rattle.calm_logs.proofs.Supervised.{IsServed, answered_under, calm_steps, order_under}

-- bytes that spell a job are not refused
pub not_refused : (job : Job) (bytes : List ℕ) → SpellsJob job bytes → IsRefused bytes → ⊥
not_refused job bytes spelled refused =
    let same : ◌≡◌ {A = Result Job JobFault} (Ok job) (Err refused.0) =
    one_read bytes (Ok job) (Err refused.0) spelled refused.1 in
    cc

-- what answers them answers that job
pub answers_it : (job : Job) (bytes answer : List ℕ) → SpellsJob job bytes → AnswersBytes bytes answer
    → IsAnswer job answer
answers_it job bytes answer spelled answers =
    let same : ◌≡◌ {A = Result Job JobFault} (Ok answers.0) (Ok job) =
    one_read bytes (Ok answers.0) (Ok job) answers.1 spelled in
    let one : answers.0 ≡ job = cc in
    subst (λ (j : Job). IsAnswer j answer) one answers.2

-- the job of a search
abbrev search_job : Problem → Solving → Job
search_job problem solving = Solve (record { number = 0; nodes = solving.nodes; problem = problem })

served_search : (problem : Problem) (solving : Solving) (first : ℕ) (p : Plan) → IsSearch problem solving first p
    → IsServed p.work AnswersBytes IsRefused
served_search problem solving first p search =
    let only : (job : ℕ) → job < p.work.count → job ≡ 0 = λ job known. omega (arith, known, search.one) in
    record {
      taken = λ job known refused. not_refused (search_job problem solving) (joined (p.work.pieces 0)) search.spells
          (subst (λ (j : ℕ). IsRefused (joined (p.work.pieces j))) (only job known) refused);
      good = λ job bytes known answers.
          let answer = answers_it (search_job problem solving) (joined (p.work.pieces 0)) bytes search.spells
          (subst (λ (j : ℕ). AnswersBytes (joined (p.work.pieces j)) bytes) (only job known) answers) in
          (search.judges job bytes).1
          (only job known, record { outcome = answer.0; spelled = answer.2; right = answer.1 });
    }

-- by the work of its own plan
calm_search : (problem : Problem) (solving : Solving) (first : ℕ) (p : Plan) (log : List Entry) → IsSolving solving
    → IsSearch problem solving first p → AreSteps p log → InOrder log → AreAnswered AnswersBytes IsRefused log
    → IsCalm p.work log
calm_search problem solving first p log limits search steps order answered =
    calm_steps p AnswersBytes IsRefused log (served_search problem solving first p search)
    (omega (arith, search.window_is, limits.window_to)) steps order answered

reads_plan : (problem : Problem) (solving : Solving) (first : ℕ) (p : Plan) → IsSearch problem solving first p
    → ReadsSearch problem solving.nodes p.work
reads_plan problem solving first p search = record { one = search.one; judges = search.judges }

-- by whatever work it is read
calm_alike : (problem : Problem) (nodes : ℕ) (v w : Work) (part : List Entry) → ReadsSearch problem nodes v
    → ReadsSearch problem nodes w → IsCalm v part → IsCalm w part
calm_alike problem nodes v w part reads also calm = record {
  fresh = stale-alike problem nodes w v part also reads ∙ calm.fresh;
  none_bad = λ job known. bad-alike problem nodes w v part job also reads
      ∙ calm.none_bad job (omega (arith, known, also.one, reads.one));
}

-- the stops of what is out count nothing
pub calm_stops : (work : Work) (outs : List Attempt) (log : List Entry) → IsCalm work log
    → IsCalm work (with_stops outs log)
calm_stops work outs log calm = record {
  fresh = stale-stops work outs log ∙ calm.fresh;
  none_bad = λ job known. bad-stops work outs log job ∙ calm.none_bad job known;
}

-- a search that found an outcome
pub calm_found : (problem : Problem) (solving : Solving) (first : ℕ) (part : List Entry) (outcome : Outcome)
    (work : Work) → IsSolving solving → Finds problem solving first part outcome → InOrder part
    → AreAnswered AnswersBytes IsRefused part → ReadsSearch problem solving.nodes work → IsCalm work part
calm_found problem solving first part outcome work limits finds order answered reads =
    calm_alike problem solving.nodes finds.plan.work work part
    (reads_plan problem solving first finds.plan finds.search) reads
    (calm_search problem solving first finds.plan part limits finds.search finds.is_log.steps order answered)

-- a search that was given up, for whatever reason
pub calm_given_up : (problem : Problem) (solving : Solving) (first : ℕ) (P : Plan → List Entry → Type 0)
    (part : List Entry) (work : Work) → IsSolving solving → GivesUp problem solving first P part → InOrder part
    → AreAnswered AnswersBytes IsRefused part → ReadsSearch problem solving.nodes work → IsCalm work part
calm_given_up problem solving first P part work limits gives_up order answered reads =
    let p = gives_up.plan in
    let log = gives_up.log in
    let outs = (read p.work log).outs in
    let calm = calm_search problem solving first p log limits gives_up.search gives_up.is_log.steps
    (order_under outs log (subst (λ (xs : List Entry). InOrder xs) gives_up.whole order))
    (answered_under AnswersBytes IsRefused outs log
    (subst (λ (xs : List Entry). AreAnswered AnswersBytes IsRefused xs) gives_up.whole answered)) in
    calm_alike problem solving.nodes p.work work part (reads_plan problem solving first p gives_up.search) reads
    (subst (λ (xs : List Entry). IsCalm p.work xs) (sym gives_up.whole) (calm_stops p.work outs log calm))

-- where nothing is asked of the reason
pub any_reason : (problem : Problem) (solving : Solving) (first : ℕ) (P : Plan → List Entry → Type 0)
    (part : List Entry) → GivesUp problem solving first P part → GivesUp problem solving first (λ plan log. ⊤) part
any_reason problem solving first P part gives_up = record {
  plan = gives_up.plan;
  search = gives_up.search;
  log = gives_up.log;
  whole = gives_up.whole;
  is_log = gives_up.is_log;
  why = tt;
}
