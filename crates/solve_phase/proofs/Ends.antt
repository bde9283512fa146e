-- What a search by children did, from what supervising it did.
use Rattle.std.proofs.Common.{◌≡◌, ℕ, List, Option, None, Some, Ok, Err, refl, sym, ◌∙◌, ap, subst, inr}
use Rattle.std.specs.Prelude.{⊤, slice_index_or}
use Rattle.bound_certificate.specs.Meaning.{Shows}
use Rattle.bound_certificate.specs.Problem.{Problem}
use Rattle.bound_certificate.specs.declared.outcome.Outcome.{Outcome}
use Rattle.crew.specs.Crew.{CrewState}
use Rattle.crew.specs.Log.{Entry}
use Rattle.job_format.specs.Job.{SpellsSolve}
use Rattle.replay_supervisor.specs.Jobs.{JobsState, Places, Standing, Work}
use Rattle.replay_supervisor.specs.Outcome.{IsSpent, IsStale, Supervised}
use Rattle.replay_supervisor.specs.Steps.{Plan, plan}
use Rattle.replay_supervisor.specs.declared.stop.Stop.{Stop}
use Rattle.replay_supervisor.specs.declared.stop.Stop.TheVariants as stops
use Rattle.solve_jobs.specs.Search.{Holds, Judges}
use Rattle.solve_phase.specs.Phase.{EndsSearch, HasFound, IsSearch, Solves, joined, verdict_on}
use Rattle.solve_phase.specs.declared.phase.Found.{Found}
use Rattle.solve_phase.specs.declared.solving.Solving.{Solving}

-- the plan by which jobs are supervised that are those of a search
pub is_search : (problem : Problem) (solving : Solving) (first : ℕ) (jobs : JobsState) → jobs.work.count ≡ 1
    → SpellsSolve (record { number = 0; nodes = solving.nodes; problem = problem }) (joined (jobs.work.pieces 0))
    → Judges jobs.work problem solving.nodes
    → IsSearch problem solving first (plan jobs.work first solving.window solving.restarts)
is_search problem solving first jobs one spells judges = record {
  one = one;
  spells = spells;
  judges = judges;
  first_is = refl;
  window_is = refl;
  restarts_are = refl;
}

module _ (problem : Problem) (solving : Solving) (old new : CrewState) (jobs : JobsState) (standing : Standing)
    (p : Plan) (search : IsSearch problem solving old.issued p)
  where
    -- the one place holds the reply whose outcome was kept
    pub is_held : (s : Supervised p old new jobs standing (Ok tt)) (found : Option Outcome) (outcome : Outcome)
        → found ≡ Some outcome
        → ((any : Problem) (nodes : ℕ) (places : Places) → Judges jobs.work any nodes → standing places
        → Holds any nodes found places)
        → Holds problem solving.nodes (Some outcome) s.taken
    is_held s found outcome is kept =
        subst (λ (o : Option Outcome). Holds problem solving.nodes o s.taken) is
        (kept problem solving.nodes s.taken
        (subst (λ (work : Work). Judges work problem solving.nodes) (sym s.work) search.judges) s.stands)

    -- an outcome that is held in the one place was found
    has_found : (s : Supervised p old new jobs standing (Ok tt)) (outcome : Outcome)
        → Holds problem solving.nodes (Some outcome) s.taken
        → Shows problem solving.nodes outcome (verdict_on problem outcome) → HasFound problem solving old new outcome
    has_found s outcome held shows = record {
      solve = s.part;
      grows = record { log = s.log; issued = s.issued; faults = s.faults; none_out = s.none_out };
      finds = record {
        plan = p;
        search = search;
        is_log = s.answers.is_log;
        finished = s.answers.finished;
        bytes = held.0;
        accepts = ap (λ (places : Places). slice_index_or places 0 None) (sym s.answers.all ∙ held.1);
        reply = held.2;
        shows = shows;
      };
    }

    pub has_ended : (s : Supervised p old new jobs standing (Ok tt)) (outcome : Outcome) (found : Found)
        → Holds problem solving.nodes (Some outcome) s.taken
        → Shows problem solving.nodes outcome (verdict_on problem outcome) → found.outcome ≡ outcome
        → found.verdict ≡ verdict_on problem outcome → Solves problem solving old new (Ok found)
    has_ended s outcome found held shows is verdict =
        subst (λ (o : Outcome). HasFound problem solving old new o × (found.verdict ≡ verdict_on problem o)) (sym is)
        (has_found s outcome held shows, verdict)

    -- a search that stopped was given up, for a reason
    ends_search : (stop : Stop) (P : Plan → List Entry → Type 0) (s : Supervised p old new jobs standing (Err stop))
        → P p s.answers.log → EndsSearch problem solving old new P
    ends_search stop P s why = record {
      solve = s.part;
      grows = record { log = s.log; issued = s.issued; faults = s.faults; none_out = s.none_out };
      gives_up = record {
        plan = p;
        search = search;
        log = s.answers.log;
        whole = s.answers.whole;
        is_log = s.answers.is_log;
        why = why;
      };
    }

    pub has_stopped : (stop : Stop) → Supervised p old new jobs standing (Err stop)
        → Solves problem solving old new (Err stop)
    has_stopped (stops.RestartsSpent job bad) s =
        ends_search (stops.RestartsSpent job bad) (λ plan log. IsSpent plan old new log job bad) s s.answers.why.1
    has_stopped stops.StaleLimit s = ends_search stops.StaleLimit IsStale s s.answers.why.1
    has_stopped stops.Memory s = inr (ends_search stops.Memory (λ plan log. ⊤) s tt)
