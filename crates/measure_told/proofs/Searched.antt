-- What the search of a told log is: that of a search that ended, or the whole part where it was given up.
use Rattle.std.proofs.Common.{◌≡◌, ℕ, ◌<◌, true, false, List, [], ◌∷◌, ◌++◌, Some, refl, sym, ◌∙◌, ap, subst, inl, inr}
use Rattle.std.specs.Prelude.{is_some}
use Rattle.bound_certificate.specs.Problem.{Problem}
use Rattle.bound_certificate.specs.declared.outcome.Outcome.{Outcome}
use Rattle.crew.specs.Log.{Entry}
use Rattle.replay_supervisor.specs.Jobs.{Work}
use Rattle.replay_supervisor.specs.Reading.{accepted, read}
use Rattle.replay_supervisor.specs.Steps.{Plan, open_jobs}
use Rattle.solve_phase.proofs.Counts.{within_limits}
use Rattle.solve_phase.specs.Phase.{Finds, GivesUp}
use Rattle.solve_phase.specs.Told.{IsWithinLimits, ReadsSearch}
use Rattle.solve_phase.specs.declared.solving.Solving.{Solving}
use Rattle.measure_told.proofs.Alike.{search-accepts}
use Rattle.measure_told.proofs.Cut.{goes_before, none_or_some, none_some, one_cut, stays_accepted}
use Rattle.measure_told.proofs.Stops.{none_accepted}
use Rattle.measure_told.specs.Told.{Divides, InSolving, is_stop}

-- a search ended with this outcome, and the rest of the part came behind it
pub record HasEnded (problem : Problem) (solving : Solving) (first : ℕ) (part solve replay : List Entry)
    (outcome : Outcome) : Type 0 where
  pub finds : Finds problem solving first solve outcome
  pub whole : part ≡ replay ++ solve
  pub begins : (later : List Entry) (entry : Entry) → replay ≡ later ++ entry ∷ [] → is_stop entry ≡ false

module _ (problem : Problem) (solving : Solving) (first : ℕ) (part solve replay : List Entry) (outcome : Outcome)
    (ended : HasEnded problem solving first part solve replay outcome)
  where
    -- its own work reads it
    pub own_work : ReadsSearch problem solving.nodes ended.finds.plan.work
    own_work = record { one = ended.finds.search.one; judges = ended.finds.search.judges }

    ends_accepted : is_some (accepted (read ended.finds.plan.work solve) 0) ≡ true
    ends_accepted = ap is_some ended.finds.accepts

    -- it is cut off where it ended
    pub cut_there : (work : Work) (entries rest : List Entry) → ReadsSearch problem solving.nodes work
        → Divides work part entries rest → entries ≡ solve
    cut_there work entries rest reads divides =
        one_cut ended.finds.plan work part solve replay entries rest ended.finds.search.one
        (search-accepts problem solving.nodes work ended.finds.plan.work reads own_work) ended.finds.is_log.steps
        ends_accepted ended.begins ended.whole divides

    pub accepts_there : (work : Work) → ReadsSearch problem solving.nodes work
        → accepted (read work solve) 0 ≡ Some ended.finds.bytes
    accepts_there work reads =
        search-accepts problem solving.nodes work ended.finds.plan.work reads own_work solve ∙ ended.finds.accepts

    pub ended_search : (work : Work) (entries : List Entry) → InSolving problem solving part work entries
        → entries ≡ solve
    ended_search work entries inside = elim inside.phases [
      | inl none ↦
          let some : is_some (accepted (read work part) 0) ≡ true = subst
          (λ (log : List Entry). is_some (accepted (read work log) 0) ≡ true) (sym ended.whole)
          (stays_accepted work replay solve 0 (ap is_some (accepts_there work inside.reads))) in
          absurd (none_some (accepted (read work part) 0) none.1 some)
      | inr divides ↦ cut_there work entries divides.0 inside.reads divides.1
    ]

    -- so it kept the limits, by whatever work it is read
    pub ended_within : (work : Work) (entries : List Entry) → InSolving problem solving part work entries
        → IsWithinLimits solving.restarts work entries
    ended_within work entries inside =
        subst (λ (log : List Entry). IsWithinLimits solving.restarts work log)
        (sym (ended_search work entries inside))
        (within_limits problem solving first solve outcome work ended.finds inside.reads)

    -- and by its own work the part is divided there
    pub divided : Divides ended.finds.plan.work part solve replay
    divided = record {
      whole = ended.whole;
      done = ends_accepted;
      ends = λ later earlier entry is goes. elim (none_or_some (accepted (read ended.finds.plan.work earlier) 0)) [
        | inl none ↦ none
        | inr some ↦ absurd (goes_before ended.finds.plan solve later earlier entry ended.finds.search.one
            ended.finds.is_log.steps is goes some)
      ];
      next = ended.begins;
    }

module _ (problem : Problem) (solving : Solving) (first : ℕ) (P : Plan → List Entry → Type 0) (part : List Entry)
    (given : GivesUp problem solving first P part) (some_open : 0 < open_jobs (read given.plan.work given.log))
  where
    -- its own work reads a search that was given up
    own_reading : ReadsSearch problem solving.nodes given.plan.work
    own_reading = record { one = given.search.one; judges = given.search.judges }

    -- no reply of it is accepted
    pub none_taken : (work : Work) → ReadsSearch problem solving.nodes work
        → is_some (accepted (read work part) 0) ≡ true → ⊥
    none_taken work reads some =
        none_accepted given.plan part given.log given.whole given.search.one some_open
        (ap is_some (sym (search-accepts problem solving.nodes work given.plan.work reads own_reading part)) ∙ some)

    -- nor where the part is divided
    pub none_divided : (work : Work) (solve replay : List Entry) → ReadsSearch problem solving.nodes work
        → Divides work part solve replay → ⊥
    none_divided work solve replay reads divides =
        none_taken work reads (subst (λ (log : List Entry). is_some (accepted (read work log) 0) ≡ true)
        (sym divides.whole) (stays_accepted work replay solve 0 divides.done))

    -- it is the whole part
    pub whole_search : (work : Work) (entries : List Entry) → InSolving problem solving part work entries
        → entries ≡ part
    whole_search work entries inside = elim inside.phases [
      | inl none ↦ none.0
      | inr divides ↦ absurd (none_divided work entries divides.0 inside.reads divides.1)
    ]

    -- also by its own work
    pub given_up_search : InSolving problem solving part given.plan.work part
    given_up_search = record {
      reads = own_reading;
      phases = elim (none_or_some (accepted (read given.plan.work part) 0)) [
        | inl none ↦ inl (refl, none)
        | inr some ↦ absurd (none_taken given.plan.work own_reading some)
      ];
    }
