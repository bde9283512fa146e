-- The bad attempts and the stale events of a search that ended, and of one that was given up.
use Rattle.std.proofs.Common.{◌≡◌, ℕ, ◌<◌, ◌≤◌, List, ◌++◌, Option, Some, sym, ◌∙◌, ap, arith}
use Rattle.std.proofs.lemmas.List.{append_cancel_right}
use Rattle.std.proofs.lemmas.Option.{same_Some}
use Rattle.bound_certificate.specs.Problem.{Problem}
use Rattle.bound_certificate.specs.declared.outcome.Outcome.{Outcome}
use Rattle.crew.specs.Crew.{CrewState}
use Rattle.crew.specs.Log.{Entry, told}
use Rattle.replay_core.specs.Book.{total}
use Rattle.replay_core.specs.declared.bad.Bad.{Bad}
use Rattle.replay_supervisor.specs.Jobs.{Work}
use Rattle.replay_supervisor.specs.Outcome.{IsSpent, IsStale}
use Rattle.replay_supervisor.specs.Reading.{bad_in, read, stale_in}
use Rattle.replay_supervisor.specs.Steps.{Plan}
use Rattle.solve_phase.specs.Phase.{Finds, GivesUp}
use Rattle.solve_phase.specs.Told.{IsOverspent, IsWithinLimits, ReadsSearch}
use Rattle.solve_phase.specs.declared.solving.Solving.{Solving}
use Rattle.solve_phase.proofs.Alike.{bad-alike, stale-alike}
use Rattle.solve_phase.proofs.Stops.{bad-stops, stale-stops}

-- a search that ended kept the limits
pub within_limits : (problem : Problem) (solving : Solving) (first : ℕ) (solve : List Entry) (outcome : Outcome)
    (work : Work) → Finds problem solving first solve outcome → ReadsSearch problem solving.nodes work
    → IsWithinLimits solving.restarts work solve
within_limits problem solving first solve outcome work finds reads =
    let its : ReadsSearch problem solving.nodes finds.plan.work =
    record { one = finds.search.one; judges = finds.search.judges } in
    record {
      few = λ job known.
          let same = bad-alike problem solving.nodes work finds.plan.work solve job reads its in
          omega (
            arith,
            ap total same,
            finds.finished.unspent job (omega (arith, known, reads.one, its.one)),
            finds.search.restarts_are,
          );
      fresh =
          let same = stale-alike problem solving.nodes work finds.plan.work solve reads its in
          omega (arith, same, finds.finished.fresh);
    }

module _ (problem : Problem) (solving : Solving) (first : ℕ) (P : Plan → List Entry → Type 0) (solve : List Entry)
    (work : Work) (gives_up : GivesUp problem solving first P solve) (reads : ReadsSearch problem solving.nodes work)
  where
    its_work : ReadsSearch problem solving.nodes gives_up.plan.work
    its_work = record { one = gives_up.search.one; judges = gives_up.search.judges }

    -- the Stopped entries of a search that was given up say nothing of bad attempts and of stale events
    bad-given_up : (job : ℕ) → bad_in work solve job ≡ bad_in gives_up.plan.work gives_up.log job
    bad-given_up job =
        ap (λ (log : List Entry). bad_in work log job) gives_up.whole
        ∙ bad-stops work (read gives_up.plan.work gives_up.log).outs gives_up.log job
        ∙ bad-alike problem solving.nodes work gives_up.plan.work gives_up.log job reads its_work

    stale-given_up : stale_in work solve ≡ stale_in gives_up.plan.work gives_up.log
    stale-given_up =
        ap (stale_in work) gives_up.whole
        ∙ stale-stops work (read gives_up.plan.work gives_up.log).outs gives_up.log
        ∙ stale-alike problem solving.nodes work gives_up.plan.work gives_up.log reads its_work

-- a search whose restarts were spent is overspent, and its events are fresh
pub spent_is_over : (problem : Problem) (solving : Solving) (first : ℕ) (before after : CrewState) (job : ℕ)
    (bad : Bad) (solve : List Entry) (work : Work)
    → GivesUp problem solving first (λ plan log. IsSpent plan before after log job bad) solve
    → ReadsSearch problem solving.nodes work
    → IsOverspent solving.restarts work solve job bad × (stale_in work solve < 4096)
spent_is_over problem solving first before after job bad solve work gives_up reads =
    let P : Plan → List Entry → Type 0 = λ plan log. IsSpent plan before after log job bad in
    let counts = bad-given_up problem solving first P solve work gives_up reads job in
    let stale = stale-given_up problem solving first P solve work gives_up reads in (
      record {
        known = omega (arith, gives_up.why.known, gives_up.search.one, reads.one);
        counts = counts ∙ sym gives_up.why.counts;
        spent = omega (arith, gives_up.why.spent, gives_up.search.restarts_are);
      },
      omega (arith, stale, gives_up.why.fresh),
    )

-- of a search that was given up after stale events 4,096 are stale, and no job has more bad attempts than restarts
pub stale_is_full : (problem : Problem) (solving : Solving) (first : ℕ) (solve : List Entry) (work : Work)
    → GivesUp problem solving first IsStale solve → ReadsSearch problem solving.nodes work
    → (stale_in work solve ≡ 4096)
    × ((job : ℕ) → job < work.count → total (bad_in work solve job) ≤ solving.restarts)
stale_is_full problem solving first solve work gives_up reads = (
  stale-given_up problem solving first IsStale solve work gives_up reads ∙ gives_up.why.stale,
  λ job known.
      let same = bad-given_up problem solving first IsStale solve work gives_up reads job in
      omega (
        arith,
        ap total same,
        gives_up.why.unspent job (omega (arith, known, reads.one, gives_up.search.one)),
        gives_up.search.restarts_are,
      ),
)

-- one job is overspent, by one count of bad attempts
pub one_overspent : (problem : Problem) (nodes restarts : ℕ) (work : Work) (part : List Entry) (job other : ℕ)
    (bad more : Bad) → ReadsSearch problem nodes work → IsOverspent restarts work part job bad
    → IsOverspent restarts work part other more → (job ≡ other) × (bad ≡ more)
one_overspent problem nodes restarts work part job other bad more reads one two =
    let same : job ≡ other = omega (arith, reads.one, one.known, two.known) in
    (same, sym one.counts ∙ ap (bad_in work part) same ∙ two.counts)

-- what was appended to a log is one part
pub one_part : (before after : CrewState) (log part solve : List Entry) → before.log ≡ Some log
    → after.log ≡ Some (part ++ log) → after.log ≡ told before.log solve → part ≡ solve
one_part before after log part solve was is grown =
    append_cancel_right part solve log
    (same_Some (part ++ log) (solve ++ log)
    (sym is ∙ grown ∙ ap (λ (entries : Option (List Entry)). told entries solve) was))

-- a job that is overspent has more bad attempts than restarts
pub over_is_not_few : (restarts : ℕ) (work : Work) (part : List Entry) (job : ℕ) (bad : Bad)
    → IsOverspent restarts work part job bad
    → ((j : ℕ) → j < work.count → total (bad_in work part j) ≤ restarts) → ⊥
over_is_not_few restarts work part job bad over few =
    omega (arith, ap total over.counts, over.spent, few job over.known)

pub over_is_not_within : (restarts : ℕ) (work : Work) (part : List Entry) (job : ℕ) (bad : Bad)
    → IsOverspent restarts work part job bad → IsWithinLimits restarts work part → ⊥
over_is_not_within restarts work part job bad over within =
    over_is_not_few restarts work part job bad over within.few

-- nor is a log with so many stale events within the limits
pub full_is_not_within : (restarts : ℕ) (work : Work) (part : List Entry) → stale_in work part ≡ 4096
    → IsWithinLimits restarts work part → ⊥
full_is_not_within restarts work part full within = omega (arith, full, within.fresh)
