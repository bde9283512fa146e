-- What the log of replays says of bad attempts and stale events, by whatever work it is read.
use Rattle.std.proofs.Common.{◌≡◌, ◌≢◌, ℕ, ◌<◌, ◌≤◌, List, sym, ◌∙◌, ap, arith}
use Rattle.crew.specs.Crew.{CrewState}
use Rattle.crew.specs.Log.{Entry}
use Rattle.replay_core.specs.Book.{total}
use Rattle.replay_core.specs.declared.bad.Bad.{Bad}
use Rattle.replay_phase.specs.Phase.{Gathers, GivesUp, IsReplay, Replaying}
use Rattle.replay_supervisor.specs.Jobs.{Work}
use Rattle.replay_supervisor.specs.Outcome.{IsSpent, IsStale}
use Rattle.replay_supervisor.specs.Reading.{bad_in, read, stale_in}
use Rattle.replay_supervisor.specs.Steps.{Plan}
use Rattle.sketch_merge.specs.Merged.{View}
use Rattle.solve_phase.proofs.Stops.{bad-stops, stale-stops}
use Rattle.solve_phase.specs.Told.{IsOverspent, IsWithinLimits}
use Rattle.measure_told.proofs.Alike.{bad-replays, stale-replays}
use Rattle.measure_told.specs.Told.{ReadsReplays}

-- the work of replays reads their log
pub its_work : (r : Replaying) (first : ℕ) (p : Plan) → IsReplay r first p → ReadsReplays r p.work
its_work r first p replays = record { count = replays.work.count; judges = replays.work.judges }

-- replays that ended kept the limits
pub gathered_within : (r : Replaying) (first : ℕ) (replay : List Entry) (merged : List View) (work : Work)
    → Gathers r first replay merged → ReadsReplays r work → IsWithinLimits r.restarts work replay
gathered_within r first replay merged work gathers reads =
    let its = its_work r first gathers.plan gathers.replays in
    record {
      few = λ job known.
          let same = bad-replays r work gathers.plan.work reads its replay job in
          omega (
            arith,
            ap total same,
            gathers.finished.unspent job (omega (arith, known, reads.count, its.count)),
            gathers.replays.restarts_are,
          );
      fresh =
          let same = stale-replays r work gathers.plan.work reads its replay in
          omega (arith, same, gathers.finished.fresh);
    }

module _ (r : Replaying) (first : ℕ) (P : Plan → List Entry → Type 0) (replay : List Entry) (work : Work)
    (given : GivesUp r first P replay) (reads : ReadsReplays r work)
  where
    own_work : ReadsReplays r given.plan.work
    own_work = its_work r first given.plan given.replays

    -- the stopped tickets of replays that were given up say nothing of bad attempts and of stale events
    bad-given_up : (job : ℕ) → bad_in work replay job ≡ bad_in given.plan.work given.log job
    bad-given_up job =
        ap (λ (log : List Entry). bad_in work log job) given.whole
        ∙ bad-stops work (read given.plan.work given.log).outs given.log job
        ∙ bad-replays r work given.plan.work reads own_work given.log job

    stale-given_up : stale_in work replay ≡ stale_in given.plan.work given.log
    stale-given_up =
        ap (stale_in work) given.whole
        ∙ stale-stops work (read given.plan.work given.log).outs given.log
        ∙ stale-replays r work given.plan.work reads own_work given.log

-- replays whose restarts were spent are overspent, at one job, and their events are fresh
pub spent_is_over : (r : Replaying) (first : ℕ) (before after : CrewState) (job : ℕ) (bad : Bad) (replay : List Entry)
    (work : Work)
    → GivesUp r first (λ plan log. IsSpent plan before after log job bad) replay → ReadsReplays r work
    → IsOverspent r.restarts work replay job bad
    × ((other : ℕ) → other < work.count → other ≢ job → total (bad_in work replay other) ≤ r.restarts)
    × (stale_in work replay < 4096)
spent_is_over r first before after job bad replay work given reads =
    let P : Plan → List Entry → Type 0 = λ plan log. IsSpent plan before after log job bad in
    let its = its_work r first given.plan given.replays in
    let stale = stale-given_up r first P replay work given reads in (
      record {
        known = omega (arith, given.why.known, its.count, reads.count);
        counts = bad-given_up r first P replay work given reads job ∙ sym given.why.counts;
        spent = omega (arith, given.why.spent, given.replays.restarts_are);
      },
      λ other known apart.
          let same = bad-given_up r first P replay work given reads other in
          omega (
            arith,
            ap total same,
            given.why.others other (omega (arith, known, its.count, reads.count)) apart,
            given.replays.restarts_are,
          ),
      omega (arith, stale, given.why.fresh),
    )

-- of replays that were given up after stale events 4,096 are stale, and no job has more bad attempts than restarts
pub stale_is_full : (r : Replaying) (first : ℕ) (replay : List Entry) (work : Work) → GivesUp r first IsStale replay
    → ReadsReplays r work
    → (stale_in work replay ≡ 4096) × ((job : ℕ) → job < work.count → total (bad_in work replay job) ≤ r.restarts)
stale_is_full r first replay work given reads = (
  stale-given_up r first IsStale replay work given reads ∙ given.why.stale,
  λ job known.
      let its = its_work r first given.plan given.replays in
      let same = bad-given_up r first IsStale replay work given reads job in
      omega (
        arith,
        ap total same,
        given.why.unspent job (omega (arith, known, its.count, reads.count)),
        given.replays.restarts_are,
      ),
)
