-- Replays behind a search are calm and honest, where their children are answered in this process.
use Rattle.std.proofs.Common.{◌≡◌, ℕ, ◌+◌, ◌*◌, ◌/◌, ◌%◌, ◌<◌, ◌≤◌, zero, suc, List, [], ◌++◌, refl, sym, ◌∙◌, ap, subst, arith}
use Rattle.std.proofs.Math.Nat.{mod-lt}
use Rattle.bound_certificate.specs.Problem.{Problem}
use Rattle.bound_certificate.specs.declared.outcome.Outcome.{Outcome}
use Rattle.calm_logs.proofs.Fed as ordered
use Rattle.calm_logs.proofs.Outs.{tickets}
use Rattle.calm_logs.proofs.Searches.{answers_it, calm_stops, not_refused}
use Rattle.calm_logs.proofs.Supervised.{IsServed, answered_under, calm_steps, order_under}
use Rattle.calm_logs.specs.Calm.{IsCalm}
use Rattle.child_worker.specs.Replies.{AnswersBytes, IsRefused, replay_reply}
use Rattle.crew.specs.Log.{AreAnswered, Entry, pieces_in}
use Rattle.honest_logs.specs.Honest.{IsHonest}
use Rattle.inline_crew.specs.InOrder.{InOrder, outs_in}
use Rattle.job_format.specs.Job.{Replay, ReplayJob, SpellsReplay}
use Rattle.measure_told.proofs.Alike.{bad-replays, stale-replays}
use Rattle.measure_told.proofs.Replayed.{its_work}
use Rattle.measure_told.specs.Told.{ReadsReplays}
use Rattle.path_shares.specs.Shares.{share_job}
use Rattle.replay_core.specs.declared.attempt.Attempt.{Attempt}
use Rattle.replay_jobs.specs.Replays.{IsNumbered}
use Rattle.replay_phase.specs.Phase.{Gathers, GivesUp, IsReplay, Replaying}
use Rattle.replay_places.proofs.Numbered.{cut_job, epoch_within}
use Rattle.replay_supervisor.specs.Jobs.{Work}
use Rattle.replay_supervisor.specs.Reading.{drawn_in, read}
use Rattle.replay_supervisor.specs.Steps.{AreSteps, Plan}
use Rattle.sketch_merge.specs.Merged.{View}
use Rattle.solve_phase.specs.Phase.{joined}
use Rattle.solve_phase.specs.declared.solving.Solving.{Solving}
use Rattle.calm_replays.proofs.Behind.{answered_later, order_earlier, order_later, stops-behind, unfed}
use Rattle.calm_replays.proofs.Honest.{answered_honestly, honest_stops}
use Rattle.calm_replays.proofs.Rivals.{finished_out}
use Rattle.calm_replays.specs.Inline.{IsBehind}

-- where there is a job, there is a switch
some_switch : (job epochs switches : ℕ) → job < epochs * switches → 1 ≤ switches
some_switch job epochs zero known = absurd (omega (arith, known))
some_switch job epochs (suc switches) known = omega arith

-- works by which a log of the same replays is read agree on whether it is calm
calm_alike : (r : Replaying) (v w : Work) (part : List Entry) → ReadsReplays r v → ReadsReplays r w → IsCalm v part
    → IsCalm w part
calm_alike r v w part reads also calm = record {
  fresh = stale-replays r w v also reads part ∙ calm.fresh;
  none_bad = λ job known. bad-replays r w v also reads part job
      ∙ calm.none_bad job (omega (arith, known, also.count, reads.count));
}

module _ (r : Replaying) (first : ℕ) (p : Plan) (replays : IsReplay r first p) where
  -- the job of a number, which its pieces spell
  abbrev job_at : ℕ → ReplayJob
  job_at job = share_job r.setting r.switches r.placement r.routed (job / r.switches) (job % r.switches)

  numbered : (job : ℕ) → job < p.work.count → IsNumbered r.epochs r.switches job (job / r.switches) (job % r.switches)
  numbered job known =
      let within : job < r.epochs * r.switches = omega (arith, known, replays.work.count) in
      let some = some_switch job r.epochs r.switches within in
      record {
        epoch_within = epoch_within job r.switches r.epochs some within;
        switch_within = mod-lt job some;
        number_is = sym (cut_job job r.switches);
      }

  spelled_at : (job : ℕ) → job < p.work.count → SpellsReplay (job_at job) (joined (p.work.pieces job))
  spelled_at job known =
      let is = numbered job known in
      subst (λ (n : ℕ). SpellsReplay (job_at job) (joined (p.work.pieces n))) (cut_job job r.switches)
      (replays.work.spelled (job / r.switches) (job % r.switches) is.epoch_within is.switch_within)

  -- no job is refused, and each answer to it is good
  served_replays : IsServed p.work AnswersBytes IsRefused
  served_replays = record {
    taken = λ job known. not_refused (Replay (job_at job)) (joined (p.work.pieces job)) (spelled_at job known);
    good = λ job bytes known answers. (replays.work.judges job bytes).1 (
      job / r.switches,
      job % r.switches,
      numbered job known,
      record {
        reply = replay_reply (job_at job);
        head_is = refl;
        spelled = answers_it (Replay (job_at job)) (joined (p.work.pieces job)) bytes (spelled_at job known) answers;
      },
    );
  }

  calm_supervised : (log : List Entry) (work : Work) → r.window ≤ 64 → AreSteps p log → InOrder log
      → AreAnswered AnswersBytes IsRefused log → ReadsReplays r work → IsCalm work log
  calm_supervised log work few steps order answered reads =
      calm_alike r p.work work log (its_work r first p replays) reads
      (calm_steps p AnswersBytes IsRefused log served_replays (omega (arith, few, replays.window_is)) steps order
      answered)

-- Replays behind a search that ended, in one log of which all is in order and answered.
module _ (problem : Problem) (solving : Solving) (start : ℕ) (outcome : Outcome) (solve replay : List Entry)
    (behind : IsBehind problem solving start outcome solve replay)
  where
    abbrev own : Plan
    own = behind.finds.plan

    own_steps : AreSteps own solve
    own_steps = behind.finds.is_log.steps

    -- no ticket of the search is out
    none_out : outs_in solve ≡ []
    none_out =
        sym (ordered.fed_all own solve own_steps (order_earlier replay solve behind.order)).order
        ∙ ap tickets (finished_out own solve own_steps behind.finds.finished)

    in_order : InOrder replay
    in_order = order_later solve none_out replay behind.order

    module _ (r : Replaying) (p : Plan) (replays : IsReplay r (start + drawn_in solve) p) where
      -- no ticket of the replays was fed in the search
      unfed_before : (t : ℕ) → p.first ≤ t → pieces_in solve t ≡ []
      unfed_before t past =
          unfed own solve t own_steps (omega (arith, past, replays.first_is, behind.finds.search.first_is))

      are_answered : (log : List Entry) → AreSteps p log → InOrder log
          → AreAnswered AnswersBytes IsRefused (log ++ solve) → AreAnswered AnswersBytes IsRefused log
      are_answered log = answered_later AnswersBytes IsRefused p solve unfed_before log

    module _ (r : Replaying) (merged : List View) (g : Gathers r (start + drawn_in solve) replay merged) where
      gathered_answers : AreAnswered AnswersBytes IsRefused replay
      gathered_answers = are_answered r g.plan g.replays replay g.is_log.steps in_order behind.answered

      -- replays that ended
      pub calm_gathered : (work : Work) → r.window ≤ 64 → ReadsReplays r work → IsCalm work replay
      calm_gathered work few reads =
          calm_supervised r (start + drawn_in solve) g.plan g.replays replay work few g.is_log.steps in_order
          gathered_answers reads

      pub honest_gathered : IsHonest g.plan replay
      honest_gathered = answered_honestly g.plan replay gathered_answers

    module _ (r : Replaying) (P : Plan → List Entry → Type 0) (g : GivesUp r (start + drawn_in solve) P replay) where
      abbrev outs_given_up : List Attempt
      outs_given_up = (read g.plan.work g.log).outs

      order_given_up : InOrder g.log
      order_given_up = order_under outs_given_up g.log (subst (λ (log : List Entry). InOrder log) g.whole in_order)

      given_up_answers : AreAnswered AnswersBytes IsRefused g.log
      given_up_answers =
          are_answered r g.plan g.replays g.log g.is_log.steps order_given_up
          (answered_under AnswersBytes IsRefused outs_given_up (g.log ++ solve)
          (subst (λ (log : List Entry). AreAnswered AnswersBytes IsRefused log)
          (ap (λ (log : List Entry). log ++ solve) g.whole ∙ stops-behind outs_given_up g.log solve)
          behind.answered))

      -- replays that were given up, for whatever reason
      pub calm_given_up : (work : Work) → r.window ≤ 64 → ReadsReplays r work → IsCalm work replay
      calm_given_up work few reads =
          subst (λ (log : List Entry). IsCalm work log) (sym g.whole)
          (calm_stops work outs_given_up g.log
          (calm_supervised r (start + drawn_in solve) g.plan g.replays g.log work few g.is_log.steps order_given_up
          given_up_answers reads))

      pub honest_given_up : IsHonest g.plan replay
      honest_given_up =
          subst (λ (log : List Entry). IsHonest g.plan log) (sym g.whole)
          (honest_stops g.plan outs_given_up g.log (answered_honestly g.plan g.log given_up_answers))
