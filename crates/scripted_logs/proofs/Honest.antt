-- A log of a script over workers whose acts are answers and deaths alone is honest, and so is its part behind a search.
use Rattle.std.proofs.Common.{◌≡◌, ℕ, ◌+◌, ◌≤◌, List, [], ◌++◌, sym, ◌∙◌, ap, subst, arith}
use Rattle.std.specs.Prelude.{⊤}
use Rattle.std.proofs.Math.Logic.{∥∥₁_map}
use Rattle.bound_certificate.specs.Problem.{Problem}
use Rattle.bound_certificate.specs.declared.outcome.Outcome.{Outcome}
use Rattle.calm_logs.proofs.Supervised.{answered_under}
use Rattle.calm_replays.proofs.Behind.{stops-behind, unfed}
use Rattle.calm_replays.proofs.Honest.{answers_honestly, honest_by, honest_stops}
use Rattle.calm_replays.proofs.Spelled.{honest_told}
use Rattle.child_worker.specs.Replies.{AnswersBytes, IsRefused}
use Rattle.crew.specs.Log.{Entry, pieces_in}
use Rattle.honest_logs.specs.Honest.{AnswersHonestly, IsHonest}
use Rattle.replay_core.specs.declared.attempt.Attempt.{Attempt}
use Rattle.replay_phase.specs.Phase.{Gathers, GivesUp, IsReplay, Replaying}
use Rattle.replay_supervisor.proofs.Honest.{honest-answered}
use Rattle.replay_supervisor.specs.Reading.{AreHonest, drawn_in, read}
use Rattle.replay_supervisor.specs.Steps.{AreSteps, Plan}
use Rattle.scripted_crew.specs.Script.{Script}
use Rattle.sketch_merge.specs.Merged.{View}
use Rattle.solve_phase.specs.declared.solving.Solving.{Solving}
use Rattle.scripted_logs.proofs.Answering.{scripted_answers}
use Rattle.scripted_logs.proofs.Firsts.{honest_later}
use Rattle.scripted_logs.specs.Answering.{AnswersAlone, FollowsScript, IsScriptedBehind, RepliesAnswer}

-- a log whose accepted replies are those of workers is honest
worked_honestly : (p : Plan) (log : List Entry) → AreHonest p.work AnswersBytes log → IsHonest p log
worked_honestly p log honest = honest_by p.work AnswersBytes AnswersHonestly answers_honestly log honest

module _ (s : Script) (alone : AnswersAlone s.deeds) where
  -- each reply answers
  pub replies_told : (log : List Entry) → FollowsScript s log → ∥ RepliesAnswer AnswersBytes log ∥₁
  replies_told log follows = ∥∥₁_map follows (scripted_answers s AnswersBytes IsRefused alone log)

  pub honest_log : (log : List Entry) → FollowsScript s log → (p : Plan) → IsHonest p log
  honest_log log follows p =
      honest_told p log
      (∥∥₁_map (replies_told log follows)
      (λ replies. worked_honestly p log (honest-answered p.work AnswersBytes (λ job. ⊤) log replies)))

  -- Behind a search that ended.
  module _ (problem : Problem) (solving : Solving) (start : ℕ) (outcome : Outcome) (solve replay : List Entry)
      (behind : IsScriptedBehind s problem solving start outcome solve replay)
    where
      replies_behind : ∥ RepliesAnswer AnswersBytes (replay ++ solve) ∥₁
      replies_behind = replies_told (replay ++ solve) behind.follows

      module _ (r : Replaying) (p : Plan) (replays : IsReplay r (start + drawn_in solve) p) where
        -- no ticket of the replays was fed in the search
        unfed_before : (t : ℕ) → p.first ≤ t → pieces_in solve t ≡ []
        unfed_before t past =
            unfed behind.finds.plan solve t behind.finds.is_log.steps
            (omega (arith, past, replays.first_is, behind.finds.search.first_is))

        honest_part : (log : List Entry) → AreSteps p log → RepliesAnswer AnswersBytes (log ++ solve) → IsHonest p log
        honest_part log steps replies =
            worked_honestly p log (honest_later AnswersBytes (λ job. ⊤) p solve unfed_before log steps replies)

      -- replays that ended
      pub honest_gathered : (r : Replaying) (merged : List View)
          → (g : Gathers r (start + drawn_in solve) replay merged) → IsHonest g.plan replay
      honest_gathered r merged g =
          honest_told g.plan replay
          (∥∥₁_map replies_behind (honest_part r g.plan g.replays replay g.is_log.steps))

      -- replays that were given up, for whatever reason
      module _ (r : Replaying) (P : Plan → List Entry → Type 0) (g : GivesUp r (start + drawn_in solve) P replay) where
        abbrev outs_given_up : List Attempt
        outs_given_up = (read g.plan.work g.log).outs

        replies_given_up : RepliesAnswer AnswersBytes (replay ++ solve) → RepliesAnswer AnswersBytes (g.log ++ solve)
        replies_given_up replies =
            answered_under AnswersBytes (λ job. ⊤) outs_given_up (g.log ++ solve)
            (subst (λ (log : List Entry). RepliesAnswer AnswersBytes log)
            (ap (λ (log : List Entry). log ++ solve) g.whole ∙ stops-behind outs_given_up g.log solve) replies)

        stopped_honestly : RepliesAnswer AnswersBytes (replay ++ solve) → IsHonest g.plan replay
        stopped_honestly replies =
            subst (λ (log : List Entry). IsHonest g.plan log) (sym g.whole)
            (honest_stops g.plan outs_given_up g.log
            (honest_part r g.plan g.replays g.log g.is_log.steps (replies_given_up replies)))

        pub honest_given_up : IsHonest g.plan replay
        honest_given_up = honest_told g.plan replay (∥∥₁_map replies_behind stopped_honestly)
