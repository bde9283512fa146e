-- A measure over such a crew is honest.
use Rattle.std.proofs.Common.{◌≡◌, List, ◌++◌, subst}
use Rattle.std.specs.Prelude.{⊤}
use Rattle.bound_certificate.specs.declared.outcome.Outcome.TheVariants.{Placed}
use Rattle.calm_replays.proofs.Measures.{whole_log}
use Rattle.crew.specs.Log.{Entry, told}
use Rattle.honest_logs.specs.Honest.{IsHonest}
use Rattle.measure_answers.specs.Replayed.{Contents, GivesUpReplays, HasPlacement, HasReplies, replays_of}
use Rattle.mon_call.specs.CrewCall.{CrewCall}
use Rattle.mon_call.specs.declared.setting.Setting.{Setting}
use Rattle.scripted_crew.specs.Script.{Script}
use Rattle.solve_phase.specs.declared.solving.Solving.{Solving}
use Rattle.scripted_logs.proofs.Honest.{honest_gathered, honest_given_up}
use Rattle.scripted_logs.specs.Answering.{AnswersAlone, FollowsScript, IsScriptedBehind, IsScriptedRun}

module _ (s : Script) (contents : Contents) (setting : Setting) (solving : Solving) (c : CrewCall)
    (entries : List Entry) (run : IsScriptedRun s c entries) (alone : AnswersAlone s.deeds)
  where
    -- the replays stand behind the search for the placement
    stands_behind : (placed : HasPlacement contents setting solving c) (replay : List Entry)
        → c.crew_after.log ≡ told c.crew.log (replay ++ placed.solve)
        → IsScriptedBehind s placed.topo.problem solving c.crew.issued (Placed placed.placement placed.tree)
        placed.solve replay
    stands_behind placed replay grown = record {
      finds = placed.finds;
      follows = subst (FollowsScript s)
          (whole_log c entries (replay ++ placed.solve) run.fresh run.told grown) run.follows;
    }

    -- the accepted replies of the shares are those of honest children
    pub measure_honest : (has : HasReplies contents setting solving c) → IsHonest has.gathers.plan has.replay
    measure_honest has =
        honest_gathered s alone has.placed.topo.problem solving c.crew.issued
        (Placed has.placed.placement has.placed.tree) has.placed.solve has.replay
        (stands_behind has.placed has.replay has.grows.log)
        (replays_of contents setting solving c has.placed) has.merged has.gathers

    -- also where the replays were given up
    pub measure_given_up : (gives : GivesUpReplays contents setting solving c (λ plan log. ⊤))
        → IsHonest gives.gives_up.plan gives.replay
    measure_given_up gives =
        honest_given_up s alone gives.placed.topo.problem solving c.crew.issued
        (Placed gives.placed.placement gives.placed.tree) gives.placed.solve gives.replay
        (stands_behind gives.placed gives.replay gives.grows.log)
        (replays_of contents setting solving c gives.placed) (λ plan log. ⊤) gives.gives_up
