-- A measure whose children are answered in this process is calm and honest.
use Rattle.std.proofs.Common.{◌≡◌, ◌⊎◌, List, [], ◌++◌, append-nil, Option, Some, sym, ◌∙◌, ap, subst, inl, inr}
use Rattle.std.proofs.Math.Logic.{∥∥₁_elim, ∥∥₁_map₂}
use Rattle.std.proofs.lemmas.Option.{same_Some}
use Rattle.bound_certificate.specs.declared.outcome.Outcome.TheVariants.{Placed}
use Rattle.calm_logs.proofs.Parts.{calm_within}
use Rattle.calm_logs.proofs.Told.{calm_once}
use Rattle.calm_logs.specs.Calm.{IsCalm}
use Rattle.change_report.specs.Form.{Form}
use Rattle.child_worker.specs.Replies.{AnswersBytes, IsRefused}
use Rattle.crew.specs.Log.{AreAnswered, Entry, told}
use Rattle.honest_logs.specs.Honest.{IsHonest}
use Rattle.inline_crew.specs.InOrder.{InOrder}
use Rattle.measure_answers.specs.Measure.{MeasureAnswers}
use Rattle.measure_answers.specs.Replayed.{Contents, HasReplies, replays_of}
use Rattle.measure_told.proofs.Told.{measure_ends}
use Rattle.measure_told.specs.Told.{InPhase, IsToldMeasure}
use Rattle.mon_call.specs.CrewCall.{CrewCall, IsIdle}
use Rattle.mon_call.specs.declared.setting.Setting.{Setting}
use Rattle.mon_call.specs.declared.status.Phase.{Phase}
use Rattle.mon_call.specs.declared.status.Status.{Status}
use Rattle.mon_place.specs.Told.{IsEnding}
use Rattle.pcap_reader.specs.Trace.{Record}
use Rattle.pcap_reader.specs.declared.header.Header.{Header}
use Rattle.replay_supervisor.specs.Jobs.{Work}
use Rattle.solve_phase.specs.Solving.{IsSolving}
use Rattle.solve_phase.specs.declared.solving.Solving.{Solving}
use Rattle.topology.specs.Topology.{Topo}
use Rattle.calm_replays.proofs.Phases.{calm_idle, calm_phase, idle_part, phases_of}
use Rattle.calm_replays.proofs.Replays.{honest_gathered}
use Rattle.calm_replays.proofs.Spelled.{honest_told}
use Rattle.calm_replays.specs.Inline.{IsInline}

-- what was appended to an empty log is the whole log
pub whole_log : (c : CrewCall) (entries part : List Entry) → c.crew.log ≡ Some [] → c.crew_after.log ≡ Some entries
    → c.crew_after.log ≡ told c.crew.log part → entries ≡ part
whole_log c entries part fresh is grown =
    same_Some entries (part ++ []) (sym is ∙ grown ∙ ap (λ (log : Option (List Entry)). told log part) fresh)
    ∙ append-nil part

module _ (c : CrewCall) (entries : List Entry) (inline : IsInline c entries) (part : List Entry)
    (grown : c.crew_after.log ≡ told c.crew.log part)
  where
    is_whole : entries ≡ part
    is_whole = whole_log c entries part inline.fresh inline.told grown

    order_told : ∥ InOrder part ∥₁
    order_told = subst (λ (log : List Entry). ∥ InOrder log ∥₁) is_whole inline.order

    answered_told : ∥ AreAnswered AnswersBytes IsRefused part ∥₁
    answered_told = subst (λ (log : List Entry). ∥ AreAnswered AnswersBytes IsRefused log ∥₁) is_whole inline.answered

module _ (form : Form) (contents : Contents) (setting : Setting) (solving : Solving) (c : CrewCall) (topo : Topo)
    (header : Header) (members : List Record) (part entries : List Entry) (inline : IsInline c entries)
    (limits : IsIdle c ⊎ IsSolving solving)
    (work_told : IsToldMeasure contents setting solving c topo header members part) (status : Status)
    (answers : MeasureAnswers form contents setting solving c status)
  where
    grown : c.crew_after.log ≡ told c.crew.log part
    grown =
        work_told.log.after
        ∙ sym (ap (λ (log : Option (List Entry)). told log part) work_told.log.before)

    -- no event of either phase is stale, and no attempt is bad
    pub measure_calm : (phase : Phase) (work : Work) (phase_entries : List Entry)
        → InPhase setting solving topo header members part phase work phase_entries → IsCalm work phase_entries
    measure_calm phase work phase_entries inside = elim limits [
      | inl idle ↦ calm_idle contents setting solving c topo header members part
          (idle_part contents setting solving c topo header members part work_told.log idle) phase work phase_entries
          inside
      | inr within ↦
          ∥∥₁_elim (order_told c entries inline part grown) (calm_once work phase_entries)
          (λ order. ∥∥₁_elim (answered_told c entries inline part grown) (calm_once work phase_entries)
          (λ answered. calm_phase contents setting solving c topo header members part within order answered
          (phases_of contents setting solving c topo header members part work_told form status answers) phase work
          phase_entries inside))
    ]

    -- so it ends with an outcome
    pub inline_ends : IsEnding topo.problem solving.nodes status
    inline_ends =
        measure_ends form contents setting solving c topo header members part work_told status
        (λ phase work phase_entries inside. calm_within solving.restarts work phase_entries
        (measure_calm phase work phase_entries inside)) answers

-- the accepted replies of the shares are those of honest children
pub measure_honest : (contents : Contents) (setting : Setting) (solving : Solving) (c : CrewCall)
    (entries : List Entry) → IsInline c entries → (has : HasReplies contents setting solving c)
    → IsHonest has.gathers.plan has.replay
measure_honest contents setting solving c entries inline has =
    let part = has.replay ++ has.placed.solve in
    honest_told has.gathers.plan has.replay
    (∥∥₁_map₂ (order_told c entries inline part has.grows.log) (answered_told c entries inline part has.grows.log)
    (λ order answered. honest_gathered has.placed.topo.problem solving c.crew.issued
    (Placed has.placed.placement has.placed.tree) has.placed.solve has.replay
    (record { finds = has.placed.finds; order = order; answered = answered })
    (replays_of contents setting solving c has.placed) has.merged has.gathers))
