-- A measure over children in this process is calm, and ends.
use Rattle.std.proofs.Common.{◌≡◌, ℕ, List, [], Ok, Result, Some, sym, subst}
use Rattle.calm_logs.specs.Calm.{IsCalm}
use Rattle.calm_replays.proofs.Measures.{inline_ends, measure_calm}
use Rattle.calm_replays.specs.Inline.{IsInline}
use Rattle.child_worker.specs.Replies.{AnswersBytes, IsRefused}
use Rattle.crew.specs.Log.{AreAnswered, Entry}
use Rattle.inline_crew.specs.InOrder.{InOrder}
use Rattle.measure_told.specs.Told.{InPhase, IsToldMeasure}
use Rattle.mon_call.specs.CrewCall.{CrewCall}
use Rattle.mon_call.specs.declared.status.Phase.{Phase}
use Rattle.mon_call.specs.declared.status.Status.{Status}
use Rattle.mon_command.proofs.Measuring.{IsMeasure, is_measure, over, told_over}
use Rattle.mon_command.specs.Asked.{Asked}
use Rattle.mon_command.specs.Measures.{Measures, measured_by}
use Rattle.mon_command.specs.Outcome.{CrewOutcome}
use Rattle.mon_place.specs.Told.{IsEnding}
use Rattle.mon_words.specs.declared.usage_fault.UsageFault.{UsageFault}
use Rattle.pcap_reader.specs.Trace.{Record}
use Rattle.pcap_reader.specs.declared.header.Header.{Header}
use Rattle.replay_supervisor.specs.Jobs.{Work}
use Rattle.topology.specs.Topology.{Topo}

-- what a crew tells of its log
pub told_inline : (c : CrewCall) (entries : List Entry) → c.crew.log ≡ Some [] → Some entries ≡ c.crew_after.log
    → ∥ InOrder entries ∥₁ → ∥ AreAnswered AnswersBytes IsRefused entries ∥₁ → IsInline c entries
told_inline c entries fresh told order answered = record {
  fresh = fresh;
  told = sym told;
  order = order;
  answered = answered;
}

module _ (before after : List (List ℕ) → Type 0) (read : Result Asked UsageFault) (asked : Asked) (m : Measures)
    (c : CrewCall) (status : Status) (entries : List Entry) (outcome : CrewOutcome before after read c status)
    (taken : read ≡ Ok asked) (same : measured_by asked c ≡ Some m) (inline : IsInline c entries)
  where
    measure : IsMeasure m c status
    measure = is_measure before after asked m c status same
        (subst (λ (r : Result Asked UsageFault). CrewOutcome before after r c status) taken outcome)

    -- the call in which the measure answers
    abbrev inner : CrewCall
    inner = over measure.files measure.files_after c

    inline_inner : IsInline inner entries
    inline_inner = record {
      fresh = inline.fresh;
      told = inline.told;
      order = inline.order;
      answered = inline.answered;
    }

    module _ (topo : Topo) (header : Header) (members : List Record) (part : List Entry)
        (told : IsToldMeasure m.contents m.setting m.solving c topo header members part)
      where
        told_inner : IsToldMeasure m.contents m.setting m.solving inner topo header members part
        told_inner = told_over m c topo header members part status measure told

        pub measured_calm : (phase : Phase) (work : Work) (phase_entries : List Entry)
            → InPhase m.setting m.solving topo header members part phase work phase_entries
            → IsCalm work phase_entries
        measured_calm =
            measure_calm measure.form m.contents m.setting m.solving inner topo header members part entries inline_inner
            measure.limits told_inner status measure.answers

        pub measured_ends : IsEnding topo.problem m.solving.nodes status
        measured_ends =
            inline_ends measure.form m.contents m.setting m.solving inner topo header members part entries inline_inner
            measure.limits told_inner status measure.answers
