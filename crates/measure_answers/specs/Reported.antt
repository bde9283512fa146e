-- How the shares of a placement were replayed and reported.
use Rattle.std.specs.Prelude.{◌≡◌, ◌⊎◌, ⊤, ℕ, ℤ, List}
use Rattle.change_report.specs.Form.{Form}
use Rattle.crew.specs.Crew.{CrewState}
use Rattle.mon_call.specs.declared.setting.Setting.{Setting}
use Rattle.mon_call.specs.declared.status.Phase.TheVariants as phases
use Rattle.mon_call.specs.declared.status.Status.{Status}
use Rattle.mon_call.specs.declared.status.Status.TheVariants as statuses
use Rattle.mon_io.specs.Faults.{Rose}
use Rattle.mon_io.specs.Sink.{Grew, GrewByPart, SinkState}
use Rattle.pcap_reader.specs.Trace.{Record}
use Rattle.pcap_reader.specs.declared.header.Header.{Header}
use Rattle.replay_phase.specs.Phase.{EndsReplays, HasReplayed, Replaying}
use Rattle.replay_places.specs.Epochs.{view_at}
use Rattle.replay_supervisor.specs.Outcome.{IsSpent, IsStale}
use Rattle.sketch_merge.specs.Merged.{View}
use Rattle.solve_phase.specs.declared.solving.Solving.{Solving}
use Rattle.topology.specs.Topology.{Topo}
use Rattle.measure_answers.specs.Text.{measure_text, replaying_of}

-- the shares that are replayed, and the text of what they are merged to
pub record Shares : Type 0 where
  pub replays : Replaying
  pub text : List View → List ℕ

abbrev pub shares_of : Form → Setting → Solving → Topo → Header → List Record → List ℕ → ℤ → Shares
shares_of form setting solving topo header members placement bound = record {
  replays = replaying_of setting solving topo header members placement;
  text = λ merged. measure_text form setting topo header members placement bound (view_at merged);
}

-- Each status with its cause: the text was written, or a prefix of it where the sink failed, or the replays were given
-- up, and nothing was written. Want of memory is free.
abbrev pub ReportsShares : Shares → CrewState → CrewState → SinkState → SinkState → Status → Type 0
ReportsShares shares before after sink sink_after statuses.Done =
    (merged : List View) × HasReplayed shares.replays before after merged
    × Grew sink.written sink_after.written (shares.text merged)
ReportsShares shares before after sink sink_after statuses.SinkFault =
    Rose sink.faults sink_after.faults × ((merged : List View) × HasReplayed shares.replays before after merged
    × GrewByPart sink.written sink_after.written (shares.text merged))
ReportsShares shares before after sink sink_after (statuses.RestartsSpent phases.Replay job bad) =
    EndsReplays shares.replays before after (λ plan log. IsSpent plan before after log job bad)
    × (sink_after.written ≡ sink.written)
ReportsShares shares before after sink sink_after (statuses.StaleLimit phases.Replay) =
    EndsReplays shares.replays before after IsStale × (sink_after.written ≡ sink.written)
ReportsShares shares before after sink sink_after statuses.Memory =
    ((after ≡ before) ⊎ (EndsReplays shares.replays before after (λ plan log. ⊤)
    ⊎ ((merged : List View) × HasReplayed shares.replays before after merged)))
    × (sink_after.written ≡ sink.written)
ReportsShares shares before after sink sink_after _ = ⊥

-- a status that comes behind what is read
abbrev pub IsLate : Status → Type 0
IsLate statuses.Done = Unit {0}
IsLate statuses.Infeasible = Unit {0}
IsLate (statuses.SearchBudget nodes) = Unit {0}
IsLate (statuses.RestartsSpent phase job bad) = Unit {0}
IsLate (statuses.StaleLimit phase) = Unit {0}
IsLate statuses.SinkFault = Unit {0}
IsLate statuses.Memory = Unit {0}
IsLate _ = ⊥
