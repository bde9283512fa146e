-- Which status a measure tells where what is read is told, and so is the crew's log, the newest entry first.
use Rattle.std.specs.Prelude.{◌≡◌, ◌⊎◌, ◌↔◌, ℕ, ◌*◌, Bool, true, false, List, [], ◌∷◌, ◌++◌, None, Some, Ok, is_some}
use Rattle.bound_certificate.specs.Problem.{Problem}
use Rattle.bound_certificate.specs.declared.outcome.Outcome.TheVariants.{Placed}
use Rattle.bound_certificate.specs.declared.placement.Placement.{Placement}
use Rattle.bound_certificate.specs.declared.tree.Tree.{Tree}
use Rattle.crew.specs.Log.{Entry}
use Rattle.crew.specs.Log.Entry.{Started, StartFailed, Fed, FeedFailed, Sealed, Reply, Died, Stopped}
use Rattle.measure_answers.specs.Replayed.{Contents}
use Rattle.measure_answers.specs.Text.{replaying_of}
use Rattle.mon_call.specs.CrewCall.{CrewCall}
use Rattle.mon_call.specs.Told.{HasBytes, IsSmooth}
use Rattle.mon_call.specs.declared.setting.Setting.{Setting}
use Rattle.mon_call.specs.declared.status.Phase.{Phase}
use Rattle.mon_call.specs.declared.status.Phase.TheVariants as phases
use Rattle.mon_place.specs.Told.{HasLog}
use Rattle.path_shares.specs.Shares.{share_job}
use Rattle.pcap_reader.specs.Trace.{IsTrace, Record}
use Rattle.pcap_reader.specs.declared.header.Header.{Header}
use Rattle.replay_jobs.specs.Replays.{IsNumbered}
use Rattle.replay_phase.specs.Phase.{Replaying}
use Rattle.replay_supervisor.specs.Jobs.{Work}
use Rattle.replay_supervisor.specs.Reading.{accepted, read}
use Rattle.routed_trace.specs.Routed.{IsDivided}
use Rattle.routed_trace.specs.declared.division.Division.{Division}
use Rattle.share_jobs.specs.Heads.{head_to}
use Rattle.share_jobs.specs.Reading.{IsReplyTo}
use Rattle.solve_jobs.specs.Replies.{IsReplyWith}
use Rattle.solve_phase.specs.Told.{ReadsSearch}
use Rattle.solve_phase.specs.declared.solving.Solving.{Solving}
use Rattle.topology.specs.Topology.{Topo, topology_of}

-- the topology and the trace are told, and have no fault
pub record HasWork (contents : Contents) (division : Division) (topo : Topo) (header : Header) (members : List Record)
    : Type 0 where
  pub topology : HasBytes contents.topology (λ bytes. topology_of bytes ≡ Ok topo)
  pub trace : HasBytes contents.trace (λ bytes. IsTrace bytes header members)
  pub divided : IsDivided division header members

-- No count of inputs or sink rose, the topology and the trace are told without a fault, and so is the part of the log.
pub record IsToldMeasure (contents : Contents) (setting : Setting) (solving : Solving) (c : CrewCall) (topo : Topo)
    (header : Header) (members : List Record) (part : List Entry) : Type 0 where
  pub smooth : IsSmooth c.call
  pub work : HasWork contents setting.division topo header members
  pub log : HasLog c part

-- whether a ticket was stopped
abbrev pub is_stop : Entry → Bool
is_stop (Started t) = false
is_stop (StartFailed t) = false
is_stop (Fed t piece) = false
is_stop (FeedFailed t) = false
is_stop (Sealed t) = false
is_stop (Reply t bytes) = false
is_stop (Died t) = false
is_stop (Stopped t) = true

-- A part of a log is divided into the entries of one job, which end with the reply that is accepted and the stopped tickets
-- that follow it, and those behind, of which the oldest is no stopped ticket.
pub record Divides (work : Work) (part solve replay : List Entry) : Type 0 where
  pub whole : part ≡ replay ++ solve
  pub done : is_some (accepted (read work solve) 0) ≡ true
  pub ends : (later earlier : List Entry) (entry : Entry) → solve ≡ later ++ entry ∷ earlier → is_stop entry ≡ false
      → accepted (read work earlier) 0 ≡ None
  pub next : (later : List Entry) (entry : Entry) → replay ≡ later ++ entry ∷ [] → is_stop entry ≡ false

-- the search of a part of a log, with work by which it is read: the whole part where no reply is accepted in it, and else
-- what the part is divided into first
pub record InSolving (problem : Problem) (solving : Solving) (part : List Entry) (work : Work) (solve : List Entry)
    : Type 0 where
  pub reads : ReadsSearch problem solving.nodes work
  pub phases : ((solve ≡ part) × (accepted (read work part) 0 ≡ None))
      ⊎ ((replay : List Entry) × Divides work part solve replay)

-- work by which the log of replays is read: a job for each epoch and switch, whose good replies are those to it
pub record ReadsReplays (r : Replaying) (work : Work) : Type 0 where
  pub count : work.count ≡ r.epochs * r.switches
  pub judges : (number : ℕ) (bytes : List ℕ) → (work.is_good number bytes ≡ true) ↔ ((epoch : ℕ) × (switch : ℕ)
      × IsNumbered r.epochs r.switches number epoch switch
      × IsReplyTo (head_to (share_job r.setting r.switches r.placement r.routed epoch switch)) bytes)

-- the replays of a part of a log, with work by which they are read: all that comes behind a search whose accepted reply
-- spells a placement, whose shares are replayed
pub record InReplaying (setting : Setting) (solving : Solving) (topo : Topo) (header : Header) (members : List Record)
    (part : List Entry) (work : Work) (replay : List Entry) : Type 0 where
  pub search : Work
  pub searches : ReadsSearch topo.problem solving.nodes search
  pub solve : List Entry
  pub divides : Divides search part solve replay
  pub placement : Placement
  pub tree : Tree
  pub bytes : List ℕ
  pub accepts : accepted (read search solve) 0 ≡ Some bytes
  pub reply : IsReplyWith topo.problem solving.nodes (Placed placement tree) bytes
  pub reads : ReadsReplays (replaying_of setting solving topo header members placement.sites) work

-- the entries of a phase in a part of a log, with work by which they are read
abbrev pub InPhase : Setting → Solving → Topo → Header → List Record → List Entry → Phase → Work → List Entry → Type 0
InPhase setting solving topo header members part phases.Solve work entries =
    InSolving topo.problem solving part work entries
InPhase setting solving topo header members part phases.Replay work entries =
    InReplaying setting solving topo header members part work entries
