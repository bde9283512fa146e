-- What a measure has of its children: a placement, and behind it the sketches of the shares.
use Rattle.std.specs.Prelude.{◌≡◌, ℕ, ◌+◌, ◌<◌, ℤ, List, ◌++◌, Option, Some, IfSome}
use Rattle.bound_certificate.specs.declared.outcome.Outcome.TheVariants.{Placed}
use Rattle.bound_certificate.specs.declared.placement.Placement.{Placement}
use Rattle.bound_certificate.specs.declared.tree.Tree.{Tree}
use Rattle.change_report.specs.Form.{Form}
use Rattle.crew.specs.Log.{Entry}
use Rattle.honest_logs.specs.Honest.{IsHonest}
use Rattle.mon_io.specs.Inputs.{InputState}
use Rattle.mon_call.specs.CrewCall.{CrewCall}
use Rattle.mon_call.specs.Topology.{SpellTopology}
use Rattle.mon_call.specs.declared.setting.Setting.{Setting}
use Rattle.path_shares.specs.Honest.{IsUnited, IsWhole}
use Rattle.pcap_reader.specs.Trace.{Record, IsTrace}
use Rattle.pcap_reader.specs.declared.header.Header.{Header}
use Rattle.replay_phase.specs.Phase.{Gathers, GivesUp, Replaying}
use Rattle.replay_places.specs.Epochs.{view_at}
use Rattle.replay_supervisor.specs.Reading.{drawn_in}
use Rattle.replay_supervisor.specs.Steps.{Plan}
use Rattle.routed_trace.specs.Routed.{IsDivided, items_in}
use Rattle.routed_trace.specs.declared.division.Division.{Division}
use Rattle.sketch_levels.specs.Items.{weight_of}
use Rattle.sketch_merge.specs.Merged.{View}
use Rattle.solve_phase.specs.Phase.{Finds, Grows, verdict_on}
use Rattle.solve_phase.specs.declared.solving.Solving.{Solving}
use Rattle.topology.specs.Topology.{Topo}
use Rattle.measure_answers.specs.Text.{measure_text, replaying_of}

-- the contents of what is read: of a topology and of a trace
pub record Contents : Type 0 where
  pub topology : Option (List ℕ)
  pub trace : Option (List ℕ)

abbrev pub contents_of : InputState → List ℕ → List ℕ → Contents
contents_of inputs topology trace =
    record { topology = inputs.contents topology; trace = inputs.contents trace }

-- told contents are a trace of some records, none of which is late or heavy
pub record IsTraced (contents : Option (List ℕ)) (division : Division) : Type 0 where
  pub header : Header
  pub members : List Record
  pub is_trace : IfSome contents (λ bytes. IsTrace bytes header members)
  pub divided : IsDivided division header members

module _ (contents : Contents) (setting : Setting) (solving : Solving) (c : CrewCall) where
  -- The told contents spell a topology and a trace, and in the first part of the log a child has found this placement for
  -- the topology's problem.
  pub record HasPlacement : Type 0 where
    pub topo : Topo
    pub spells : SpellTopology contents.topology topo
    pub traced : IsTraced contents.trace setting.division
    pub placement : Placement
    pub tree : Tree
    pub solve : List Entry
    pub finds : Finds topo.problem solving c.crew.issued solve (Placed placement tree)

  -- whose shares are replayed behind it
  abbrev pub replays_of : HasPlacement → Replaying
  replays_of placed =
      replaying_of setting solving placed.topo placed.traced.header placed.traced.members placed.placement.sites

  -- the first ticket of the replays
  abbrev pub first_behind : HasPlacement → ℕ
  first_behind placed = c.crew.issued + drawn_in placed.solve

  -- In the second part of the log each share has its first good reply, and these are the values to which they were
  -- merged, one an epoch. An epoch's value weighs what its packets weigh. Where the children whose replies were accepted
  -- are honest, it has the counters of one sketch that is fed each packet of the epoch once, and the keys and the mark of
  -- the shares; and where no share dropped a key, the lines are those of a sketch with every live key.
  pub record HasReplies : Type 0 where
    pub placed : HasPlacement
    pub replay : List Entry
    pub grows : Grows c.crew c.crew_after (replay ++ placed.solve)
    pub merged : List View
    pub gathers : Gathers (replays_of placed) (first_behind placed) replay merged
    pub weighed : (epoch : ℕ) → epoch < (replays_of placed).epochs
        → (view_at merged epoch).weight ≡ weight_of (items_in epoch (replays_of placed).routed)
    pub united : IsHonest gathers.plan replay → (epoch : ℕ) → epoch < (replays_of placed).epochs
        → IsUnited (replays_of placed).setting (replays_of placed).switches (replays_of placed).placement
        (replays_of placed).routed epoch (view_at merged epoch)
    pub whole : IsHonest gathers.plan replay
        → IsWhole (replays_of placed).setting (replays_of placed).routed (replays_of placed).epochs (view_at merged)

  -- this is the text of such replies, with the bound of the placement's tree
  pub record IsMeasured (form : Form) (text : List ℕ) : Type 0 where
    pub has : HasReplies
    pub bound : ℤ
    pub bound_is : (verdict_on has.placed.topo.problem (Placed has.placed.placement has.placed.tree)).bound ≡ Some bound
    pub lines : text ≡ measure_text form setting has.placed.topo has.placed.traced.header has.placed.traced.members
        has.placed.placement.sites bound (view_at has.merged)

  -- the replays were given up, for a reason
  pub record GivesUpReplays (P : Plan → List Entry → Type 0) : Type 0 where
    pub placed : HasPlacement
    pub replay : List Entry
    pub grows : Grows c.crew c.crew_after (replay ++ placed.solve)
    pub gives_up : GivesUp (replays_of placed) (first_behind placed) P replay
