-- The text of a measure whose children are honest.
use Rattle.std.proofs.Common.{◌≡◌, ℕ, ◌<◌, ℤ, List, length, Option, Some, Ok, refl, sym, ◌∙◌, ap, subst}
use Rattle.bound_certificate.specs.Problem.{site_count}
use Rattle.bound_certificate.specs.declared.outcome.Outcome.TheVariants.{Placed}
use Rattle.bound_certificate.specs.declared.placement.Placement.{Placement}
use Rattle.bound_certificate.specs.declared.tree.Tree.{Tree}
use Rattle.change_report.specs.Form.{Form}
use Rattle.flow_keys.specs.declared.routed.Routed.{Routed}
use Rattle.hash_family.specs.Setting as sketch
use Rattle.honest_logs.specs.Honest.{IsHonest}
use Rattle.measure_answers.specs.Replayed.{Contents, HasPlacement, HasReplies, IsMeasured, replays_of}
use Rattle.measure_answers.specs.Text.{epochs_of, measure_text, packets_of, sketch_setting}
use Rattle.measure_report.proofs.Reports.{same_report}
use Rattle.mon_call.proofs.Topologies.{at_bytes}
use Rattle.mon_call.specs.CrewCall.{CrewCall}
use Rattle.mon_call.specs.declared.setting.Setting.{Setting}
use Rattle.path_shares.specs.Honest.{IsUnited}
use Rattle.pcap_reader.proofs.Traces.{one_trace}
use Rattle.pcap_reader.specs.Trace.{IsTrace, Record}
use Rattle.pcap_reader.specs.declared.header.Header.{Header}
use Rattle.replay_phase.specs.Phase.{epoch_replies}
use Rattle.replay_places.specs.Epochs.{view_at, weights}
use Rattle.reply_format.specs.Reply.{ReplayReply}
use Rattle.routed_trace.specs.Routed.{items_in, keyed_in}
use Rattle.sketch_merge.specs.Merged.{View}
use Rattle.sketch_merge.specs.Merging.{merged_view}
use Rattle.solve_phase.specs.Phase.{verdict_on}
use Rattle.solve_phase.specs.declared.solving.Solving.{Solving}
use Rattle.topology.specs.Topology.{Topo, topology_of}

setting_is : (setting : sketch.Setting) (weight : ℕ) (replies : List ReplayReply)
    → (merged_view setting weight replies).setting ≡ setting
unfolding merged_view
setting_is setting weight replies = refl

-- what is united is one sketch
one_view : (setting : sketch.Setting) (switches : ℕ) (placement : List ℕ) (routed : List Routed) (epoch : ℕ)
    (view other : View) → view.setting ≡ other.setting → IsUnited setting switches placement routed epoch view
    → IsUnited setting switches placement routed epoch other → view ≡ other
one_view setting switches placement routed epoch view other shape one two i = record {
  setting = shape i;
  weight = (one.weight ∙ sym two.weight) i;
  counters = (one.counters ∙ sym two.counters) i;
  keys = (one.keys ∙ sym two.keys) i;
  dropped = (one.mark ∙ sym two.mark) i;
}

one_bound : (told : Option ℤ) (bound least : ℤ) → told ≡ Some bound → told ≡ Some least → bound ≡ least
one_bound told bound least is also = cc

-- what a text says beside the sketches, and the tree of its bound
record Said : Type 0 where
  topo : Topo
  header : Header
  members : List Record
  placement : Placement
  tree : Tree

module _ (form : Form) (setting : Setting) where
  abbrev packets : Said → List Routed
  packets said = packets_of setting said.topo said.header said.members

  abbrev epochs : Said → ℕ
  epochs said = epochs_of setting said.header said.members

  -- the sketches of all epochs are united
  abbrev AreUnited : Said → (ℕ → View) → Type 0
  AreUnited said view =
      (epoch : ℕ) → epoch < epochs said → ((view epoch).setting ≡ sketch_setting setting)
      × IsUnited (sketch_setting setting) (site_count said.topo.problem) said.placement.sites (packets said) epoch
      (view epoch)

  abbrev IsBound : Said → ℤ → Type 0
  IsBound said bound = (verdict_on said.topo.problem (Placed said.placement said.tree)).bound ≡ Some bound

  abbrev text_of : Said → ℤ → (ℕ → View) → List ℕ
  text_of said bound view =
      measure_text form setting said.topo said.header said.members said.placement.sites bound view

  -- two texts of united sketches
  one_text : (said other : Said) (bound least : ℤ) (view more : ℕ → View) → other ≡ said
      → IsBound said bound → IsBound other least → AreUnited said view
      → AreUnited other more → text_of said bound view ≡ text_of other least more
  one_text said other bound least view more same bound_is least_is one two =
      let also : AreUnited said more = subst (λ (s : Said). AreUnited s more) same two in
      let least_too : IsBound said least = subst (λ (s : Said). IsBound s least) same least_is in
      let bounds : bound ≡ least =
      one_bound (verdict_on said.topo.problem (Placed said.placement said.tree)).bound bound least bound_is least_too
      in
      let items = λ (epoch : ℕ). length (items_in epoch (packets said)) in
      same_report form said.topo (sketch_setting setting) setting.division.bytes setting.heavy (length said.members)
      (keyed_in said.header said.members) (length (packets said)) (epochs said) items items said.placement.sites bound
      view more (λ epoch within. refl)
      (λ epoch within. one_view (sketch_setting setting) (site_count said.topo.problem) said.placement.sites
      (packets said) epoch (view epoch) (more epoch) ((one epoch within).0 ∙ sym (also epoch within).0)
      (one epoch within).1 (also epoch within).1)
      ∙ (λ i. text_of (sym same i) (bounds i) more)

module _ (contents : Contents) (setting : Setting) where
  abbrev said_of : {solving : Solving} {c : CrewCall} → HasPlacement contents setting solving c → Said
  said_of placed = record {
    topo = placed.topo;
    header = placed.traced.header;
    members = placed.traced.members;
    placement = placed.placement;
    tree = placed.tree;
  }

  -- the replies of honest children are united
  are_united : (form : Form) {solving : Solving} {c : CrewCall} (has : HasReplies contents setting solving c)
      → IsHonest has.gathers.plan has.replay → AreUnited form setting (said_of has.placed) (view_at has.merged)
  are_united form has honest epoch within =
      let r = replays_of contents setting _ _ has.placed in
      let replies = epoch_replies r has.gathers.replies epoch in (
        ap (λ (v : View). v.setting) (has.gathers.views epoch within) ∙ setting_is r.setting (weights replies) replies,
        has.united honest epoch within,
      )

  module _ (topology trace : List ℕ) (topology_is : contents.topology ≡ Some topology)
      (trace_is : contents.trace ≡ Some trace)
    where
      -- of told contents and of one outcome one thing is said
      said_same : {solving more_solving : Solving} {c other : CrewCall} (p : HasPlacement contents setting solving c)
          (q : HasPlacement contents setting more_solving other) → p.placement ≡ q.placement → p.tree ≡ q.tree
          → said_of q ≡ said_of p
      said_same p q placements trees =
          let here = at_bytes (λ bytes. topology_of bytes ≡ Ok p.topo) topology_is p.spells in
          let there = at_bytes (λ bytes. topology_of bytes ≡ Ok q.topo) topology_is q.spells in
          let topos : q.topo ≡ p.topo = cc (here, there) in
          let traces = one_trace (at_bytes (λ bytes. IsTrace bytes q.traced.header q.traced.members) trace_is
          q.traced.is_trace) (at_bytes (λ bytes. IsTrace bytes p.traced.header p.traced.members) trace_is
          p.traced.is_trace) in
          λ i. record {
            topo = topos i;
            header = traces.0 i;
            members = traces.1 i;
            placement = sym placements i;
            tree = sym trees i;
          }

pub equal_texts : (form : Form) (contents : Contents) (setting : Setting) (topology trace : List ℕ)
    → contents.topology ≡ Some topology → contents.trace ≡ Some trace
    → (solving more_solving : Solving) (c other : CrewCall) (text more : List ℕ)
    → (m : IsMeasured contents setting solving c form text)
    → (n : IsMeasured contents setting more_solving other form more)
    → m.has.placed.placement ≡ n.has.placed.placement → m.has.placed.tree ≡ n.has.placed.tree
    → IsHonest m.has.gathers.plan m.has.replay → IsHonest n.has.gathers.plan n.has.replay → text ≡ more
equal_texts form contents setting topology trace topology_is trace_is solving more_solving c other text more m n
    placements trees honest also =
    let said = said_of contents setting m.has.placed in
    let there = said_of contents setting n.has.placed in
    m.lines
    ∙ one_text form setting said there m.bound n.bound (view_at m.has.merged) (view_at n.has.merged)
    (said_same contents setting topology trace topology_is trace_is m.has.placed n.has.placed placements trees)
    m.bound_is n.bound_is (are_united contents setting form m.has honest) (are_united contents setting form n.has also)
    ∙ sym n.lines
