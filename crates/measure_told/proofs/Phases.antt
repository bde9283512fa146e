-- What the replays of a told log are: those behind the search that found their placement.
use Rattle.std.proofs.Common.{◌≡◌, ◌≢◌, ℕ, ◌<◌, ◌≤◌, List, [], ◌++◌, Some, sym, ◌∙◌, ap, subst}
use Rattle.std.proofs.lemmas.List.{append_cancel_right}
use Rattle.std.proofs.lemmas.Option.{same_Some}
use Rattle.bound_certificate.specs.declared.outcome.Outcome.{Outcome}
use Rattle.bound_certificate.specs.declared.outcome.Outcome.TheVariants as outcomes
use Rattle.bound_certificate.specs.declared.placement.Placement.{Placement}
use Rattle.bound_certificate.specs.declared.tree.Tree.{Tree}
use Rattle.crew.specs.Log.{Entry}
use Rattle.measure_answers.specs.Replayed.{Contents}
use Rattle.measure_answers.specs.Text.{replaying_of}
use Rattle.mon_call.specs.CrewCall.{CrewCall}
use Rattle.mon_call.specs.declared.setting.Setting.{Setting}
use Rattle.pcap_reader.specs.Trace.{Record}
use Rattle.pcap_reader.specs.declared.header.Header.{Header}
use Rattle.replay_core.specs.Book.{total}
use Rattle.replay_core.specs.declared.bad.Bad.{Bad}
use Rattle.replay_supervisor.specs.Jobs.{Work}
use Rattle.replay_supervisor.specs.Outcome.{IsSpent, IsStale}
use Rattle.replay_supervisor.specs.Reading.{accepted, bad_in, read, stale_in}
use Rattle.replay_supervisor.specs.Steps.{Plan}
use Rattle.solve_jobs.specs.Replies.{IsReplyWith}
use Rattle.solve_phase.specs.Told.{IsOverspent, IsWithinLimits}
use Rattle.solve_phase.specs.declared.solving.Solving.{Solving}
use Rattle.topology.specs.Topology.{Topo}
use Rattle.measure_told.proofs.Answered.{EndsUnplaced, HasGathered, HasGivenUp, HasPlaced, replays_behind}
use Rattle.measure_told.proofs.OneReply.{one_outcome}
use Rattle.measure_told.proofs.Replayed.{gathered_within, its_work, spent_is_over, stale_is_full}
use Rattle.measure_told.proofs.Searched.{HasEnded, accepts_there, cut_there, divided, own_work}
use Rattle.measure_told.specs.Told.{InReplaying, ReadsReplays}

infeasible_places : (placement : Placement) (tree other : Tree) → outcomes.Infeasible other ≡ outcomes.Placed placement tree
    → ⊥
infeasible_places placement tree other e = cc

spent_places : (placement : Placement) (tree other : Tree) → outcomes.Spent other ≡ outcomes.Placed placement tree → ⊥
spent_places placement tree other e = cc

one_placement : (placement other : Placement) (tree also : Tree)
    → outcomes.Placed placement tree ≡ outcomes.Placed other also → placement ≡ other
one_placement placement other tree also e = cc

module _ (contents : Contents) (setting : Setting) (solving : Solving) (c : CrewCall) (topo : Topo) (header : Header)
    (members : List Record) (part : List Entry) (work : Work) (entries : List Entry)
    (inside : InReplaying setting solving topo header members part work entries)
  where
    -- a search that ended is the one that is told, and has its outcome
    pub told_search : (solve replay : List Entry) (outcome : Outcome)
        → HasEnded topo.problem solving c.crew.issued part solve replay outcome
        → (entries ≡ replay) × (outcome ≡ outcomes.Placed inside.placement inside.tree)
    told_search solve replay outcome ended =
        let same : inside.solve ≡ solve = cut_there topo.problem solving c.crew.issued part solve replay outcome ended
        inside.search inside.solve entries inside.searches inside.divides in
        let fronts : entries ++ solve ≡ replay ++ solve =
        ap (λ (log : List Entry). entries ++ log) (sym same) ∙ sym inside.divides.whole ∙ ended.whole in
        let there : Some inside.bytes ≡ Some ended.finds.bytes =
        sym inside.accepts ∙ ap (λ (log : List Entry). accepted (read inside.search log) 0) same
        ∙ accepts_there topo.problem solving c.crew.issued part solve replay outcome ended inside.search
        inside.searches in
        let bytes : inside.bytes ≡ ended.finds.bytes = same_Some inside.bytes ended.finds.bytes there in (
          append_cancel_right entries replay solve fronts,
          one_outcome topo.problem solving.nodes ended.finds.bytes outcome
              (outcomes.Placed inside.placement inside.tree) ended.finds.reply
              (subst
              (λ (bs : List ℕ). IsReplyWith topo.problem solving.nodes
              (outcomes.Placed inside.placement inside.tree) bs) bytes inside.reply),
        )

    pub not_infeasible : EndsUnplaced contents setting solving c topo header members part outcomes.Infeasible → ⊥
    not_infeasible ends =
        infeasible_places inside.placement inside.tree ends.0
        (told_search part [] (outcomes.Infeasible ends.0) ends.1).1

    pub not_spent : EndsUnplaced contents setting solving c topo header members part outcomes.Spent → ⊥
    not_spent ends =
        spent_places inside.placement inside.tree ends.0 (told_search part [] (outcomes.Spent ends.0) ends.1).1

    module _ (placed : HasPlaced contents setting solving c topo header members part) where
      pub search_is : (entries ≡ placed.replay)
          × (outcomes.Placed placed.placement placed.tree ≡ outcomes.Placed inside.placement inside.tree)
      search_is = told_search placed.solve placed.replay (outcomes.Placed placed.placement placed.tree) placed.ended

      -- so the replays behind it are the told ones
      pub reads_there : ReadsReplays (replays_behind contents setting solving c topo header members part placed) work
      reads_there =
          let same = one_placement placed.placement inside.placement placed.tree inside.tree search_is.1 in
          subst (λ (p : Placement). ReadsReplays (replaying_of setting solving topo header members p.sites) work)
          (sym same) inside.reads

    pub gathered_entries : HasGathered contents setting solving c topo header members part
        → IsWithinLimits solving.restarts work entries
    gathered_entries has =
        subst (λ (log : List Entry). IsWithinLimits solving.restarts work log) (sym (search_is has.placed).0)
        (gathered_within (replays_behind contents setting solving c topo header members part has.placed)
        has.placed.first has.placed.replay has.merged work has.gathers (reads_there has.placed))

    pub spent_entries : (job : ℕ) (bad : Bad)
        → HasGivenUp contents setting solving c topo header members part
        (λ plan log. IsSpent plan c.crew c.crew_after log job bad)
        → IsOverspent solving.restarts work entries job bad
        × ((other : ℕ) → other < work.count → other ≢ job → total (bad_in work entries other) ≤ solving.restarts)
        × (stale_in work entries < 4096)
    spent_entries job bad has =
        subst
        (λ (log : List Entry). IsOverspent solving.restarts work log job bad
        × ((other : ℕ) → other < work.count → other ≢ job → total (bad_in work log other) ≤ solving.restarts)
        × (stale_in work log < 4096)) (sym (search_is has.placed).0)
        (spent_is_over (replays_behind contents setting solving c topo header members part has.placed)
        has.placed.first c.crew c.crew_after job bad has.placed.replay work has.gives_up (reads_there has.placed))

    pub stale_entries : HasGivenUp contents setting solving c topo header members part IsStale
        → (stale_in work entries ≡ 4096)
        × ((job : ℕ) → job < work.count → total (bad_in work entries job) ≤ solving.restarts)
    stale_entries has =
        subst
        (λ (log : List Entry). (stale_in work log ≡ 4096)
        × ((job : ℕ) → job < work.count → total (bad_in work log job) ≤ solving.restarts))
        (sym (search_is has.placed).0)
        (stale_is_full (replays_behind contents setting solving c topo header members part has.placed)
        has.placed.first has.placed.replay work has.gives_up (reads_there has.placed))

module _ (contents : Contents) (setting : Setting) (solving : Solving) (c : CrewCall) (topo : Topo) (header : Header)
    (members : List Record) (part : List Entry) (P : Plan → List Entry → Type 0)
    (has : HasGivenUp contents setting solving c topo header members part P)
  where
    -- replays that were given up are told by their own work
    pub given_up_replays : InReplaying setting solving topo header members part has.gives_up.plan.work has.placed.replay
    given_up_replays =
        let placed = has.placed in
        let outcome = outcomes.Placed placed.placement placed.tree in record {
          search = placed.ended.finds.plan.work;
          searches = own_work topo.problem solving c.crew.issued part placed.solve placed.replay outcome placed.ended;
          solve = placed.solve;
          divides = divided topo.problem solving c.crew.issued part placed.solve placed.replay outcome placed.ended;
          placement = placed.placement;
          tree = placed.tree;
          bytes = placed.ended.finds.bytes;
          accepts = placed.ended.finds.accepts;
          reply = placed.ended.finds.reply;
          reads = its_work (replays_behind contents setting solving c topo header members part placed) placed.first
              has.gives_up.plan has.gives_up.replays;
        }
