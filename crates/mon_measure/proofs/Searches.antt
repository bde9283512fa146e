-- What a search that was done or given up makes a measure answer.
use Rattle.std.proofs.Common.{◌≡◌, ℕ, ℤ, List, Option, Some, Result, IsTrue, refl, sym, ◌∙◌, ap, subst}
use Rattle.bound_certificate.specs.Placement.{fits}
use Rattle.bound_certificate.specs.Problem.{Problem, site_count}
use Rattle.bound_certificate.specs.declared.outcome.Outcome.{Outcome}
use Rattle.bound_certificate.specs.declared.outcome.Outcome.TheVariants as outcomes
use Rattle.bound_certificate.specs.declared.placement.Placement.{Placement}
use Rattle.bound_certificate.specs.declared.tree.Tree.{Tree}
use Rattle.bound_certificate.specs.declared.verdict.Verdict.{Verdict}
use Rattle.crew.specs.Crew.{CrewState}
use Rattle.mon_trace.proofs.Placed.{on_sites}
use Rattle.mon_call.specs.Trace.{ReadsTrace}
use Rattle.mon_call.specs.declared.status.Status.{Status}
use Rattle.mon_io.specs.Inputs.{InputState}
use Rattle.mon_trace.specs.Reading.{IsRead, IsRefused}
use Rattle.mon_trace.specs.declared.reading.RoutedTrace.{RoutedTrace}
use Rattle.path_shares.specs.Shares.{AreOn}
use Rattle.pcap_reader.specs.Trace.{Record}
use Rattle.pcap_reader.specs.declared.header.Header.{Header}
use Rattle.routed_trace.specs.Routed.{routed_of}
use Rattle.routed_trace.specs.declared.division.Division.{Division}
use Rattle.solve_phase.specs.Phase.{HasFound, verdict_on}
use Rattle.solve_phase.specs.declared.solving.Solving.{Solving}
use Rattle.topology.specs.Accepted.{IsAccepted}
use Rattle.topology.specs.Topology.{Topo}
use Rattle.measure_answers.proofs.Answered.{IsUnplacedOutcome}
use Rattle.measure_answers.specs.Replayed.{IsTraced}
use Rattle.mon_measure.proofs.Accepted.{equal_counts, is_within}

-- a trace that was read is one of some records
abbrev pub traced : {contents : Option (List ℕ)} {topology : Option Topo} {division : Division} {read : RoutedTrace}
    → IsRead contents topology division read → IsTraced contents division
traced is =
    record { header = is.header; members = is.members; is_trace = is.is_trace; divided = is.counts_are.divided }

-- an outcome that is no placement
pub no_placement : (outcome : Outcome)
    → ((placement : Placement) → (tree : Tree) → outcome ≡ outcomes.Placed placement tree → ⊥)
    → IsUnplacedOutcome outcome
no_placement (outcomes.Placed placement tree) not = not placement tree refl
no_placement (outcomes.Infeasible tree) not = tt
no_placement (outcomes.Spent tree) not = tt

-- a placement that was found gives each packet to a switch
pub on_switches : (division : Division) (topo : Topo) (header : Header) (members : List Record) (placement : List ℕ)
    → IsAccepted topo → IsTrue (fits topo.problem placement)
    → AreOn (site_count topo.problem) placement (routed_of division (Some topo) header members)
on_switches division topo header members placement accepted fit =
    on_sites division topo header members placement (equal_counts topo accepted) (is_within topo accepted) fit

-- what was found, of a problem that is the topology's, with an outcome that is a placement
pub found_placed : {problem own : Problem} {solving : Solving} {before mid : CrewState} {outcome : Outcome}
    (placement : Placement) (tree : Tree) → problem ≡ own → outcome ≡ outcomes.Placed placement tree
    → HasFound problem solving before mid outcome
    → HasFound own solving before mid (outcomes.Placed placement tree)
found_placed {own = own} {solving} {before} {mid} {outcome} placement tree same is found =
    subst (λ (o : Outcome). HasFound own solving before mid o) is
    (subst (λ (p : Problem). HasFound p solving before mid outcome) same found)

-- the bound of its tree
pub bound_placed : {problem own : Problem} {outcome : Outcome} {verdict : Verdict} {bound : ℤ}
    (placement : Placement) (tree : Tree) → problem ≡ own → outcome ≡ outcomes.Placed placement tree
    → verdict ≡ verdict_on problem outcome → verdict.bound ≡ Some bound
    → (verdict_on own (outcomes.Placed placement tree)).bound ≡ Some bound
bound_placed {own = own} {outcome} placement tree same is said least =
    sym (ap (λ (v : Verdict). v.bound) (said ∙ ap (λ (p : Problem). verdict_on p outcome) same
    ∙ ap (λ (o : Outcome). verdict_on own o) is)) ∙ least

-- a trace behind an input whose contents by name stayed
pub reads_for : (contents other : Option (List ℕ)) (topology : Option Topo) (division : Division)
    (mid now : InputState) (result : Result RoutedTrace Status) → other ≡ contents
    → ReadsTrace (IsRead other topology division) (IsRefused other division) other mid now result
    → ReadsTrace (IsRead contents topology division) (IsRefused contents division) contents mid now result
reads_for contents other topology division mid now result same reads =
    subst (λ (k : Option (List ℕ)). ReadsTrace (IsRead k topology division) (IsRefused k division) k mid now result) same
    reads

pub read_for : (contents other : Option (List ℕ)) (topo own : Topo) (division : Division) (read : RoutedTrace)
    → other ≡ contents → topo ≡ own → IsRead other (Some topo) division read → IsRead contents (Some own) division read
read_for contents other topo own division read same is reads =
    subst (λ (t : Topo). IsRead contents (Some t) division read) is
    (subst (λ (k : Option (List ℕ)). IsRead k (Some topo) division read) same reads)
