-- Of told contents only one thing is said: what a certificate proves, or its first fault.
use Rattle.std.proofs.Common.{◌≡◌, ℕ, List, [], Option, Some, None, Ok, Err, sym, ◌∙◌, ap, subst}
use Rattle.bound_certificate.specs.Problem.{Problem}
use Rattle.bound_certificate.specs.Tree.{first_fault, visits}
use Rattle.certificate_text.specs.declared.fault.CertFault.{CertFault}
use Rattle.certificate_text.specs.declared.fault.CertFault.TheVariants.{TooLong, NoTree, Line, Node, Memory}
use Rattle.bound_certificate.specs.declared.tree.Tree.{Tree}
use Rattle.bound_certificate.specs.declared.verdict.TreeFault.{TreeFault}
use Rattle.bound_certificate.specs.declared.verdict.TreeWhy.{TreeWhy}
use Rattle.topology.specs.Topology.{Topo, topology_of}
use Rattle.mon_call.proofs.Topologies.{at_bytes}
use Rattle.mon_check.specs.Checked.{HasCertFault, HasWrongNode, IsCertified, ReadsOnly}
use Rattle.mon_call.specs.Topology.{SpellTopology}
use Rattle.mon_check.specs.Duty.{HasBoth, IsCertificate, IsNoCertificate}

-- a fact on contents and on the problem of the topology, at those that are told
pub at_both : {topology contents : Option (List ℕ)} (P : Problem → List ℕ → Type 0)
    (Q : Option (List ℕ) → Problem → Type 0) (told : HasBoth topology contents P) (topo : Topo)
    → SpellTopology topology topo → Q contents topo.problem → Q (Some told.2.0) told.0.problem
at_both {contents = contents} P Q told topo spelled holds =
    let own = at_bytes (λ bytes. topology_of bytes ≡ Ok topo) told.1.1 spelled in
    let read = told.1.2 in
    let same : topo ≡ told.0 = cc in
    subst (λ (now : Option (List ℕ)). Q now told.0.problem) told.2.1
    (subst (λ (t : Topo). Q contents t.problem) same holds)

-- the fault at the first wrong node of a tree, where it is told that there is none, or another one
fault_at : (problem : Problem) (a b : Tree) (one other : Option TreeFault) → a ≡ b
    → first_fault problem 0 (visits problem a []) ≡ one → first_fault problem 0 (visits problem b []) ≡ other
    → one ≡ other
fault_at problem a b one other same first second =
    sym first ∙ (ap (λ (tree : Tree). first_fault problem 0 (visits problem tree [])) same ∙ second)

-- bytes that spell a certificate have no fault
pub accepted_certificate : (problem : Problem) (bytes : List ℕ) (fault : CertFault) → IsCertificate problem bytes
    → HasCertFault (Some bytes) problem fault → ⊥
accepted_certificate problem bytes TooLong is has = let same = has.alone (Ok is.0) is.1 in cc
accepted_certificate problem bytes NoTree is has = let same = has.alone (Ok is.0) is.1 in cc
accepted_certificate problem bytes (Line number) is has = let same = has.alone (Ok is.0) is.1 in cc
accepted_certificate problem bytes (Node node why) is has =
    let same = has.spelled.alone (Ok is.0) is.1 in
    let both = fault_at problem is.0 has.certificate None (Some (record { node = node; why = why })) (cc) is.2
    has.wrong in
    cc
accepted_certificate problem bytes Memory is has = has

-- and bytes with a fault are none
pub faulty_certificate : (problem : Problem) (bytes : List ℕ) (fault : CertFault) (text : List ℕ)
    → IsNoCertificate fault problem bytes → IsCertified (Some bytes) problem text → ⊥
faulty_certificate problem bytes TooLong text has is = let same = is.spelled.alone (Err TooLong) has in cc
faulty_certificate problem bytes NoTree text has is = let same = is.spelled.alone (Err NoTree) has in cc
faulty_certificate problem bytes (Line number) text has is = let same = is.spelled.alone (Err (Line number)) has in cc
faulty_certificate problem bytes (Node node why) text has is =
    let same = is.spelled.alone (Ok has.0) has.1 in
    let both = fault_at problem has.0 is.certificate (Some (record { node = node; why = why })) None (cc) has.2
    is.faultless in
    cc
faulty_certificate problem bytes Memory text has is = has

-- the only reading of bytes with a fault is this fault
only_fault : (problem : Problem) (bytes : List ℕ) (fault other : CertFault) → IsNoCertificate fault problem bytes
    → ReadsOnly bytes (Err other) → other ≡ fault
only_fault problem bytes TooLong other has only = let same = only.alone (Err TooLong) has in cc
only_fault problem bytes NoTree other has only = let same = only.alone (Err NoTree) has in cc
only_fault problem bytes (Line number) other has only = let same = only.alone (Err (Line number)) has in cc
only_fault problem bytes (Node node why) other has only = let same = only.alone (Ok has.0) has.1 in cc
only_fault problem bytes Memory other has only = absurd has

only_node : (problem : Problem) (bytes : List ℕ) (fault : CertFault) (node : ℕ) (why : TreeWhy)
    → IsNoCertificate fault problem bytes → HasWrongNode (Some bytes) problem node why → Node node why ≡ fault
only_node problem bytes TooLong node why has wrong = let same = wrong.spelled.alone (Err TooLong) has in cc
only_node problem bytes NoTree node why has wrong = let same = wrong.spelled.alone (Err NoTree) has in cc
only_node problem bytes (Line number) node why has wrong = let same = wrong.spelled.alone (Err (Line number)) has in cc
only_node problem bytes (Node n w) node why has wrong =
    let same = wrong.spelled.alone (Ok has.0) has.1 in
    let both = fault_at problem has.0 wrong.certificate (Some (record { node = n; why = w }))
    (Some (record { node = node; why = why })) (cc) has.2 wrong.wrong in
    let faults : record { node = n; why = w } ≡ record { node = node; why = why } = cc in
    sym (ap (λ (f : TreeFault). Node f.node f.why) faults)
only_node problem bytes Memory node why has wrong = absurd has

pub one_certificate_fault : (problem : Problem) (bytes : List ℕ) (fault other : CertFault)
    → IsNoCertificate fault problem bytes → HasCertFault (Some bytes) problem other → other ≡ fault
one_certificate_fault problem bytes fault TooLong has is = only_fault problem bytes fault TooLong has is
one_certificate_fault problem bytes fault NoTree has is = only_fault problem bytes fault NoTree has is
one_certificate_fault problem bytes fault (Line number) has is = only_fault problem bytes fault (Line number) has is
one_certificate_fault problem bytes fault (Node node why) has is = only_node problem bytes fault node why has is
one_certificate_fault problem bytes fault Memory has is = absurd is
