-- Of what is told only one status is shown.
use Rattle.std.proofs.Common.{◌≡◌, ℕ, List, Ok, refl, ap}
use Rattle.bound_certificate.specs.Problem.{Problem}
use Rattle.certificate_text.specs.declared.fault.CertFault.{CertFault}
use Rattle.topology.specs.Topology.{Topo, topology_of}
use Rattle.topology.specs.declared.fault.TopologyFault.{TopologyFault}
use Rattle.mon_call.specs.Told.{HasBytes, IsTold, Shows}
use Rattle.mon_call.specs.declared.status.Status.{Status}
use Rattle.mon_call.specs.declared.status.Status.TheVariants.{Done, Topology, Certificate}
use Rattle.mon_call.proofs.Topologies.{bad_or_good, good_or_bad, one_topology_fault}
use Rattle.mon_check.specs.Checked.{HasCertFault, IsCertified}
use Rattle.mon_check.specs.Duty.{Contents, HasBoth, IsCertificate, IsNoCertificate, TellsCheck, check_duty}
use Rattle.mon_check.proofs.Certificates.{accepted_certificate, at_both, faulty_certificate, one_certificate_fault}

-- a topology that is told beside another input has no fault
good_topology : (contents : Contents) (topology tree : List ℕ) (P : Problem → List ℕ → Type 0)
    → HasBoth (contents topology) (contents tree) P
    → HasBytes (contents topology) (λ bytes. (topo : Topo) × (topology_of bytes ≡ Ok topo))
good_topology contents topology tree P told = (told.1.0, told.1.1, (told.0, told.1.2))

when_accepted : (contents : Contents) (topology tree : List ℕ) (status : Status)
    → TellsCheck contents topology tree Done
    → Shows (check_duty contents topology tree) status → status ≡ Done
when_accepted contents topology tree Done told shows = refl
when_accepted contents topology tree (Topology fault) told shows =
    absurd (good_or_bad (contents topology) fault (good_topology contents topology tree IsCertificate told) shows)
when_accepted contents topology tree (Certificate fault) told shows =
    absurd (accepted_certificate told.0.problem told.2.0 fault told.2.2
    (at_both IsCertificate (λ bytes problem. HasCertFault bytes problem fault) told shows.0 shows.1 shows.2))
when_accepted contents topology tree _ told shows = absurd shows

when_unfit : (contents : Contents) (topology tree : List ℕ) (fault : TopologyFault) (status : Status)
    → TellsCheck contents topology tree (Topology fault)
    → Shows (check_duty contents topology tree) status → status ≡ Topology fault
when_unfit contents topology tree fault Done told shows = absurd (bad_or_good (contents topology) fault shows.1.topo
    told shows.1.read)
when_unfit contents topology tree fault (Topology other) told shows = ap Topology
    (one_topology_fault (contents topology) fault other told shows)
when_unfit contents topology tree fault (Certificate other) told
    shows = absurd (bad_or_good (contents topology) fault shows.0 told shows.1)
when_unfit contents topology tree fault _ told shows = absurd shows

when_uncertified : (contents : Contents) (topology tree : List ℕ) (fault : CertFault) (status : Status)
    → TellsCheck contents topology tree (Certificate fault)
    → Shows (check_duty contents topology tree) status → status ≡ Certificate fault
when_uncertified contents topology tree fault Done told shows =
    absurd (faulty_certificate told.0.problem told.2.0 fault shows.0 told.2.2
    (at_both (IsNoCertificate fault) (λ bytes problem. IsCertified bytes problem shows.0) told shows.1.topo
    shows.1.read shows.1.certified))
when_uncertified contents topology tree fault (Topology other) told shows =
    absurd (good_or_bad (contents topology) other (good_topology contents topology tree (IsNoCertificate fault) told)
    shows)
when_uncertified contents topology tree fault (Certificate other) told shows =
    ap Certificate (one_certificate_fault told.0.problem told.2.0 fault other told.2.2
    (at_both (IsNoCertificate fault) (λ bytes problem. HasCertFault bytes problem other) told shows.0 shows.1
    shows.2))
when_uncertified contents topology tree fault _ told shows = absurd shows

pub check_told : (contents : Contents) (topology tree : List ℕ) (wanted : Status)
    → TellsCheck contents topology tree wanted
    → IsTold (check_duty contents topology tree) wanted
check_told contents topology tree Done told = record {
  alone = λ status shows. when_accepted contents topology tree
      status told shows;
}
check_told contents topology tree (Topology fault)
    told = record { alone = λ status shows. when_unfit contents topology tree fault status told shows }
check_told contents topology tree (Certificate fault)
    told = record { alone = λ status shows. when_uncertified contents topology tree fault status told shows }
check_told contents topology tree _ told = absurd told
