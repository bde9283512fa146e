-- What `check` owes.
use Rattle.std.specs.Prelude.{◌≡◌, ⊤, ℕ, List, [], ◌∷◌, Option, Some, None, IsTrue, Result, Ok, Err}
use Rattle.mon_io.specs.Faults.{Rose}
use Rattle.mon_io.specs.Inputs.{InputState, IsLeft}
use Rattle.bound_certificate.specs.Formed.{is_formed}
use Rattle.bound_certificate.specs.Problem.{Problem}
use Rattle.bound_certificate.specs.Tree.{first_fault, visits}
use Rattle.bound_certificate.specs.declared.tree.Tree.{Tree}
use Rattle.certificate_text.specs.ReadText.{ReadsText}
use Rattle.certificate_text.specs.declared.fault.CertFault.{CertFault}
use Rattle.certificate_text.specs.declared.fault.CertFault.TheVariants as cert
use Rattle.topology.specs.Topology.{Topo, topology_of}
use Rattle.mon_call.specs.Call.{Duty, IsSuffix, Reading, reading}
use Rattle.mon_call.specs.Told.{HasBytes}
use Rattle.mon_call.specs.Topology.{IsUnfit, SpellTopology}
use Rattle.mon_call.specs.declared.status.Input.{Input}
use Rattle.mon_call.specs.declared.status.Input.TheVariants as inputs
use Rattle.mon_call.specs.declared.status.Status.{Status}
use Rattle.mon_call.specs.declared.status.Status.TheVariants.{Done, ReadFault, Topology, Certificate, Memory}
use Rattle.mon_check.specs.Checked.{AreRead, HasCertFault, IsCertified, IsChecked, IsMisspelled}

-- the contents by name
abbrev pub Contents : Type 0
Contents = List ℕ → Option (List ℕ)

-- what is read: the tree, behind the topology
abbrev pub tree_reads : List ℕ → List Reading
tree_reads tree = reading inputs.Tree tree ∷ []

abbrev pub check_reads : List ℕ → List ℕ → List Reading
check_reads topology tree = reading inputs.Topology topology ∷ tree_reads tree

-- what is left of the tree
abbrev pub tree_left : Contents → List ℕ → Input → Option (List ℕ) → Option (List ℕ) → Type 0
tree_left contents tree inputs.Topology before now = ⊥
tree_left contents tree inputs.Trace before now = ⊥
tree_left contents tree inputs.Tree before now = IsLeft (contents tree) before now
tree_left contents tree inputs.Job before now = ⊥

-- what is left of an input: the topology was read to its end and has no fault before the tree
abbrev pub check_left : Contents → List ℕ → List ℕ → Input → Option (List ℕ) → Option (List ℕ) → Type 0
check_left contents topology tree inputs.Topology before now = IsLeft (contents topology) before now
check_left contents topology tree inputs.Trace before now = ⊥
check_left contents topology tree inputs.Tree before now =
    ((topo : Topo) × SpellTopology (contents topology) topo) × IsSuffix (contents tree) now
check_left contents topology tree inputs.Job before now = ⊥

-- what the check of a certificate owes, for a problem
abbrev pub certify_duty : Contents → List ℕ → Problem → Duty
certify_duty contents tree problem = record {
  reads = tree_reads tree;
  due = IsCertified (contents tree) problem;
  unfit = λ fault. ⊥;
  refused = λ fault. ⊥;
  uncertified = HasCertFault (contents tree) problem;
  misspelled = λ fault. ⊥;
  left = tree_left contents tree;
}

-- what the command owes
abbrev pub check_duty : Contents → List ℕ → List ℕ → Duty
check_duty contents topology tree = record {
  reads = check_reads topology tree;
  due = IsChecked contents topology tree;
  unfit = IsUnfit (contents topology);
  refused = λ fault. ⊥;
  uncertified = λ fault. (topo : Topo) × SpellTopology (contents topology) topo
      × HasCertFault (contents tree) topo.problem fault;
  misspelled = λ fault. ⊥;
  left = check_left contents topology tree;
}

-- How reading a certificate ended: with that of the contents, or with the status of the call.
abbrev pub ReadsCertificate : Option (List ℕ) → InputState → InputState → Result Tree Status → Type 0
ReadsCertificate contents before now (Ok certificate) = IsTrue (is_formed certificate)
    × AreRead contents (Ok certificate)
ReadsCertificate contents before now (Err (ReadFault inputs.Tree)) =
    Rose before.faults now.faults × IsLeft contents before.rest now.rest
ReadsCertificate contents before now (Err (Certificate fault)) = IsMisspelled contents fault
ReadsCertificate contents before now (Err Memory) = ⊤
ReadsCertificate contents before now (Err _) = ⊥

-- the topology is told and has no fault, and so are bytes of another input told of which this holds
abbrev pub HasBoth : Option (List ℕ) → Option (List ℕ) → (Problem → List ℕ → Type 0) → Type 0
HasBoth topology contents P =
    (topo : Topo) × HasBytes topology (λ bytes. topology_of bytes ≡ Ok topo) × HasBytes contents (P topo.problem)

-- bytes that spell a certificate without a wrong node
abbrev pub IsCertificate : Problem → List ℕ → Type 0
IsCertificate problem bytes =
    (certificate : Tree) × ReadsText bytes (Ok certificate)
    × (first_fault problem 0 (visits problem certificate []) ≡ None)

-- bytes that spell no certificate, or one of which this node is the first wrong one
abbrev pub IsNoCertificate : CertFault → Problem → List ℕ → Type 0
IsNoCertificate cert.TooLong problem bytes = ReadsText bytes (Err cert.TooLong)
IsNoCertificate cert.NoTree problem bytes = ReadsText bytes (Err cert.NoTree)
IsNoCertificate (cert.Line number) problem bytes = ReadsText bytes (Err (cert.Line number))
IsNoCertificate (cert.Node node why) problem bytes =
    (tree : Tree) × ReadsText bytes (Ok tree) × (first_fault problem 0 (visits problem tree []) ≡ Some
    (record { node = node; why = why }))
IsNoCertificate cert.Memory problem bytes = ⊥

-- what is read is told, and so is this status: that it has no fault, or its first one
abbrev pub TellsCheck : Contents → List ℕ → List ℕ → Status → Type 0
TellsCheck contents topology tree Done = HasBoth (contents topology) (contents tree) IsCertificate
TellsCheck contents topology tree (Topology fault) = HasBytes (contents topology)
    (λ bytes. topology_of bytes ≡ Err fault)
TellsCheck contents topology tree (Certificate fault) = HasBoth (contents topology) (contents tree)
    (IsNoCertificate fault)
TellsCheck contents topology tree _ = ⊥
