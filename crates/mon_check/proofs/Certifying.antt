-- How a certificate is read, and the answers behind a topology.
use Rattle.std.proofs.Common.{◌≡◌, ◌<◌, ◌+◌, ◌⊎◌, ℕ, List, [], ◌∷◌, ◌++◌, length, Option, Some, None, Result, Ok, Err, IfSome, refl, sym, subst, arith, inl, inr, length-append}
use Rattle.mon_io.specs.Inputs.{InputState, IsOver, Picked, Took}
use Rattle.bound_certificate.specs.Problem.{Problem}
use Rattle.bound_certificate.specs.declared.tree.Tree.{Tree}
use Rattle.certificate_text.specs.ReadText.{ReadsText, text_limit}
use Rattle.certificate_text.specs.declared.fault.CertFault.{CertFault}
use Rattle.certificate_text.specs.declared.fault.CertFault.TheVariants as cert
use Rattle.topology.specs.Topology.{Topo}
use Rattle.mon_call.specs.Call.{Answers, Call, IsSilent, IsSuffix, Picks}
use Rattle.mon_call.specs.Topology.{SpellTopology}
use Rattle.mon_call.specs.declared.status.Input.{Input}
use Rattle.mon_call.specs.declared.status.Input.TheVariants as inputs
use Rattle.mon_call.specs.declared.status.Status.{Status}
use Rattle.mon_call.specs.declared.status.Status.TheVariants.{ReadFault, Certificate, Memory}
use Rattle.mon_call.proofs.Behind.{IsBehind, suffix_left}
use Rattle.mon_check.specs.Checked.{AreRead, HasCertFault, IsCertified, IsMisspelled, ReadsOnly}
use Rattle.mon_check.specs.Duty.{Contents, ReadsCertificate, certify_duty, check_duty, check_left, tree_left, tree_reads}

-- more bytes than a text can have are read in one way
long_only : (bytes : List ℕ) → text_limit < length bytes → ReadsOnly bytes (Err cert.TooLong)
long_only bytes long = record { reads = long; alone = alone }
  where
    alone : (other : Result Tree CertFault) → ReadsText bytes other → other ≡ Err cert.TooLong
    alone (Ok tree) reads = absurd (let few = reads.0 in omega arith)
    alone (Err cert.TooLong) reads = refl
    alone (Err cert.NoTree) reads = absurd (let few = reads.0 in omega arith)
    alone (Err (cert.Line number)) reads = absurd (let few = reads.0 in omega arith)
    alone (Err (cert.Node node why)) reads = absurd reads
    alone (Err cert.Memory) reads = absurd reads

-- more bytes than a file of a certificate can have
pub long_certificate : (contents now : Option (List ℕ)) (front : List ℕ) → length front ≡ text_limit + 1
    → Took contents now front → AreRead contents (Err cert.TooLong)
long_certificate contents None front size took = subst (λ (told : Option (List ℕ)). AreRead told (Err cert.TooLong))
    (sym took.taken) tt
long_certificate contents (Some rest) front size took =
    subst (λ (told : Option (List ℕ)). AreRead told (Err cert.TooLong)) (sym took.taken)
    (long_only (front ++ rest) (omega (arith, size, length-append front rest)))

-- what the reading of a text gave is its one reading, unless memory ran out
pub one_reading : (bytes : List ℕ) (result : Result Tree CertFault) → (result ≡ Err cert.Memory → ⊥)
    → (result ≡ Err cert.Memory) ⊎ ReadsText bytes result
    → ((other : Result Tree CertFault) → ReadsText bytes other → (result ≡ Err cert.Memory) ⊎ (result ≡ other))
    → ReadsOnly bytes result
one_reading bytes result kept (inl memory) alone = absurd (kept memory)
one_reading bytes result kept (inr reads) alone = record {
  reads = reads;
  alone = λ other is. elim (alone other is) [
    | inl memory ↦ absurd (kept memory)
    | inr same ↦ sym same
  ];
}

-- the same of contents that are told
pub are_read : (contents : Option (List ℕ)) (bytes : List ℕ) (result : Result Tree CertFault)
    → IfSome contents (λ told. bytes ≡ told) → ReadsOnly bytes result → AreRead contents result
are_read None bytes result are only = tt
are_read (Some told) bytes result are only = subst (λ (b : List ℕ). ReadsOnly b result) are only

pub are_misspelled : (contents : Option (List ℕ)) (bytes : List ℕ) (fault : CertFault)
    → IfSome contents (λ told. bytes ≡ told) → ReadsOnly bytes (Err fault) → IsMisspelled contents fault
are_misspelled contents bytes cert.TooLong are only = are_read contents bytes (Err cert.TooLong) are only
are_misspelled contents bytes cert.NoTree are only = are_read contents bytes (Err cert.NoTree) are only
are_misspelled contents bytes (cert.Line number) are only = are_read contents bytes (Err (cert.Line number)) are only
are_misspelled contents bytes (cert.Node node why) are only = absurd only.reads
are_misspelled contents bytes cert.Memory are only = absurd only.reads

-- what the command owes behind a topology that was read
pub behind : (contents mid_contents : Contents) (topology tree : List ℕ) (topo : Topo) (before mid : InputState)
    → mid_contents ≡ contents → SpellTopology (contents topology) topo → IsOver mid.rest
    → IsBehind (certify_duty mid_contents tree topo.problem) (check_duty contents topology tree) before.rest mid.rest
behind contents mid_contents topology tree topo before mid same spelled over = record {
  due = λ text is. record {
    topo = topo;
    read = spelled;
    certified = subst (λ (f : Contents). IsCertified (f tree) topo.problem text) same is;
  };
  unfit = λ fault unfit. unfit;
  refused = λ fault refused. refused;
  uncertified = λ fault has. (
    topo,
    spelled,
    subst (λ (f : Contents). HasCertFault (f tree) topo.problem fault) same
        has,
  );
  misspelled = λ fault has. absurd has;
  left = left;
  once = λ now left. left;
}
  where
    left : (input : Input) (now : Option (List ℕ)) → tree_left mid_contents tree input mid.rest now
        → check_left contents topology tree input before.rest now
    left inputs.Topology now is = absurd is
    left inputs.Trace now is = absurd is
    left inputs.Tree now is = (
      (topo, spelled),
      subst (λ (f : Contents). IsSuffix (f tree) now) same (suffix_left (mid_contents tree) mid.rest now over is),
    )
    left inputs.Job now is = absurd is

-- a certificate that is not read or is misspelled
pub uncertified : (contents : Contents) (tree : List ℕ) (problem : Problem) (call : Call) (status : Status)
    → IsSilent call
    → (call.inputs.contents ≡ contents) → ReadsCertificate (contents tree) call.inputs call.inputs_after (Err status)
    → Answers (certify_duty contents tree problem) call status
uncertified contents tree problem call (ReadFault inputs.Tree) silent same reads = (reads.0, reads.1, silent)
uncertified contents tree problem call (Certificate fault) silent same reads = (has_fault fault reads, silent)
  where
    has_fault : (f : CertFault) → IsMisspelled (contents tree) f → HasCertFault (contents tree) problem f
    has_fault cert.TooLong is = is
    has_fault cert.NoTree is = is
    has_fault (cert.Line number) is = is
    has_fault (cert.Node node why) is = absurd is
    has_fault cert.Memory is = absurd is
uncertified contents tree problem call Memory silent same reads = silent
uncertified contents tree problem call _ silent same reads = absurd reads

pub picks_uncertified : (before after : List (List ℕ) → Type 0) (contents : Option (List ℕ)) (name : List ℕ)
    (call : Call) (status : Status)
    → ReadsCertificate contents call.inputs call.inputs_after (Err status) → Picked before after (name ∷ [])
    → Picks before after (tree_reads name) status
picks_uncertified before after contents name call (ReadFault inputs.Tree) reads picked = picked
picks_uncertified before after contents name call (Certificate fault) reads picked = picked
picks_uncertified before after contents name call Memory reads picked =
    record { front = name ∷ []; back = []; parts = refl; picked = picked }
picks_uncertified before after contents name call _ reads picked = absurd reads
