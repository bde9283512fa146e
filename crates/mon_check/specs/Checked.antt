-- The text of `check`.
use Rattle.std.specs.Prelude.{◌≡◌, ℕ, Bool, List, [], ◌++◌, ℤ, Option, Some, None, IfSome, IsTrue, Result, Ok, Err, codes, decimal, if◌then◌else◌}
use Rattle.std.specs.Fmt.{signed_decimal}
use Rattle.bound_certificate.specs.Bound.{IsBelow}
use Rattle.bound_certificate.specs.Formed.{is_formed}
use Rattle.bound_certificate.specs.Placement.{cost, fits}
use Rattle.bound_certificate.specs.Problem.{Problem}
use Rattle.certificate_text.specs.ReadText.{ReadsText}
use Rattle.bound_certificate.specs.Tree.{first_fault, verdict_of, visits}
use Rattle.certificate_text.specs.declared.fault.CertFault.{CertFault}
use Rattle.certificate_text.specs.declared.fault.CertFault.TheVariants.{TooLong, NoTree, Line, Node, Memory}
use Rattle.bound_certificate.specs.declared.tree.Tree.{Tree}
use Rattle.bound_certificate.specs.declared.verdict.TreeWhy.{TreeWhy}
use Rattle.bound_certificate.specs.declared.verdict.Verdict.{Verdict}
use Rattle.topology.specs.Topology.{Topo}
use Rattle.mon_call.specs.Topology.{SpellTopology}

-- a bound, where there is one
abbrev pub bound_text : Option ℤ → List ℕ
bound_text None = codes "none"
bound_text (Some bound) = signed_decimal bound

abbrev pub full_word : Bool → List ℕ
full_word full = if full then codes "yes" else codes "no"

-- the lines of a verdict
unfoldable pub verdict_text : Verdict → List ℕ
verdict_text verdict =
    codes "univmon check 1\nbound " ++ (bound_text verdict.bound ++ (codes "\nbranches " ++ (decimal verdict.branches
    ++ (codes "\nfull " ++ (full_word verdict.full ++ codes "\nend\n")))))

-- bytes are read so and no other way
pub record ReadsOnly (bytes : List ℕ) (result : Result Tree CertFault) : Type 0 where
  pub reads : ReadsText bytes result
  pub alone : (other : Result Tree CertFault) → ReadsText bytes other → other ≡ result

-- contents that are told are read so and no other way
abbrev pub AreRead : Option (List ℕ) → Result Tree CertFault → Type 0
AreRead contents result = IfSome contents (λ bytes. ReadsOnly bytes result)

-- the text for contents that spell a certificate without a wrong node; its bound is below every placement's cost
pub record IsCertified (contents : Option (List ℕ)) (problem : Problem) (text : List ℕ) : Type 0 where
  pub certificate : Tree
  pub verdict : Verdict
  pub spelled : AreRead contents (Ok certificate)
  pub formed : IsTrue (is_formed certificate)
  pub faultless : first_fault problem 0 (visits problem certificate []) ≡ None
  pub verdict_is : verdict ≡ verdict_of problem (visits problem certificate [])
  pub below : (placement : List ℕ) → IsTrue (fits problem placement) → IsBelow verdict.bound (cost problem placement)
  pub lines : text ≡ verdict_text verdict

-- the text for a topology and a certificate
pub record IsChecked (contents : List ℕ → Option (List ℕ)) (topology tree text : List ℕ) : Type 0 where
  pub topo : Topo
  pub read : SpellTopology (contents topology) topo
  pub certified : IsCertified (contents tree) topo.problem text

-- contents that spell a certificate of which this node is the first wrong one
pub record HasWrongNode (contents : Option (List ℕ)) (problem : Problem) (node : ℕ) (why : TreeWhy) : Type 0 where
  pub certificate : Tree
  pub spelled : AreRead contents (Ok certificate)
  pub formed : IsTrue (is_formed certificate)
  pub wrong : first_fault problem 0 (visits problem certificate []) ≡ Some (record { node = node; why = why })

-- why contents spell no certificate
abbrev pub IsMisspelled : Option (List ℕ) → CertFault → Type 0
IsMisspelled contents TooLong = AreRead contents (Err TooLong)
IsMisspelled contents NoTree = AreRead contents (Err NoTree)
IsMisspelled contents (Line number) = AreRead contents (Err (Line number))
IsMisspelled contents (Node node why) = ⊥
IsMisspelled contents Memory = ⊥

-- why a certificate is refused for a problem
abbrev pub HasCertFault : Option (List ℕ) → Problem → CertFault → Type 0
HasCertFault contents problem TooLong = IsMisspelled contents TooLong
HasCertFault contents problem NoTree = IsMisspelled contents NoTree
HasCertFault contents problem (Line number) = IsMisspelled contents (Line number)
HasCertFault contents problem (Node node why) = HasWrongNode contents problem node why
HasCertFault contents problem Memory = ⊥
