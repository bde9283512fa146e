-- A job that is read in one piece.
use Rattle.std.proofs.Common.{◌≡◌, ℕ, ◌+◌, List, [], ◌++◌, take, drop, Result, Err, ◌⊎◌, sym, ◌∙◌, ap, subst, append-nil, take-append-drop, inl, inr}
use Rattle.job_format.specs.Job.{Job}
use Rattle.job_format.specs.Read.{BreaksJob, ReadsJob, read_as}
use Rattle.job_format.specs.declared.fault.JobFault.{JobFault}
use Rattle.job_format.specs.declared.fault.JobFault.TheVariants.{Memory}
use Rattle.job_format.specs.declared.item.Item.{Item}
use Rattle.job_format.specs.declared.job.Job.{Job as JobEnum}
use Rattle.child_jobs.specs.Reader.{HasTaken, lent}
use Rattle.child_jobs.specs.declared.reader.JobReader.{JobReader}
use Rattle.child_jobs.proofs.Moves.{take-add}
use Rattle.job_format.proofs.Reading.{one_read}

-- a breach behind the front is one of the whole
pub breach_here : (bytes rest : List ℕ) (taken : ℕ) (fault : JobFault) → rest ≡ drop taken bytes
    → BreaksJob (take taken bytes ++ (rest ++ [])) fault → BreaksJob bytes fault
breach_here bytes rest taken fault is breaks =
    let whole : take taken bytes ++ (rest ++ []) ≡ bytes =
    ap (λ (l : List ℕ). take taken bytes ++ l) (append-nil rest ∙ is) ∙ take-append-drop taken bytes in
    subst (λ (l : List ℕ). BreaksJob l fault) whole breaks

-- a piece more, whose items were collected
pub taken_on : (r : JobReader) (bytes rest : List ℕ) (taken count : ℕ) (given frame all : List Item)
    → rest ≡ drop taken bytes → frame ≡ lent r → all ≡ given ++ frame
    → HasTaken r (take taken bytes ++ take count rest) (given ++ lent r) → HasTaken r (take (taken + count) bytes) all
taken_on r bytes rest taken count given frame all is lends adds has =
    let front : take taken bytes ++ take count rest ≡ take (taken + count) bytes =
    ap (λ (l : List ℕ). take taken bytes ++ take count l) is ∙ sym (take-add taken count bytes) in
    let items : given ++ lent r ≡ all = ap (λ (l : List Item). given ++ l) (sym lends) ∙ sym adds in
    subst (λ (l : List ℕ). HasTaken r l all) front
    (subst (λ (l : List Item). HasTaken r (take taken bytes ++ take count rest) l) items has)

-- no other answer would do
pub no_other : (bytes : List ℕ) (result : Result JobEnum JobFault) (other : Result Job JobFault)
    → (result ≡ Err Memory) ⊎ ReadsJob bytes (read_as result) → ReadsJob bytes other
    → (result ≡ Err Memory) ⊎ (read_as result ≡ other)
no_other bytes result other (inl memory) also = inl memory
no_other bytes result other (inr reads) also = inr (one_read bytes (read_as result) other reads also)

pub no_other_breach : (bytes : List ℕ) (fault : JobFault) (other : Result Job JobFault)
    → (fault ≡ Memory) ⊎ BreaksJob bytes fault → ReadsJob bytes other
    → (◌≡◌ {A = Result JobEnum JobFault} (Err fault) (Err Memory)) ⊎ (◌≡◌ {A = Result Job JobFault} (Err fault) other)
no_other_breach bytes fault other (inl memory) also = inl (ap (λ (f : JobFault). Err f) memory)
no_other_breach bytes fault other (inr breaks) also = inr (one_read bytes (Err fault) other breaks also)
