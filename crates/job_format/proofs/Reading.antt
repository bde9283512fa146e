-- What bytes are read as.
use Rattle.std.proofs.Common.{◌≡◌, ◌<◌, ℕ, ◌==◌, Bool, false, true, cond, List, [], ◌∷◌, length, Option, Some, None, Result, Ok, Err, refl, sym, ◌∙◌, ap, subst, arith}
use Rattle.byteorder.specs.Endian.{little_number}
use Rattle.byte_format.specs.Format.{At, Breaks, Broken, EndsInside, Reached, reached}
use Rattle.byte_format.proofs.Formats.{Leads, breaks-reached, ends-reached, leads}
use Rattle.job_format.specs.Job.{Job, SpellsJob}
use Rattle.job_format.specs.Places.{if_right, job_format, job_start, judge_head, judge_place, judge_solve, place_size}
use Rattle.job_format.specs.Read.{BreaksJob, IsShort, IsWhole, ReadsJob, is_end}
use Rattle.job_format.specs.declared.fault.JobFault.{JobFault}
use Rattle.job_format.specs.declared.fault.JobFault.TheVariants.{Short, Magic, Version, Shape, Extra, Memory}
use Rattle.job_format.specs.declared.place.HeadNumbers.{HeadNumbers}
use Rattle.job_format.specs.declared.place.HeadStep.{HeadStep}
use Rattle.job_format.specs.declared.place.HeadStep.TheVariants as steps
use Rattle.job_format.specs.declared.place.Place.{Place}
use Rattle.job_format.specs.declared.place.Place.TheVariants as places
use Rattle.job_format.specs.declared.place.SolveNumbers.{SolveNumbers}
use Rattle.job_format.specs.declared.place.SolveStep.{SolveStep}
use Rattle.job_format.specs.declared.place.SolveStep.TheVariants as solves
use Rattle.job_format.proofs.Fields.{job_takes}
use Rattle.job_format.proofs.Spelled.{spelled_on}

-- a fault of a field
abbrev IsOfField : JobFault → Type 0
IsOfField Short = ⊥
IsOfField Magic = Unit {0}
IsOfField Version = Unit {0}
IsOfField Shape = Unit {0}
IsOfField Extra = Unit {0}
IsOfField Memory = ⊥

abbrev Told : Result Place JobFault → Type 0
Told (Ok place) = Unit {0}
Told (Err fault) = IsOfField fault

if_right_told : (right : Bool) (fault : JobFault) (place : Place) → IsOfField fault → Told (if_right right fault place)
if_right_told true fault place is = tt
if_right_told false fault place is = is

head_told : (step : HeadStep) (h : HeadNumbers) (b : List ℕ) → Told (judge_head step h b)
head_told steps.Magic h b = if_right_told _ Magic _ tt
head_told steps.Version h b = if_right_told _ Version _ tt
head_told steps.Kind h b = if_right_told _ Shape _ tt
head_told steps.Number h b = tt
head_told steps.Levels h b = if_right_told _ Shape _ tt
head_told steps.Rows h b = if_right_told _ Shape _ tt
head_told steps.Width h b = if_right_told _ Shape _ tt
head_told steps.Heap h b = if_right_told _ Shape _ tt
head_told steps.Seed h b = tt

solve_told : (step : SolveStep) (n : SolveNumbers) (b : List ℕ) → Told (judge_solve step n b)
solve_told solves.Nodes n b = if_right_told _ Shape _ tt
solve_told solves.Sites n b = if_right_told _ Shape _ tt
solve_told solves.Site n b = tt
solve_told solves.Needs n b = if_right_told _ Shape _ tt
solve_told solves.Load n b = if_right_told _ Shape _ tt
solve_told solves.Hops n b = if_right_told _ Shape _ tt
solve_told solves.Hop n b = if_right_told _ Shape _ tt

-- a choice of two answers that are told
either_told : (b : Bool) (one other : Result Place JobFault) → Told one → Told other → Told (cond b one other)
either_told true one other first second = first
either_told false one other first second = second

-- a field is judged as one of four faults
place_told : (place : Place) (b : List ℕ) → Told (judge_place place b)
unfolding judge_place
place_told (places.Head step h) b = head_told step h b
place_told (places.Count h tally) b =
    either_told (little_number 2 b == 0) _ _ tt (if_right_told _ Shape _ tt)
place_told (places.Key h tally left) b = if_right_told _ Shape _ tt
place_told (places.Weight h tally left key) b = if_right_told _ Shape _ tt
place_told (places.ReplayEnd h tally) b = tt
place_told (places.Solve step n) b = solve_told step n b
place_told (places.SolveEnd n) b = tt

breach_from : (bytes : List ℕ) (fault : JobFault) → IsOfField fault → Breaks job_format job_start bytes fault
    → BreaksJob bytes fault
breach_from bytes Short is breaks = absurd is
breach_from bytes Magic is breaks = breaks
breach_from bytes Version is breaks = breaks
breach_from bytes Shape is breaks = breaks
breach_from bytes Extra is breaks = breaks
breach_from bytes Memory is breaks = absurd is

-- a fault that bytes lead to is their first breach
pub breach_of : (bytes : List ℕ) (fault : JobFault) → reached job_format (At job_start []) bytes ≡ Broken fault
    → BreaksJob bytes fault
breach_of bytes fault is =
    let breaks : Breaks job_format job_start bytes fault =
    subst (λ r. Leads job_format job_start bytes r) is (leads job_format job_takes job_start bytes) in
    breach_from bytes fault (subst Told breaks.judged (place_told breaks.place breaks.field)) breaks

ends_of : (place : Place) (bytes part : List ℕ) → reached job_format (At job_start []) bytes ≡ At place part
    → EndsInside job_format job_start bytes place part
ends_of place bytes part is =
    subst (λ r. Leads job_format job_start bytes r) is (leads job_format job_takes job_start bytes)

-- bytes that lead to no end are too short
pub short_of : (place : Place) (bytes part : List ℕ) → reached job_format (At job_start []) bytes ≡ At place part
    → is_end place ≡ false → BreaksJob bytes Short
short_of place bytes part is inside =
    record { place = place; part = part; ends = ends_of place bytes part is; inside = inside }

pub end_size : (place : Place) → is_end place ≡ true → place_size place ≡ 1
end_size (places.Head step h) end = absurd (cc)
end_size (places.Count h tally) end = absurd (cc)
end_size (places.Key h tally left) end = absurd (cc)
end_size (places.Weight h tally left key) end = absurd (cc)
end_size (places.ReplayEnd h tally) end = refl
end_size (places.Solve step n) end = absurd (cc)
end_size (places.SolveEnd n) end = refl

no_bytes : (part : List ℕ) → length part < 1 → part ≡ []
no_bytes [] less = refl
no_bytes (byte ∷ part) less = absurd (omega (arith, less))

-- behind an end nothing stands
pub end_part : (place : Place) (bytes part : List ℕ) → reached job_format (At job_start []) bytes ≡ At place part
    → is_end place ≡ true → part ≡ []
end_part place bytes part is end =
    let ends = ends_of place bytes part is in
    no_bytes part (omega (arith, ends.short, end_size place end))

-- the fault that bytes come to: where they end inside, they are too short
abbrev fault_at : Reached Place JobFault → Option JobFault
fault_at (At place part) = cond (is_end place) None (Some Short)
fault_at (Broken fault) = Some fault

fault_in : List ℕ → Option JobFault
fault_in bytes = fault_at (reached job_format (At job_start []) bytes)

short_told : (bytes : List ℕ) → IsShort bytes → fault_in bytes ≡ Some Short
unfolding fault_in
short_told bytes short =
    ap fault_at (ends-reached job_format job_takes short.ends)
    ∙ ap (λ (b : Bool). cond b None (Some Short)) short.inside

breaks_told : (bytes : List ℕ) (fault : JobFault) → Breaks job_format job_start bytes fault
    → fault_in bytes ≡ Some fault
unfolding fault_in
breaks_told bytes fault breaks = ap fault_at (breaks-reached job_format job_takes breaks)

fault_told : (bytes : List ℕ) (fault : JobFault) → BreaksJob bytes fault → fault_in bytes ≡ Some fault
fault_told bytes Short is = short_told bytes is
fault_told bytes Magic is = breaks_told bytes Magic is
fault_told bytes Version is = breaks_told bytes Version is
fault_told bytes Shape is = breaks_told bytes Shape is
fault_told bytes Extra is = breaks_told bytes Extra is
fault_told bytes Memory is = absurd is

-- a whole job stands at an end
pub whole_end : (place : Place) (bytes : List ℕ) (job : Job) → IsWhole place bytes job → is_end place ≡ true
whole_end (places.Head step h) bytes job whole = absurd whole
whole_end (places.Count h tally) bytes job whole = absurd whole
whole_end (places.Key h tally left) bytes job whole = absurd whole
whole_end (places.Weight h tally left key) bytes job whole = absurd whole
whole_end (places.ReplayEnd h tally) bytes job whole = refl
whole_end (places.Solve step n) bytes job whole = absurd whole
whole_end (places.SolveEnd n) bytes job whole = refl

-- and it is one job
pub whole_one : (place : Place) (bytes : List ℕ) (job other : Job) → IsWhole place bytes job
    → IsWhole place bytes other → job ≡ other
whole_one (places.Head step h) bytes job other whole also = absurd whole
whole_one (places.Count h tally) bytes job other whole also = absurd whole
whole_one (places.Key h tally left) bytes job other whole also = absurd whole
whole_one (places.Weight h tally left key) bytes job other whole also = absurd whole
whole_one (places.ReplayEnd h tally) bytes job other whole also = whole ∙ sym also
whole_one (places.Solve step n) bytes job other whole also = absurd whole
whole_one (places.SolveEnd n) bytes job other whole also = whole ∙ sym also

job_told : (bytes : List ℕ) (job : Job) → SpellsJob job bytes → fault_in bytes ≡ None
unfolding fault_in
job_told bytes job spells =
    let on = spelled_on job bytes spells in
    ap fault_at on.1 ∙ ap (λ (b : Bool). cond b None (Some Short)) (whole_end on.0 bytes job on.2)

one_job : (bytes : List ℕ) (job other : Job) → SpellsJob job bytes → SpellsJob other bytes → job ≡ other
one_job bytes job other spells also =
    let on = spelled_on job bytes spells in
    let in' = spelled_on other bytes also in
    let same : At on.0 [] ≡ At in'.0 [] = sym on.1 ∙ in'.1 in
    let place : in'.0 ≡ on.0 = cc in
    whole_one on.0 bytes job other on.2 (subst (λ p. IsWhole p bytes other) place in'.2)

-- bytes are read as one thing at most
pub one_read : (bytes : List ℕ) (read other : Result Job JobFault) → ReadsJob bytes read → ReadsJob bytes other
    → read ≡ other
one_read bytes (Ok job) (Ok other) reads also = ap (λ (j : Job). Ok j) (one_job bytes job other reads also)
one_read bytes (Ok job) (Err fault) reads also =
    let none = job_told bytes job reads in
    let some = fault_told bytes fault also in
    cc
one_read bytes (Err fault) (Ok job) reads also =
    let none = job_told bytes job also in
    let some = fault_told bytes fault reads in
    cc
one_read bytes (Err fault) (Err other) reads also =
    let some = fault_told bytes fault reads in
    let same = fault_told bytes other also in
    cc
