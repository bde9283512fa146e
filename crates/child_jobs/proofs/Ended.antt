-- What a reader's end says of its bytes.
use Rattle.std.proofs.Common.{◌≡◌, ◌≤◌, ℕ, Bool, true, false, if◌then◌else◌, List, [], ◌∷◌, ◌++◌, length, take, Option, None, Some, Result, Ok, Err, IfOk, IfErr, ◌⊎◌, refl, sym, ◌∙◌, ap, subst, arith, append-nil, inl, inr}
use Rattle.bound_certificate.specs.Limits.{IsWithin}
use Rattle.bound_certificate.specs.Problem.{Problem}
use Rattle.byte_format.specs.Format.{At, reached}
use Rattle.job_format.specs.Given.{items_in}
use Rattle.job_format.specs.Job.{Replay as ReplayIt, ReplayJob, Solve as SolveIt, SolveJob, SpellsReplay, SpellsSolve}
use Rattle.job_format.specs.Places.{job_format, job_start}
use Rattle.job_format.specs.Read.{BreaksJob, is_end, setting_in}
use Rattle.job_format.specs.declared.fault.JobFault.{JobFault}
use Rattle.job_format.specs.declared.fault.JobFault.TheVariants as faults
use Rattle.job_format.specs.declared.item.Item.{Item}
use Rattle.job_format.specs.declared.place.HeadNumbers.{HeadNumbers}
use Rattle.job_format.specs.declared.place.Place.{Place}
use Rattle.job_format.specs.declared.place.Place.TheVariants as places
use Rattle.job_format.specs.declared.place.SolveNumbers.{SolveNumbers}
use Rattle.job_format.specs.declared.place.Tally.{Tally}
use Rattle.child_jobs.specs.Ends.{Ends}
use Rattle.child_jobs.specs.Heads.{Head, ReplayHead, SolveHead, head_at}
use Rattle.child_jobs.specs.Reader.{HasTaken, known_head, needs_held}
use Rattle.child_jobs.specs.Rooms.{most_items}
use Rattle.child_jobs.specs.declared.end.JobEnd.{JobEnd}
use Rattle.child_jobs.specs.declared.end.JobEnd.TheVariants as ends
use Rattle.child_jobs.specs.declared.reader.JobReader.{JobReader}
use Rattle.child_jobs.proofs.Moves.{at_state}
use Rattle.job_format.proofs.Reading.{end_part, short_of}
use Rattle.job_format.proofs.Says.{whole_back}

-- a breach, whatever is known of the head
ends_err : (head : Option Head) (bytes : List ℕ) (given : List Item) (fault : JobFault) → BreaksJob bytes fault
    → Ends bytes head given (Err fault)
ends_err None bytes given fault breaks = breaks
ends_err (Some (ReplayHead number setting)) bytes given fault breaks = breaks
ends_err (Some (SolveHead number)) bytes given fault breaks = breaks

-- where a reader that goes on is
here : (r : JobReader) (bytes : List ℕ) (given : List Item) → HasTaken r bytes given
    → reached job_format (At job_start []) bytes ≡ At r.place (take r.filled r.held)
here r bytes given taken = sym taken.leads ∙ at_state r taken.going

at_end : (r : JobReader) (bytes : List ℕ) (given : List Item) (place : Place) → r.place ≡ place → is_end place ≡ true
    → HasTaken r bytes given → reached job_format (At job_start []) bytes ≡ At place []
at_end r bytes given place is end taken =
    let there : reached job_format (At job_start []) bytes ≡ At place (take r.filled r.held) =
    here r bytes given taken ∙ ap (λ (p : Place). At p (take r.filled r.held)) is in
    there ∙ ap (λ (l : List ℕ). At place l) (end_part place bytes (take r.filled r.held) there end)

-- inside a job
pub ends_short : (r : JobReader) (bytes : List ℕ) (given : List Item) → is_end r.place ≡ false → HasTaken r bytes given
    → Ends bytes (known_head r) given (Err faults.Short)
ends_short r bytes given inside taken =
    ends_err (known_head r) bytes given faults.Short
    (short_of r.place bytes (take r.filled r.held) (here r bytes given taken) inside)

-- behind a replay job
none_kept : (ended : Bool) (items : List Item) → length items ≤ 0 → (if ended then [] else items) ≡ []
none_kept true items few = refl
none_kept false [] few = refl
none_kept false (item ∷ items) few = absurd (omega (arith, few))

pub ends_replay : (r : JobReader) (bytes : List ℕ) (given : List Item) (h : HeadNumbers) (tally : Tally)
    → r.place ≡ places.ReplayEnd h tally → HasTaken r bytes given
    → Ends bytes (known_head r) given (Ok ends.Replay)
ends_replay r bytes given h tally is taken =
    let few : length r.frame.items ≤ 0 =
    subst (λ (p : Place). length r.frame.items ≤ most_items p r.ended) is r.room.few_items in
    let all : items_in bytes ≡ given =
    taken.gives ∙ ap (λ (l : List Item). given ++ l) (none_kept r.ended r.frame.items few)
    ∙ append-nil given in
    let job : ReplayJob = record { number = h.job; setting = setting_in h; items = given } in
    let spells : SpellsReplay job bytes =
    whole_back (places.ReplayEnd h tally) bytes (ReplayIt job) taken.fit
    (at_end r bytes given (places.ReplayEnd h tally) is refl taken)
    (ap (λ (l : List Item). ReplayIt (record { number = h.job; setting = setting_in h; items = l })) (sym all)) in
    subst (λ (p : Place). Ends bytes (head_at p) given (Ok ends.Replay)) (sym is) spells

-- behind a solve job
abbrev pub held_problem : JobReader → Problem
held_problem r = record { sites = r.sites.items; needs = needs_held r }

spells_solve : (r : JobReader) (bytes : List ℕ) (given : List Item) (n : SolveNumbers) → r.place ≡ places.SolveEnd n
    → HasTaken r bytes given
    → SpellsSolve (record { number = n.job; nodes = n.nodes; problem = held_problem r }) bytes
spells_solve r bytes given n is taken =
    let job : Problem → SolveJob = λ problem. record { number = n.job; nodes = n.nodes; problem = problem } in
    whole_back (places.SolveEnd n) bytes (SolveIt (job (held_problem r))) taken.fit
    (at_end r bytes given (places.SolveEnd n) is refl taken)
    (λ i. SolveIt (job (record { sites = sym taken.sites i; needs = sym taken.needs i })))

ends_solve : (r : JobReader) (bytes : List ℕ) (given : List Item) (n : SolveNumbers) → r.place ≡ places.SolveEnd n
    → HasTaken r bytes given → Ends bytes (known_head r) given (Ok (ends.Solve n.nodes (held_problem r)))
ends_solve r bytes given n is taken =
    subst (λ (p : Place). Ends bytes (head_at p) given (Ok (ends.Solve n.nodes (held_problem r)))) (sym is)
    (spells_solve r bytes given n is taken)

-- what is made of its sites and needs
pub ends_made : (r : JobReader) (bytes : List ℕ) (given : List Item) (n : SolveNumbers)
    (result : Result JobEnd JobFault) → r.place ≡ places.SolveEnd n → HasTaken r bytes given
    → IfOk result (λ end. end ≡ ends.Solve n.nodes (held_problem r))
    → IfErr result (λ fault. (fault ≡ faults.Memory) ⊎ (IsWithin r.sites.items (needs_held r) → ⊥))
    → (result ≡ Err faults.Memory) ⊎ Ends bytes (known_head r) given result
ends_made r bytes given n (Ok end) is taken value fault =
    let here : Ends bytes (known_head r) given (Ok (ends.Solve n.nodes (held_problem r))) =
    ends_solve r bytes given n is taken in
    inr (subst (λ (e : JobEnd). Ends bytes (known_head r) given (Ok e)) (sym value) here)
ends_made r bytes given n (Err fault) is taken value why = elim why [
  | inl memory ↦ inl (ap (λ (f : JobFault). Err f) memory)
  | inr outside ↦ absurd (outside ((spells_solve r bytes given n is taken).within.within))
]

-- no end
pub inside_of : (place : Place) → ((h : HeadNumbers) (tally : Tally) → place ≡ places.ReplayEnd h tally → ⊥)
    → ((n : SolveNumbers) → place ≡ places.SolveEnd n → ⊥) → is_end place ≡ false
inside_of (places.Head step h) replay solve = refl
inside_of (places.Count h tally) replay solve = refl
inside_of (places.Key h tally left) replay solve = refl
inside_of (places.Weight h tally left key) replay solve = refl
inside_of (places.ReplayEnd h tally) replay solve = absurd (replay h tally refl)
inside_of (places.Solve step n) replay solve = refl
inside_of (places.SolveEnd n) replay solve = absurd (solve n refl)
