-- What holds of each accepted reply, by what holds of one when it is accepted.
use Rattle.std.proofs.Common.{◌≡◌, ℕ, zero, suc, ◌&&◌, Bool, true, false, cond, List, [], ◌∷◌, length, Option, None, Some, IsTrue, refl, sym, ◌∙◌, ap, subst, inl, inr}
use Rattle.std.specs.Prelude.{is_none, replicate, slice_index_or, slice_set}
use Rattle.std.proofs.lemmas.Bool.{and_parts, cases_eq, cases_lt}
use Rattle.std.proofs.lemmas.List.{get_or-set_other, get_or-set_same, set_past}
use Rattle.std.proofs.lemmas.Option.{none-some, same_Some}
use Rattle.crew.specs.Log.{Entry}
use Rattle.crew.specs.Log.Entry.{Started, StartFailed, Fed, FeedFailed, Sealed, Reply, Died, Stopped}
use Rattle.replay_core.specs.Attempts.{job_of}
use Rattle.replay_supervisor.specs.Jobs.{Places, Work}
use Rattle.replay_supervisor.specs.Reading.{accepted, is_first_good, read, with_reply}

-- what holds of each place that holds bytes
abbrev AreHeld : (ℕ → List ℕ → Type 0) → Places → Type 0
AreHeld P places = (job : ℕ) (bytes : List ℕ) → slice_index_or places job None ≡ Some bytes → P job bytes

-- what holds of each accepted reply
abbrev pub AreAccepted : Work → (ℕ → List ℕ → Type 0) → List Entry → Type 0
AreAccepted work P log = AreHeld P (read work log).replies

-- what holds of an entry that is accepted
abbrev pub IfFirst : Work → (ℕ → List ℕ → Type 0) → List Entry → Entry → Type 0
IfFirst work P before (Reply t bytes) =
    (job : ℕ) → job_of (read work before).outs t ≡ Some job
    → IsTrue (is_first_good work (read work before) bytes (Some job)) → P job bytes
IfFirst work P before (Started t) = Unit {0}
IfFirst work P before (StartFailed t) = Unit {0}
IfFirst work P before (Fed t piece) = Unit {0}
IfFirst work P before (FeedFailed t) = Unit {0}
IfFirst work P before (Sealed t) = Unit {0}
IfFirst work P before (Died t) = Unit {0}
IfFirst work P before (Stopped t) = Unit {0}

-- no place of a list of empty ones holds bytes
none_held : (n job : ℕ) (bytes : List ℕ) → slice_index_or (replicate n None) job None ≡ Some bytes → ⊥
none_held zero job bytes is = none-some bytes is
none_held (suc n) zero bytes is = none-some bytes is
none_held (suc n) (suc job) bytes is = none_held n job bytes is

-- bytes that are put into a place, if at all
held_more : (P : ℕ → List ℕ → Type 0) (places : Places) (bytes : List ℕ) (j : ℕ) (put : Bool)
    → (put ≡ true → P j bytes) → AreHeld P places → AreHeld P (cond put (slice_set places j (Some bytes)) places)
held_more P places bytes j false new old job found is = old job found is
held_more P places bytes j true new old job found is = elim (cases_eq job j) [
  | inl here ↦ elim (cases_lt j (length places)) [
    | inl within ↦
        let same : bytes ≡ found = same_Some bytes found
        (sym (get_or-set_same places j (Some bytes) None within)
        ∙ ap (λ (k : ℕ). slice_index_or (slice_set places j (Some bytes)) k None) (sym here) ∙ is) in
        subst (λ (k : ℕ). P k found) (sym here) (subst (P j) same (new refl))
    | inr past ↦ old job found
        (sym (ap (λ (xs : Places). slice_index_or xs job None) (set_past places j (Some bytes) past)) ∙ is)
  ]
  | inr other ↦ old job found (sym (get_or-set_other places j job (Some bytes) None other) ∙ is)
]

held_reply : (work : Work) (P : ℕ → List ℕ → Type 0) (places : Places) (bytes : List ℕ) (of : Option ℕ)
    → ((job : ℕ) → of ≡ Some job → IsTrue (work.is_good job bytes && is_none (slice_index_or places job None))
    → P job bytes) → AreHeld P places → AreHeld P (with_reply work places bytes of)
held_reply work P places bytes None new old = old
held_reply work P places bytes (Some j) new old =
    held_more P places bytes j (work.is_good j bytes && is_none (slice_index_or places j None)) (new j refl) old

pub accepted_none : (work : Work) (P : ℕ → List ℕ → Type 0) → AreAccepted work P []
unfolding read
accepted_none work P = λ job bytes is. absurd (none_held work.count job bytes is)

-- one entry more
pub accepted_on : (work : Work) (P : ℕ → List ℕ → Type 0) (before : List Entry) (entry : Entry)
    → IfFirst work P before entry → AreAccepted work P before → AreAccepted work P (entry ∷ before)
unfolding read
accepted_on work P before (Started t) new old = old
accepted_on work P before (StartFailed t) new old = old
accepted_on work P before (Fed t piece) new old = old
accepted_on work P before (FeedFailed t) new old = old
accepted_on work P before (Sealed t) new old = old
accepted_on work P before (Reply t bytes) new old =
    held_reply work P (read work before).replies bytes (job_of (read work before).outs t) new old
accepted_on work P before (Died t) new old = old
accepted_on work P before (Stopped t) new old = old

-- an accepted reply is good
first_good : (work : Work) (before : List Entry) (entry : Entry)
    → IfFirst work (λ job bytes. work.is_good job bytes ≡ true) before entry
first_good work before (Started t) = tt
first_good work before (StartFailed t) = tt
first_good work before (Fed t piece) = tt
first_good work before (FeedFailed t) = tt
first_good work before (Sealed t) = tt
first_good work before (Reply t bytes) =
    λ job is first. (and_parts (work.is_good job bytes) (is_none (accepted (read work before) job)) first).0
first_good work before (Died t) = tt
first_good work before (Stopped t) = tt

pub accepted_good : (work : Work) (log : List Entry) → AreAccepted work (λ job bytes. work.is_good job bytes ≡ true) log
accepted_good work [] = accepted_none work (λ job bytes. work.is_good job bytes ≡ true)
accepted_good work (entry ∷ before) =
    accepted_on work (λ job bytes. work.is_good job bytes ≡ true) before entry (first_good work before entry)
    (accepted_good work before)
