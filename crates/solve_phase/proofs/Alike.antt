-- A log of a search says the same of bad attempts and of stale events, by whatever work it is read.
use Rattle.std.proofs.Common.{◌≡◌, ℕ, ◌+◌, Bool, true, cond, List, [], ◌∷◌, ◌∙◌, refl, sym, inl, inr}
use Rattle.std.specs.Prelude.{◌↔◌}
use Rattle.std.proofs.lemmas.Bool.{cases_Bool}
use Rattle.bound_certificate.specs.Problem.{Problem}
use Rattle.crew.specs.Log.{Entry}
use Rattle.replay_supervisor.specs.Jobs.{Work}
use Rattle.replay_supervisor.specs.Reading.{bad_in, count_entry, is_stale, read, read_entry, stale_in}
use Rattle.solve_phase.specs.Told.{ReadsSearch}

abbrev work_of : ℕ → (ℕ → List (List ℕ)) → (ℕ → List ℕ → Bool) → Work
work_of count pieces is_good = record { count = count; pieces = pieces; is_good = is_good }

-- what work gives is the same whatever its pieces
abbrev pub PassesPieces : {X : Type 0} → (Work → X) → Type 0
PassesPieces f = (count : ℕ) (is_good : ℕ → List ℕ → Bool) (some other : ℕ → List (List ℕ))
    → f (work_of count some is_good) ≡ f (work_of count other is_good)

module _ (count : ℕ) (is_good : ℕ → List ℕ → Bool) (some other : ℕ → List (List ℕ)) where
  read-pieces : (log : List Entry) → read (work_of count some is_good) log ≡ read (work_of count other is_good) log
  unfolding read
  read-pieces [] = refl
  read-pieces (entry ∷ before) = λ i. read_entry (work_of count some is_good) (read-pieces before i) entry

  bad-pieces : (log : List Entry) (job : ℕ)
      → bad_in (work_of count some is_good) log job ≡ bad_in (work_of count other is_good) log job
  unfolding bad_in
  bad-pieces [] job = refl
  bad-pieces (entry ∷ before) job =
      λ i. count_entry (work_of count some is_good) (read-pieces before i) entry job (bad-pieces before job i)

  stale-pieces : (log : List Entry)
      → stale_in (work_of count some is_good) log ≡ stale_in (work_of count other is_good) log
  unfolding stale_in
  stale-pieces [] = refl
  stale-pieces (entry ∷ before) =
      λ i. cond {A = ℕ} (is_stale (read-pieces before i) entry) 1 0 + stale-pieces before i

-- two tests that pass by the same facts agree
tests_agree : (one other : Bool) (P : Type 0) → ((one ≡ true) ↔ P) → ((other ≡ true) ↔ P) → one ≡ other
tests_agree one other P by also = elim (cases_Bool one) [
  | inl passes ↦ passes ∙ sym (also.1 (by.0 passes))
  | inr fails ↦ elim (cases_Bool other) [
    | inl other_passes ↦ by.1 (also.0 other_passes) ∙ sym other_passes
    | inr other_fails ↦ fails ∙ sym other_fails
  ]
]

-- works by which a log of one search is read give the same
pub alike : {X : Type 0} (problem : Problem) (nodes : ℕ) (f : Work → X) (v w : Work) → PassesPieces f
    → ReadsSearch problem nodes v → ReadsSearch problem nodes w → f v ≡ f w
alike problem nodes f v w passes one two =
    let count : v.count ≡ w.count = one.one ∙ sym two.one in
    let good : (job : ℕ) (bytes : List ℕ) → v.is_good job bytes ≡ w.is_good job bytes =
    λ job bytes. tests_agree (v.is_good job bytes) (w.is_good job bytes) _ (one.judges job bytes)
    (two.judges job bytes) in
    (λ i. f (work_of (count i) v.pieces (λ job bytes. good job bytes i)))
    ∙ passes w.count w.is_good v.pieces w.pieces

pub bad-alike : (problem : Problem) (nodes : ℕ) (v w : Work) (log : List Entry) (job : ℕ)
    → ReadsSearch problem nodes v → ReadsSearch problem nodes w → bad_in v log job ≡ bad_in w log job
bad-alike problem nodes v w log job =
    alike problem nodes (λ work. bad_in work log job) v w
    (λ count is_good some other. bad-pieces count is_good some other log job)

pub stale-alike : (problem : Problem) (nodes : ℕ) (v w : Work) (log : List Entry)
    → ReadsSearch problem nodes v → ReadsSearch problem nodes w → stale_in v log ≡ stale_in w log
stale-alike problem nodes v w log =
    alike problem nodes (λ work. stale_in work log) v w
    (λ count is_good some other. stale-pieces count is_good some other log)
