-- Works that count and judge alike read a log alike.
use Rattle.std.proofs.Common.{◌≡◌, ℕ, ◌+◌, Bool, true, cond, List, [], ◌∷◌, replicate, None, refl, sym, ◌∙◌, ap, inl, inr}
use Rattle.std.specs.Prelude.{◌↔◌}
use Rattle.std.proofs.lemmas.Bool.{cases_Bool}
use Rattle.bound_certificate.specs.Problem.{Problem}
use Rattle.crew.specs.Log.{Entry}
use Rattle.replay_phase.specs.Phase.{Replaying}
use Rattle.replay_supervisor.specs.Jobs.{Work}
use Rattle.replay_supervisor.specs.Reading.{Reading, accepted, bad_in, count_entry, is_stale, read, read_entry, stale_in}
use Rattle.solve_phase.proofs.Alike.{alike}
use Rattle.solve_phase.specs.Told.{ReadsSearch}
use Rattle.measure_told.specs.Told.{ReadsReplays}

abbrev work_of : ℕ → (ℕ → List (List ℕ)) → (ℕ → List ℕ → Bool) → Work
work_of count pieces is_good = record { count = count; pieces = pieces; is_good = is_good }

module _ (v w : Work) (count : v.count ≡ w.count)
    (good : (job : ℕ) (bytes : List ℕ) → v.is_good job bytes ≡ w.is_good job bytes)
  where
    read-alike : (log : List Entry) → read v log ≡ read w log
    unfolding read
    read-alike [] = λ i. record { outs = []; replies = replicate (count i) None }
    read-alike (entry ∷ before) =
        λ i. read_entry (work_of (count i) v.pieces (λ job bytes. good job bytes i)) (read-alike before i) entry

    bad-alike : (log : List Entry) (job : ℕ) → bad_in v log job ≡ bad_in w log job
    unfolding bad_in
    bad-alike [] job = refl
    bad-alike (entry ∷ before) job =
        λ i. count_entry (work_of (count i) v.pieces (λ job bytes. good job bytes i)) (read-alike before i) entry job
        (bad-alike before job i)

    stale-alike : (log : List Entry) → stale_in v log ≡ stale_in w log
    unfolding stale_in
    stale-alike [] = refl
    stale-alike (entry ∷ before) =
        λ i. cond {A = ℕ} (is_stale (read-alike before i) entry) 1 0 + stale-alike before i

-- works by which a log of one search is read accept the same
pub search-accepts : (problem : Problem) (nodes : ℕ) (v w : Work) → ReadsSearch problem nodes v
    → ReadsSearch problem nodes w → (log : List Entry) → accepted (read v log) 0 ≡ accepted (read w log) 0
search-accepts problem nodes v w one two log =
    alike problem nodes (λ work. accepted (read work log) 0) v w
    (λ count is_good some other. ap (λ (r : Reading). accepted r 0)
    (read-alike (work_of count some is_good) (work_of count other is_good) refl (λ job bytes. refl) log)) one two

-- two tests that pass by the same facts agree
tests_agree : (one other : Bool) (P : Type 0) → ((one ≡ true) ↔ P) → ((other ≡ true) ↔ P) → one ≡ other
tests_agree one other P by also = elim (cases_Bool one) [
  | inl passes ↦ passes ∙ sym (also.1 (by.0 passes))
  | inr fails ↦ elim (cases_Bool other) [
    | inl other_passes ↦ by.1 (also.0 other_passes) ∙ sym other_passes
    | inr other_fails ↦ fails ∙ sym other_fails
  ]
]

module _ (r : Replaying) (v w : Work) (one : ReadsReplays r v) (two : ReadsReplays r w) where
  same_test : (job : ℕ) (bytes : List ℕ) → v.is_good job bytes ≡ w.is_good job bytes
  same_test job bytes =
      tests_agree (v.is_good job bytes) (w.is_good job bytes) _ (one.judges job bytes) (two.judges job bytes)

  -- works by which a log of the same replays is read give the same bad attempts and stale events
  pub bad-replays : (log : List Entry) (job : ℕ) → bad_in v log job ≡ bad_in w log job
  bad-replays log job = bad-alike v w (one.count ∙ sym two.count) same_test log job

  pub stale-replays : (log : List Entry) → stale_in v log ≡ stale_in w log
  stale-replays log = stale-alike v w (one.count ∙ sym two.count) same_test log
