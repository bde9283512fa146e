-- The bytes of each ticket, one ticket more, and one changed.
use Rattle.std.proofs.Common.{◌≡◌, ℕ, zero, suc, ◌<◌, ◌==◌, ◌≢◌, cond, inl, inr, List, [], ◌∷◌, ◌++◌, Vec, length, length-set, get_or-set_same, get_or-set_other, refl, sym, ◌∙◌, ap, arith}
use Rattle.std.specs.Prelude.{slice_index_or, slice_set}
use Rattle.std.specs.declared.alloc.Global.{Global}
use Rattle.std.proofs.lemmas.Bool.{cases_eq, ne_eqb, eq-eqb}
use Rattle.std.proofs.lemmas.List.{get_or-map, length-map, map-set}
use Rattle.roster.specs.Fed.{bytes_of, fed_to}

pub jobs_count : (jobs : List (Vec ℕ Global)) → length (bytes_of jobs) ≡ length jobs
unfolding bytes_of
jobs_count jobs = length-map jobs (λ (job : Vec ℕ Global). job.items)

-- a ticket that was fed nothing
empty_end : (v : Vec ℕ Global) (t : ℕ) → v.items ≡ [] → slice_index_or (v.items ∷ []) t [] ≡ []
empty_end v zero empty = empty
empty_end v (suc t) empty = refl

pub fed_push : (jobs : List (Vec ℕ Global)) (v : Vec ℕ Global) (t : ℕ) → v.items ≡ []
    → fed_to (bytes_of (jobs ++ v ∷ [])) t ≡ fed_to (bytes_of jobs) t
unfolding bytes_of fed_to
fed_push [] v t empty = empty_end v t empty
fed_push (job ∷ jobs) v zero empty = refl
fed_push (job ∷ jobs) v (suc t) empty = fed_push jobs v t empty

-- the bytes of one ticket changed
set_jobs : (jobs : List (Vec ℕ Global)) (i : ℕ) (v : Vec ℕ Global)
    → bytes_of (slice_set jobs i v) ≡ slice_set (bytes_of jobs) i v.items
unfolding bytes_of
set_jobs jobs i v = map-set (λ (job : Vec ℕ Global). job.items) jobs i v

pub fed_other : (jobs : List (Vec ℕ Global)) (i : ℕ) (v : Vec ℕ Global) (t : ℕ) → t ≢ i
    → fed_to (bytes_of (slice_set jobs i v)) t ≡ fed_to (bytes_of jobs) t
unfolding fed_to
fed_other jobs i v t apart = ap (λ xs. slice_index_or xs t []) (set_jobs jobs i v)
    ∙ get_or-set_other (bytes_of jobs) i t v.items [] apart

pub fed_set : (jobs : List (Vec ℕ Global)) (i : ℕ) (v : Vec ℕ Global) (t : ℕ) → i < length jobs
    → fed_to (bytes_of (slice_set jobs i v)) t ≡ cond (t == i) v.items (fed_to (bytes_of jobs) t)
unfolding fed_to
fed_set jobs i v t known = elim (cases_eq t i) [
  | inl same ↦ rw (eq-eqb t i same) (ap (λ (k : ℕ). slice_index_or (bytes_of (slice_set jobs i v)) k []) same
      ∙ ap (λ xs. slice_index_or xs i []) (set_jobs jobs i v)
      ∙ get_or-set_same (bytes_of jobs) i v.items [] (omega (arith, known, jobs_count jobs)))
  | inr apart ↦ rw (ne_eqb t i apart) (fed_other jobs i v t apart)
]

pub fed_nil : (t : ℕ) → fed_to (bytes_of []) t ≡ []
unfolding bytes_of fed_to
fed_nil t = refl

pub set_count : (jobs : List (Vec ℕ Global)) (i : ℕ) (v : Vec ℕ Global)
    → length (bytes_of (slice_set jobs i v)) ≡ length jobs
set_count jobs i v = jobs_count (slice_set jobs i v) ∙ length-set jobs i v

-- the bytes at a place
pub fed_at : (jobs : List (Vec ℕ Global)) (i : ℕ) (d : Vec ℕ Global) → i < length jobs
    → (slice_index_or jobs i d).items ≡ fed_to (bytes_of jobs) i
unfolding bytes_of fed_to
fed_at jobs i d known = sym (get_or-map (λ (job : Vec ℕ Global). job.items) jobs i d [] known)

pub fed_append : (jobs : List (Vec ℕ Global)) (i : ℕ) (v d : Vec ℕ Global) (piece : List ℕ) (t : ℕ) → i < length jobs
    → v.items ≡ (slice_index_or jobs i d).items ++ piece
    → fed_to (bytes_of (slice_set jobs i v)) t ≡ cond (t == i) (fed_to (bytes_of jobs) t ++ piece)
    (fed_to (bytes_of jobs) t)
fed_append jobs i v d piece t known is = fed_set jobs i v t known ∙ elim (cases_eq t i) [
  | inl same ↦ rw (eq-eqb t i same) (is
      ∙ ap (λ xs. xs ++ piece) (fed_at jobs i d known ∙ ap (fed_to (bytes_of jobs)) (sym same)))
  | inr apart ↦ rw (ne_eqb t i apart) refl
]

pub fed_same : (jobs : List (Vec ℕ Global)) (i : ℕ) (v d : Vec ℕ Global) (t : ℕ) → i < length jobs
    → v.items ≡ (slice_index_or jobs i d).items → fed_to (bytes_of (slice_set jobs i v)) t ≡ fed_to (bytes_of jobs) t
fed_same jobs i v d t known is = fed_set jobs i v t known ∙ elim (cases_eq t i) [
  | inl same ↦ rw (eq-eqb t i same) (is ∙ fed_at jobs i d known ∙ ap (fed_to (bytes_of jobs)) (sym same))
  | inr apart ↦ rw (ne_eqb t i apart) refl
]
