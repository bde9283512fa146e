-- The items that a reader has given out are within the limits of a job.
use Rattle.std.proofs.Common.{◌≡◌, ◌≤◌, ℕ, ◌+◌, List, [], ◌∷◌, ◌++◌, length, None, take, refl, sym, ◌∙◌, ap, arith, length-append}
use Rattle.std.proofs.lemmas.List.Sums.{sum_by-append}
use Rattle.job_format.specs.Job.{item_limit, weight_limit, weight_of}
use Rattle.job_format.specs.Given.{items_in}
use Rattle.job_format.specs.declared.item.Item.{Item}
use Rattle.job_format.specs.declared.place.Place.{Place}
use Rattle.job_format.specs.declared.place.Place.TheVariants as places
use Rattle.job_format.proofs.Tallies.{Counts, counted, within_limits}
use Rattle.child_jobs.specs.Heads.{head_at}
use Rattle.child_jobs.specs.Reader.{HasTaken, kept, known_head}
use Rattle.child_jobs.specs.declared.reader.JobReader.{JobReader}
use Rattle.child_jobs.proofs.Moves.{at_state}

counts_at : (r : JobReader) (bytes : List ℕ) (given : List Item) → HasTaken r bytes given
    → Counts r.place (items_in bytes)
counts_at r bytes given taken =
    counted r.place bytes (take r.filled r.held) (sym taken.leads ∙ at_state r taken.going)

pub given_light : (r : JobReader) (bytes : List ℕ) (given : List Item) → HasTaken r bytes given
    → (weight_of given ≤ weight_limit) × (length given ≤ item_limit)
given_light r bytes given taken =
    let all = within_limits r.place (items_in bytes) (counts_at r bytes given taken) in
    let weighs : weight_of (items_in bytes) ≡ weight_of given + weight_of (kept r) =
    ap weight_of taken.gives ∙ sum_by-append (λ (i : Item). i.weight) given (kept r) in
    let number : length (items_in bytes) ≡ length given + length (kept r) =
    ap length taken.gives ∙ length-append given (kept r) in
    (omega (arith, all.0, weighs), omega (arith, all.1, number))

none_before : (place : Place) (items : List Item) → head_at place ≡ None → Counts place items → items ≡ []
none_before (places.Head step h) items none is = is
none_before (places.Count h tally) items none is = absurd (cc)
none_before (places.Key h tally left) items none is = absurd (cc)
none_before (places.Weight h tally left key) items none is = absurd (cc)
none_before (places.ReplayEnd h tally) items none is = absurd (cc)
none_before (places.Solve step n) items none is = absurd (cc)
none_before (places.SolveEnd n) items none is = absurd (cc)

front_none : (xs ys : List Item) → xs ++ ys ≡ [] → xs ≡ []
front_none [] ys none = refl
front_none (x ∷ xs) ys none = absurd (cc)

pub given_none : (r : JobReader) (bytes : List ℕ) (given : List Item) → HasTaken r bytes given → known_head r ≡ None
    → given ≡ []
given_none r bytes given taken none =
    front_none given (kept r) (sym taken.gives ∙ none_before r.place (items_in bytes) none (counts_at r bytes given
    taken))
