-- The items that were given so far are as many, and weigh as much, as the place says.
use Rattle.std.proofs.Common.{◌≡◌, ◌<◌, ◌≤◌, ℕ, ◌+◌, ◌-◌, ◌%◌, ◌^◌, ◌==◌, ◌&&◌, nat_le, nat_lt, if◌then◌else◌, Bool, true, false, List, [], ◌∷◌, ◌++◌, length, Result, Ok, refl, sym, ◌∙◌, ap, subst, arith, append-nil, length-append}
use Rattle.std.proofs.lemmas.Bool.Decides.{nat_tests}
use Rattle.std.proofs.lemmas.List.Sums.{sum_by-append}
use Rattle.byteorder.specs.Endian.{little_number}
use Rattle.byte_format.specs.Format.{At, reached}
use Rattle.byte_format.proofs.Yields.{yields_keep}
use Rattle.job_format.specs.Given.{item_gives, items_in}
use Rattle.job_format.specs.Job.{item_limit, weight_limit, weight_of}
use Rattle.job_format.specs.Places.{behind_number, behind_site, job_format, job_start, judge_place, may_follow, with_weight}
use Rattle.job_format.specs.declared.fault.JobFault.{JobFault}
use Rattle.job_format.specs.declared.item.Item.{Item}
use Rattle.job_format.specs.declared.place.HeadNumbers.{HeadNumbers}
use Rattle.job_format.specs.declared.place.HeadStep.{HeadStep}
use Rattle.job_format.specs.declared.place.HeadStep.TheVariants as steps
use Rattle.job_format.specs.declared.place.Kind.{Kind}
use Rattle.job_format.specs.declared.place.Kind.TheVariants as kinds
use Rattle.job_format.specs.declared.place.Place.{Place}
use Rattle.job_format.specs.declared.place.Place.TheVariants.{Head, Count, Key, Weight, ReplayEnd, Solve, SolveEnd}
use Rattle.job_format.specs.declared.place.SolveNumbers.{SolveNumbers}
use Rattle.job_format.specs.declared.place.SolveStep.{SolveStep}
use Rattle.job_format.specs.declared.place.SolveStep.TheVariants as solves
use Rattle.job_format.specs.declared.place.Tally.{Tally}
use Rattle.job_format.proofs.Judged.{choice_led, led, right_led}

-- so many items are left, and all together are within the limits
pub record Tallies (tally : Tally) (left : ℕ) (items : List Item) : Type 0 where
  pub count : tally.items ≡ length items + left
  pub few : tally.items ≤ item_limit
  pub weight : tally.weight ≡ weight_of items
  pub light : tally.weight ≤ weight_limit

-- what a place says of the items so far
abbrev pub Counts : Place → List Item → Type 0
Counts (Head step h) items = items ≡ []
Counts (Count h tally) items = Tallies tally 0 items
Counts (Key h tally left) items = (1 ≤ left) × Tallies tally left items
Counts (Weight h tally left key) items = (1 ≤ left) × Tallies tally left items
Counts (ReplayEnd h tally) items = Tallies tally 0 items
Counts (Solve step n) items = items ≡ []
Counts (SolveEnd n) items = items ≡ []

module _ (items : List Item) where
  same : (t : Place) → Counts t items → Counts t (items ++ [])
  same t is = subst (λ (l : List Item). Counts t l) (sym (append-nil items)) is

  -- behind a field of the head there are none
  behind : (h : HeadNumbers) (kind : Kind) → items ≡ [] → Counts (behind_number h kind) items
  behind h kinds.Replay none = none
  behind h kinds.Solve none = none

  head_on : (step : HeadStep) (h : HeadNumbers) (t : Place) (b : List ℕ) → items ≡ []
      → judge_place (Head step h) b ≡ Ok t
      → Counts t items
  unfolding judge_place
  head_on steps.Magic h t b none ok = right_led (λ p. Counts p items) _ _ _ t (λ e. none) ok
  head_on steps.Version h t b none ok = right_led (λ p. Counts p items) _ _ _ t (λ e. none) ok
  head_on steps.Kind h t b none ok = right_led (λ p. Counts p items) _ _ _ t (λ e. none) ok
  head_on steps.Number h t b none ok =
      led (λ p. Counts p items) (behind_number (record h { job = little_number 4 b }) h.kind) t
      (behind (record h { job = little_number 4 b }) h.kind none) ok
  head_on steps.Levels h t b none ok = right_led (λ p. Counts p items) _ _ _ t (λ e. none) ok
  head_on steps.Rows h t b none ok = right_led (λ p. Counts p items) _ _ _ t (λ e. none) ok
  head_on steps.Width h t b none ok = right_led (λ p. Counts p items) _ _ _ t (λ e. none) ok
  head_on steps.Heap h t b none ok = right_led (λ p. Counts p items) _ _ _ t (λ e. none) ok
  head_on steps.Seed h t b none ok =
      led (λ p. Counts p items) (Count (record h { seed = little_number 8 b }) (record { items = 0; weight = 0 })) t
      (record {
        count = omega (arith, ap length none);
        few = omega arith;
        weight = ap weight_of (sym none);
        light = omega arith;
      }) ok

  -- a frame is begun where its items fit
  frame_fits : (tally : Tally) (count : ℕ) → may_follow tally count ≡ true → tally.items + count ≤ item_limit
  frame_fits tally count follows = grind (arith, nat_tests)

  some_left : (count : ℕ) → (count == 0) ≡ false → 1 ≤ count
  some_left count some = grind (arith, nat_tests)

  count_on : (h : HeadNumbers) (tally : Tally) (t : Place) (b : List ℕ) → Tallies tally 0 items
      → judge_place (Count h tally) b ≡ Ok t → Counts t items
  unfolding judge_place
  count_on h tally t b is ok =
      choice_led (λ p. Counts p items) (little_number 2 b == 0) (Ok (ReplayEnd h tally)) _ t
      (λ e right. led (λ p. Counts p items) (ReplayEnd h tally) t is right)
      (λ e right. right_led (λ p. Counts p items) _ _ _ t (λ follows. (
        some_left (little_number 2 b) e,
        record {
          count = omega (arith, is.count);
          few = frame_fits tally (little_number 2 b) follows;
          weight = is.weight;
          light = is.light;
        },
      )) right) ok

  -- an item more
  one_more : (tally : Tally) (left : ℕ) (key : List ℕ) (weight : ℕ) → 1 ≤ left → Tallies tally left items
      → tally.weight + weight ≤ weight_limit
      → Tallies (with_weight tally weight) (left - 1) (items ++ record { key = key; weight = weight } ∷ [])
  one_more tally left key weight some is light = record {
    count = omega (arith, some, is.count, length-append items (record { key = key; weight = weight } ∷ []));
    few = is.few;
    weight =
        ap (λ (n : ℕ). n + weight) is.weight
        ∙ omega (arith, sum_by-append (λ (i : Item). i.weight) items (record { key = key; weight = weight } ∷ []));
    light = light;
  }

  item_on : (last : Bool) (h : HeadNumbers) (tally : Tally) (left : ℕ) (more : List Item) → nat_le left 1 ≡ last
      → 1 ≤ left
      → Tallies tally (left - 1) more → Counts (if last then Count h tally else Key h tally (left - 1)) more
  item_on true h tally left more end some is =
      let none : left - 1 ≡ 0 = grind (arith, nat_tests) in subst (λ (n : ℕ). Tallies tally n more) none is
  item_on false h tally left more end some is = ((let on : 1 ≤ left - 1 = grind (arith, nat_tests) in on), is)

  light_of : (n : ℕ) → nat_le n weight_limit ≡ true → n ≤ weight_limit
  light_of n is = grind (arith, nat_tests)

  weight_on : (h : HeadNumbers) (tally : Tally) (left : ℕ) (key : List ℕ) (t : Place) (b : List ℕ)
      → ((1 ≤ left) × Tallies tally left items) → judge_place (Weight h tally left key) b ≡ Ok t
      → Counts t (items ++ record { key = key; weight = little_number 4 b } ∷ [])
  unfolding judge_place
  weight_on h tally left key t b is ok =
      let more : List Item = items ++ record { key = key; weight = little_number 4 b } ∷ [] in
      right_led (λ p. Counts p more) _ _ _ t (λ light. item_on (nat_le left 1) h (with_weight tally (little_number 4 b))
      left
      more refl is.0 (one_more tally left key (little_number 4 b) is.0 is.1 (light_of _ light))) ok

  key_on : (h : HeadNumbers) (tally : Tally) (left : ℕ) (t : Place) (b : List ℕ)
      → ((1 ≤ left) × Tallies tally left items)
      → judge_place (Key h tally left) b ≡ Ok t → Counts t items
  unfolding judge_place
  key_on h tally left t b is ok = right_led (λ p. Counts p items) _ _ _ t (λ e. is) ok

  need_done : (done : Bool) (x y : SolveNumbers) → items ≡ []
      → Counts (if done then SolveEnd x else Solve solves.Load y) items
  need_done true x y none = none
  need_done false x y none = none

  hop_done : (last : Bool) (p : Place) (y : SolveNumbers) → Counts p items → items ≡ []
      → Counts (if last then p else Solve solves.Hop y) items
  hop_done true p y is none = is
  hop_done false p y is none = none

  site_done : (last : Bool) (x y : SolveNumbers) → items ≡ []
      → Counts (if last then Solve solves.Needs x else Solve solves.Site y) items
  site_done true x y none = none
  site_done false x y none = none

  solve_on : (step : SolveStep) (n : SolveNumbers) (t : Place) (b : List ℕ) → items ≡ []
      → judge_place (Solve step n) b ≡ Ok t
      → Counts t items
  unfolding judge_place
  solve_on solves.Nodes n t b none ok = right_led (λ p. Counts p items) _ _ _ t (λ e. none) ok
  solve_on solves.Sites n t b none ok = right_led (λ p. Counts p items) _ _ _ t (λ e. none) ok
  solve_on solves.Site n t b none ok =
      led (λ p. Counts p items) (behind_site n) t (site_done (nat_le n.sites_left 1) _ _ none) ok
  solve_on solves.Needs n t b none ok = right_led (λ p. Counts p items) _ _ _ t (λ e. none) ok
  solve_on solves.Load n t b none ok = right_led (λ p. Counts p items) _ _ _ t (λ e. none) ok
  solve_on solves.Hops n t b none ok = right_led (λ p. Counts p items) _ _ _ t (λ e. none) ok
  solve_on solves.Hop n t b none ok =
      right_led (λ p. Counts p items) _ _ _ t
      (λ e. hop_done (nat_le n.hops_left 1) _ _ (need_done (nat_le n.needs_left 1) _ _ none) none) ok

-- nothing follows a whole job
ended_on : (h : HeadNumbers) (tally : Tally) (t : Place) (b : List ℕ) → judge_place (ReplayEnd h tally) b ≡ Ok t → ⊥
unfolding judge_place
ended_on h tally t b ok = cc

solve_ended : (n : SolveNumbers) (t : Place) (b : List ℕ) → judge_place (SolveEnd n) b ≡ Ok t → ⊥
unfolding judge_place
solve_ended n t b ok = cc

none_within : (items : List Item) → items ≡ [] → (weight_of items ≤ weight_limit) × (length items ≤ item_limit)
none_within items none = (omega (arith, ap weight_of none), omega (arith, ap length none))

counts_on : (s t : Place) (b : List ℕ) (items : List Item) → Counts s items → judge_place s b ≡ Ok t
    → Counts t (items ++ item_gives s b)
unfolding item_gives
counts_on (Head step h) t b items is ok = same items t (head_on items step h t b is ok)
counts_on (Count h tally) t b items is ok = same items t (count_on items h tally t b is ok)
counts_on (Key h tally left) t b items is ok = same items t (key_on items h tally left t b is ok)
counts_on (Weight h tally left key) t b items is ok = weight_on items h tally left key t b is ok
counts_on (ReplayEnd h tally) t b items is ok = absurd (ended_on h tally t b ok)
counts_on (Solve step n) t b items is ok = same items t (solve_on items step n t b is ok)
counts_on (SolveEnd n) t b items is ok = absurd (solve_ended n t b ok)

-- wherever bytes lead, the place says how many items they gave
pub counted : (place : Place) (bytes part : List ℕ) → reached job_format (At job_start []) bytes ≡ At place part
    → Counts place (items_in bytes)
counted place bytes part leads =
    yields_keep job_format item_gives Counts (λ s t field so_far is ok. counts_on s t field so_far is ok) job_start
    place part
    bytes refl leads

-- so they are within the limits of a job
pub within_limits : (place : Place) (items : List Item) → Counts place items
    → (weight_of items ≤ weight_limit) × (length items ≤ item_limit)
within_limits (Head step h) items is = none_within items is
within_limits (Count h tally) items is = (omega (arith, is.weight, is.light), omega (arith, is.count, is.few))
within_limits (Key h tally left) items is = (
  omega (arith, is.1.weight, is.1.light),
  omega
      (arith, is.1.count, is.1.few),
)
within_limits (Weight h tally left key) items is = (
  omega (arith, is.1.weight, is.1.light),
  omega
      (arith, is.1.count, is.1.few),
)
within_limits (ReplayEnd h tally) items is = (omega (arith, is.weight, is.light), omega (arith, is.count, is.few))
within_limits (Solve step n) items is = none_within items is
within_limits (SolveEnd n) items is = none_within items is
