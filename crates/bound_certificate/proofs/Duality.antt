-- Weak duality at one node: what no placement that goes on from it can beat.
use Rattle.std.proofs.Common.{◌≡◌, ℕ, zero, suc, zero-mul, ◌+◌, ◌-◌, ◌*◌, ◌≤◌, ◌<◌, Bool, true, false, cond, ◌==◌, List, length, slice_index, Option, None, Some, pos, ◌≤ℤ◌, inl, inr, refl, sym, ◌∙◌, ap, subst, arith}
use Rattle.std.proofs.lemmas.Bool.{cases_Bool, ltb-false, le-ltb, eqb-true}
use Rattle.std.proofs.lemmas.Int.{ints}
use Rattle.std.proofs.lemmas.List.Folds.{list_any_at}
use Rattle.std.proofs.lemmas.Nat.{mul-le}
use Rattle.bound_certificate.specs.Sums.{sum_below, first_below, has}
use Rattle.bound_certificate.specs.Problem.{Problem, site_count, need_count, capacity, opening, load, via}
use Rattle.bound_certificate.specs.Placement.{given_by, given, opened_by, opened, service, served_by, cost}
use Rattle.bound_certificate.specs.Node.{is_reached, named_by, named_load, reached_capacity_by, reached_capacity, reached_given_by, reached_given, is_crowded, excess, dual_sum, dual_limit, is_breached, dual_breach, priced_given_by, priced_capacity_by, dual_credit, dual_debit, dual_value}
use Rattle.std.specs.Option.{option_or}
use Rattle.bound_certificate.proofs.Below.{below_or_last}
use Rattle.bound_certificate.proofs.Sums.{sum_below-le, sum_below-same, sum_below-plus, sum_below-zero, sum_below-times, sum_below-split, sum_below-swap, sum-index}
use Rattle.bound_certificate.proofs.Fitting.{IsFitting, Extends, has-place, has-from, has-extends, given-extends, given-whole, served-extends, served-whole}

cond_times : (b : Bool) (x k : ℕ) → cond b x 0 * k ≡ cond b (x * k) 0
cond_times true x k = refl
cond_times false x k = zero-mul k

-- the load given to the sites, each at its weight, is that of the needs at the weights of their choices
weighted : (p : Problem) (qs : List ℕ) (w : ℕ → ℕ) (m : ℕ) → ((i : ℕ) → i < m → slice_index qs i < site_count p)
    → sum_below (λ s. sum_below (given_by p qs s) m * w s) (site_count p) ≡ sum_below
    (λ i. load p i * w (slice_index qs i)) m
unfolding given_by
weighted p qs w m known =
    let swapped = sum_below-swap (λ i s. load p i * w s) (λ i. slice_index qs i) (site_count p) m known in
    let each = sum_below-same (λ s. sum_below (given_by p qs s) m * w s)
    (λ s. sum_below (λ i. cond (slice_index qs i == s) (load p i * w s) 0) m) (site_count p) (λ s below.
    sym (sum_below-times (given_by p qs s) (w s) m)
    ∙ sum_below-same (λ i. given_by p qs s i * w s) (λ i. cond (slice_index qs i == s) (load p i * w s) 0) m
    (λ i small. cond_times (slice_index qs i == s) (load p i) (w s))) in
    each ∙ sym swapped

-- the needs whose choice is at or behind depth d, apart from those before it
pub split_needs : (p : Problem) (cs qs : List ℕ) (f : ℕ → ℕ) → IsFitting p qs → Extends cs qs
    → sum_below f (need_count p) ≡ sum_below f (length cs) + sum_below (λ j. f (length cs + j))
    (need_count p - length cs)
split_needs p cs qs f fit extends =
    let whole : length cs + (need_count p - length cs) ≡ need_count p = omega (arith, fit.size, extends.few) in
    sym (ap (sum_below f) whole) ∙ sum_below-split f (length cs) (need_count p - length cs)

-- what the choices give to the sites at weights, and what the placement gives
pub weighted_choices : (p : Problem) (cs qs : List ℕ) (w : ℕ → ℕ) → IsFitting p qs → Extends cs qs
    → sum_below (λ s. given p cs s * w s) (site_count p) ≡ sum_below (λ i. load p i * w (slice_index qs i)) (length cs)
weighted_choices p cs qs w fit extends =
    sum_below-same (λ s. given p cs s * w s) (λ s. sum_below (given_by p qs s) (length cs) * w s) (site_count p)
    (λ s below. ap (λ (x : ℕ). x * w s) (given-extends p cs qs s extends))
    ∙ weighted p qs w (length cs) (λ i below. fit.known i (omega (arith, fit.size, extends.few)))

times_le : (a b k : ℕ) → a ≤ b → a * k ≤ b * k
times_le a b k h = mul-le a k b k h (omega arith)

-- at most the capacity at those weights
pub weighted_room : (p : Problem) (qs : List ℕ) (w : ℕ → ℕ) → IsFitting p qs
    → sum_below (λ i. load p i * w (slice_index qs i)) (need_count p) ≤ sum_below (λ s. capacity p s * w s)
    (site_count p)
weighted_room p qs w fit =
    let given_all = weighted p qs w (need_count p) fit.known in
    let within = sum_below-le (λ s. sum_below (given_by p qs s) (need_count p) * w s) (λ s. capacity p s * w s)
    (site_count p) (λ s below.
    let room : sum_below (given_by p qs s) (need_count p) ≤ capacity p s =
    subst (λ (k : ℕ). sum_below (given_by p qs s) k ≤ capacity p s) fit.size
    (subst (λ (x : ℕ). x ≤ capacity p s) (given-whole p qs s) (fit.room s below)) in
    times_le (sum_below (given_by p qs s) (need_count p)) (capacity p s) (w s) room) in
    omega (arith, given_all, within)

-- a site that a named need's choice is, is reached
reached_by : (p : Problem) (names : List ℕ) (i s : ℕ) → has names i ≡ true → has (via p i) s ≡ true
    → is_reached p names s ≡ true
unfolding is_reached
reached_by p names i s named stands =
    let place = has-place names i named in
    list_any_at (λ i. has (via p i) s) names place.0 0 place.1.within
    (ap (λ (i : ℕ). has (via p i) s) place.1.is ∙ stands)

weight : Problem → List ℕ → ℕ → ℕ
weight p names s = cond {A = ℕ} (is_reached p names s) 1 0

cond_weight : (b : Bool) (x : ℕ) → cond b x 0 ≡ x * cond {A = ℕ} b 1 0
cond_weight true x = omega arith
cond_weight false x = omega arith

unnamed : (p : Problem) (cs names : List ℕ) (i : ℕ) → ((i : ℕ) → has names i ≡ true → length cs ≤ i) → i < length cs
    → named_by p names i ≡ 0
unfolding named_by
unnamed p cs names i later below = elim (cases_Bool (has names i)) [
  | inl named ↦ absurd (omega (arith, later i named))
  | inr misses ↦ ap (λ (b : Bool). cond {A = ℕ} b (load p i) 0) misses
]

named_le : (p : Problem) (qs names : List ℕ) → IsFitting p qs → (i : ℕ) → i < need_count p
    → named_by p names i ≤ load p i * weight p names (slice_index qs i)
unfolding named_by weight
named_le p qs names fit i below = elim (cases_Bool (has names i)) [
  | inl named ↦
      let value = ap (λ (b : Bool). cond {A = ℕ} b (load p i) 0) named in
      let reached = reached_by p names i (slice_index qs i) named (fit.chosen i below) in
      let heavy = ap (λ (b : Bool). load p i * cond {A = ℕ} b 1 0) reached in
      omega (arith, value, heavy)
  | inr misses ↦
      let value = ap (λ (b : Bool). cond {A = ℕ} b (load p i) 0) misses in
      omega (arith, value)
]

-- needs from depth d on are no more than what their sites have left
pub not_crowded : (p : Problem) (cs qs names : List ℕ) → IsFitting p qs → Extends cs qs
    → ((i : ℕ) → has names i ≡ true → length cs ≤ i) → is_crowded p cs names ≡ false
unfolding is_crowded named_load named_by reached_capacity reached_capacity_by reached_given reached_given_by weight
not_crowded p cs qs names fit extends later =
    let w = weight p names in
    let x : ℕ → ℕ = λ i. load p i * w (slice_index qs i) in
    let capacities = sum_below-same (reached_capacity_by p names) (λ s. capacity p s * w s) (site_count p)
    (λ s below. cond_weight (is_reached p names s) (capacity p s)) in
    let givens = sum_below-same (reached_given_by p cs names) (λ s. given p cs s * w s) (site_count p)
    (λ s below. cond_weight (is_reached p names s) (given p cs s)) in
    let chosen = weighted_choices p cs qs w fit extends in
    let room = weighted_room p qs w fit in
    let parts = split_needs p cs qs x fit extends in
    let named_parts = split_needs p cs qs (named_by p names) fit extends in
    let before = sum_below-zero (named_by p names) (length cs) (λ i below. unnamed p cs names i later below) in
    let after = sum_below-le (λ j. named_by p names (length cs + j)) (λ j. x (length cs + j))
    (need_count p - length cs) (λ j below. named_le p qs names fit (length cs + j) (omega arith)) in
    le-ltb (reached_capacity p names) (named_load p names + reached_given p cs names)
    (omega (arith, capacities, givens, chosen, room, parts, named_parts, before, after))

both_none : (found : Option ℕ) (b : Bool) (n : ℕ) → option_or found (cond b (Some n) None) ≡ None
    → (found ≡ None) × (b ≡ false)
both_none None true n none = cc
both_none None false n none = (refl, refl)
both_none (Some x) b n none = cc

-- a sum that no site's breaches is within the site's limit
first_below_none : (test : ℕ → Bool) (n i : ℕ) → first_below test n ≡ None → i < n → test i ≡ false
first_below_none test zero i none below = absurd (omega arith)
first_below_none test (suc n) i none below =
    let parts = both_none (first_below test n) (test n) n none in
    elim (below_or_last i n below) [
      | inl lower ↦ first_below_none test n i parts.0 lower
      | inr same ↦ subst (λ (k : ℕ). test k ≡ false) (sym same) parts.1
    ]

within_limit : (p : Problem) (cs lambda mu : List ℕ) (s : ℕ) → dual_breach p cs lambda mu ≡ None → s < site_count p
    → dual_sum p cs lambda mu s ≤ dual_limit p cs s
unfolding dual_breach is_breached
within_limit p cs lambda mu s none below =
    ltb-false (dual_limit p cs s) (dual_sum p cs lambda mu s)
    (first_below_none (is_breached p cs lambda mu) (site_count p) s none below)

-- a site that no choice is
elsewhere : (qs : List ℕ) (s i : ℕ) → has qs s ≡ false → i < length qs → (slice_index qs i == s) ≡ false
elsewhere qs s i misses below = elim (cases_Bool (slice_index qs i == s)) [
  | inl same ↦
      let stands = has-from qs s i (record { within = below; is = eqb-true (slice_index qs i) s same }) in
      cc
  | inr differs ↦ differs
]

not_before : (cs qs : List ℕ) (s : ℕ) → Extends cs qs → has qs s ≡ false → has cs s ≡ false
not_before cs qs s extends misses = elim (cases_Bool (has cs s)) [
  | inl chosen ↦ let used = has-extends cs qs s extends chosen in cc
  | inr misses ↦ misses
]

-- the excess of the later needs at one site, where they chose it
at_site : Problem → List ℕ → List ℕ → List ℕ → List ℕ → ℕ → ℕ → ℕ
at_site p cs qs lambda mu s j = cond (slice_index qs (length cs + j) == s) (excess p cs lambda mu s j) 0

cond_le : (b : Bool) (x : ℕ) → cond b x 0 ≤ x
cond_le true x = omega arith
cond_le false x = omega arith

at_site-le : (p : Problem) (cs qs lambda mu : List ℕ) (s : ℕ)
    → sum_below (at_site p cs qs lambda mu s) (length lambda) ≤ dual_sum p cs lambda mu s
unfolding at_site dual_sum
at_site-le p cs qs lambda mu s =
    sum_below-le (at_site p cs qs lambda mu s) (excess p cs lambda mu s) (length lambda)
    (λ j below. cond_le (slice_index qs (length cs + j) == s) (excess p cs lambda mu s j))

-- none where the placement does not use the site
at_site-none : (p : Problem) (cs qs lambda mu : List ℕ) (s : ℕ) → length cs + length lambda ≡ length qs
    → has qs s ≡ false → sum_below (at_site p cs qs lambda mu s) (length lambda) ≡ 0
unfolding at_site
at_site-none p cs qs lambda mu s size misses =
    sum_below-zero (at_site p cs qs lambda mu s) (length lambda) (λ j below.
    let differs : (slice_index qs (length cs + j) == s) ≡ false = elsewhere qs s (length cs + j) misses (omega arith) in
    ap (λ (b : Bool). cond {A = ℕ} b (excess p cs lambda mu s j) 0) differs)

-- the excesses at a site are within what the placement opens there and the choices do not
site_opened : (p : Problem) (cs qs lambda mu : List ℕ) (s : ℕ) → Extends cs qs → length cs + length lambda ≡ length qs
    → dual_sum p cs lambda mu s ≤ dual_limit p cs s
    → sum_below (at_site p cs qs lambda mu s) (length lambda) + opened_by p cs s ≤ opened_by p qs s
unfolding opened_by dual_limit
site_opened p cs qs lambda mu s extends size within = elim (cases_Bool (has qs s)) [
  | inl used ↦
      let all = ap (λ (b : Bool). cond {A = ℕ} b (opening p s) 0) used in
      let part = at_site-le p cs qs lambda mu s in
      elim (cases_Bool (has cs s)) [
        | inl chosen ↦
            let before = ap (λ (b : Bool). cond {A = ℕ} b (opening p s) 0) chosen in
            let limit = ap (λ (b : Bool). cond {A = ℕ} b 0 (opening p s)) chosen in
            omega (arith, all, part, before, limit, within)
        | inr misses ↦
            let before = ap (λ (b : Bool). cond {A = ℕ} b (opening p s) 0) misses in
            let limit = ap (λ (b : Bool). cond {A = ℕ} b 0 (opening p s)) misses in
            omega (arith, all, part, before, limit, within)
      ]
  | inr unused ↦
      let all = ap (λ (b : Bool). cond {A = ℕ} b (opening p s) 0) unused in
      let part = at_site-none p cs qs lambda mu s size unused in
      let before = ap (λ (b : Bool). cond {A = ℕ} b (opening p s) 0) (not_before cs qs s extends unused) in
      omega (arith, all, part, before)
]

-- a lambda is at most its need's cost at its choice, at these prices, and the excess there
lambda_le : (p : Problem) (cs qs lambda mu : List ℕ) (j : ℕ) → IsFitting p qs → length cs + j < need_count p →
    slice_index lambda j ≤ excess p cs lambda mu (slice_index qs (length cs + j)) j +
    (served_by p qs (length cs + j) + load p (length cs + j) * slice_index mu (slice_index qs (length cs + j)))
unfolding excess served_by
lambda_le p cs qs lambda mu j fit below =
    let s = slice_index qs (length cs + j) in
    let over = slice_index lambda j - (service p s (length cs + j) + load p (length cs + j) * slice_index mu s) in
    let stands = ap (λ (b : Bool). cond {A = ℕ} b over 0) (fit.chosen (length cs + j) below) in
    omega (arith, stands)

pub dual_le : (p : Problem) (cs qs lambda mu : List ℕ) → IsFitting p qs → Extends cs qs
    → length cs + length lambda ≡ need_count p → dual_breach p cs lambda mu ≡ None
    → dual_credit p cs lambda mu ≤ cost p qs + dual_debit p mu
unfolding dual_credit dual_debit priced_given_by priced_capacity_by cost opened at_site
dual_le p cs qs lambda mu fit extends size none =
    let d = length cs in
    let m = length lambda in
    let c : ℕ → ℕ = λ j. slice_index qs (d + j) in
    let w : ℕ → ℕ = λ s. slice_index mu s in
    let e : ℕ → ℕ = λ j. excess p cs lambda mu (c j) j in
    let v : ℕ → ℕ = λ j. served_by p qs (d + j) in
    let x : ℕ → ℕ = λ j. load p (d + j) * w (c j) in
    let same : need_count p - d ≡ m = omega arith in
    let each = sum_below-le (λ j. slice_index lambda j) (λ j. e j + (v j + x j)) m
    (λ j below. lambda_le p cs qs lambda mu j fit (omega arith)) in
    let sums = sum_below-plus e (λ j. v j + x j) m in
    let inner = sum_below-plus v x m in
    let lambdas = sum-index lambda in
    let swapped = sum_below-swap (λ j s. excess p cs lambda mu s j) c (site_count p) m
    (λ j below. fit.known (d + j) (omega arith)) in
    let opened_more = sum_below-le (λ s. sum_below (at_site p cs qs lambda mu s) m + opened_by p cs s) (opened_by p qs)
    (site_count p) (λ s below.
    site_opened p cs qs lambda mu s extends (omega (arith, fit.size)) (within_limit p cs lambda mu s none below)) in
    let opened_sum = sum_below-plus (λ s. sum_below (at_site p cs qs lambda mu s) m) (opened_by p cs) (site_count p) in
    let served_now = served-extends p cs qs extends in
    let served_all = served-whole p qs ∙ ap (sum_below (served_by p qs)) (fit.size ∙ sym size)
    ∙ sum_below-split (served_by p qs) d m in
    let chosen = weighted_choices p cs qs w fit extends in
    let room = weighted_room p qs w fit in
    let parts = ap (sum_below (λ i. load p i * w (slice_index qs i))) (sym size)
    ∙ sum_below-split (λ i. load p i * w (slice_index qs i)) d m in
    omega (
      arith,
      each,
      sums,
      inner,
      lambdas,
      swapped,
      opened_more,
      opened_sum,
      served_now,
      served_all,
      chosen,
      room,
      parts,
    )

pub dual_below : (p : Problem) (cs qs lambda mu : List ℕ) → dual_credit p cs lambda mu ≤ cost p qs + dual_debit p mu
    → dual_value p cs lambda mu ≤ℤ pos (cost p qs)
unfolding dual_value
dual_below p cs qs lambda mu within = omega (arith, ints)
