-- Where the needs are overloaded, all of them together are a crowd at the root.
use Rattle.std.proofs.Common.{◌≡◌, ℕ, zero, suc, add-one, ◌+◌, ◌-◌, ◌<◌, Bool, true, false, cond, ◌||◌, [], ◌∷◌, ◌++◌, length, refl, sym, ◌∙◌, ap, arith}
use Rattle.std.specs.Prelude.{nat_lt}
use Rattle.std.specs.List.{list_any, range_with_len}
use Rattle.std.proofs.lemmas.List.Folds.{list_any-append}
use Rattle.std.proofs.Math.Bool.{or-false}
use Rattle.bound_certificate.specs.Sums.{sum_below, any_below, has}
use Rattle.bound_certificate.specs.Problem.{Problem, site_count, need_count, capacity, load, via}
use Rattle.bound_certificate.specs.Placement.{given}
use Rattle.bound_certificate.specs.Node.{later, is_reached, named_by, named_load, reached_capacity_by, reached_capacity, reached_given_by, reached_given, is_crowded}
use Rattle.bound_certificate.proofs.Below.{range_with_len-more}
use Rattle.bound_certificate.proofs.Sums.{sum_below-same, sum_below-zero}
use Rattle.bound_certificate.proofs.Fitting.{has-from}
use Rattle.placement_search.specs.Overload.{is_named, named_capacity, is_overloaded}
use Rattle.placement_search.proofs.Leaves.{later_at, length-later}

-- a test over the first numbers
any_first : (test : ℕ → Bool) (n : ℕ) → list_any test (range_with_len 0 n) ≡ any_below test n
any_first test zero = refl
any_first test (suc n) =
    let last : 0 + n ≡ n = omega arith in
    let more : range_with_len 0 (suc n) ≡ range_with_len 0 n ++ n ∷ [] =
    rw add-one at (range_with_len-more 0 n) ∙ ap (λ (k : ℕ). range_with_len 0 n ++ k ∷ []) last in
    ap (list_any test) more ∙ list_any-append test (range_with_len 0 n) (n ∷ [])
    ∙ ap (λ (b : Bool). b || (test n || false)) (any_first test n)
    ∙ ap (λ (b : Bool). any_below test n || b) (or-false (test n))

all_later : (p : Problem) → later p 0 ≡ range_with_len 0 (need_count p)
unfolding later
all_later p = let none : need_count p - 0 ≡ need_count p = omega arith in ap (range_with_len 0) none

reached_named : (p : Problem) (s : ℕ) → is_reached p (later p 0) s ≡ is_named p s
unfolding is_reached is_named
reached_named p s = ap (list_any (λ i. has (via p i) s)) (all_later p) ∙ any_first (λ i. has (via p i) s) (need_count p)

is_later : (p : Problem) (i : ℕ) → i < need_count p → has (later p 0) i ≡ true
is_later p i below =
    let within : i < length (later p 0) = omega (arith, length-later p 0) in
    let same : 0 + i ≡ i = omega arith in
    has-from (later p 0) i i (record { within = within; is = later_at p 0 i (omega arith) ∙ same })

all_load : (p : Problem) → named_load p (later p 0) ≡ sum_below (load p) (need_count p)
unfolding named_load named_by
all_load p = sum_below-same (named_by p (later p 0)) (load p) (need_count p)
    (λ i below. ap (λ (b : Bool). cond {A = ℕ} b (load p i) 0) (is_later p i below))

all_capacity : (p : Problem) → reached_capacity p (later p 0) ≡ sum_below (named_capacity p) (site_count p)
unfolding reached_capacity reached_capacity_by named_capacity
all_capacity p = sum_below-same (reached_capacity_by p (later p 0)) (named_capacity p) (site_count p)
    (λ s below. ap (λ (b : Bool). cond {A = ℕ} b (capacity p s) 0) (reached_named p s))

none_or_none : (b : Bool) → cond {A = ℕ} b 0 0 ≡ 0
none_or_none true = refl
none_or_none false = refl

nothing_given : (p : Problem) → reached_given p [] (later p 0) ≡ 0
unfolding reached_given reached_given_by given
nothing_given p = sum_below-zero (reached_given_by p [] (later p 0)) (site_count p)
    (λ s below. none_or_none (is_reached p (later p 0) s))

pub overloaded : (p : Problem) → is_overloaded p ≡ is_crowded p [] (later p 0)
unfolding is_overloaded is_crowded
overloaded p =
    let load_is : sum_below (load p) (need_count p) ≡ named_load p (later p 0) + reached_given p [] (later p 0) =
    omega (arith, all_load p, nothing_given p) in
    ap (λ (k : ℕ). nat_lt (sum_below (named_capacity p) (site_count p)) k) load_is
    ∙ ap (λ (k : ℕ). nat_lt k (named_load p (later p 0) + reached_given p [] (later p 0))) (sym (all_capacity p))
