-- Prices, from the tests that a tree and a node passed.
use Rattle.std.proofs.Common.{◌≡◌, ℕ, ◌-◌, ◌≤◌, ◌<◌, ◌^◌, Bool, true, false, cond, ◌==◌, ◌&&◌, List, length, Option, None, Some, refl, arith}
use Rattle.std.specs.Prelude.{nat_lt, nat_le, not}
use Rattle.std.specs.List.{All}
use Rattle.std.specs.Option.{option_map}
use Rattle.std.proofs.lemmas.Bool.{and_parts, eqb-true, ltb-true}
use Rattle.std.proofs.lemmas.List.Sums.{AllPass-from_list_all}
use Rattle.bound_certificate.specs.Problem.{Problem, site_count, need_count}
use Rattle.bound_certificate.specs.Placement.{AreChoices}
use Rattle.bound_certificate.specs.Node.{DualPart, is_over, is_dual_shape, dual_breach, dual_fault, node_fault}
use Rattle.bound_certificate.specs.declared.verdict.TreeWhy.TheVariants.{IsOver, Depth, DualShape, DualSum}
use Rattle.bound_certificate.specs.Prices.{ArePrices}
use Rattle.bound_certificate.specs.Formed.{are_prices, is_formed_part}

all_small : (xs : List ℕ) → are_prices xs ≡ true → All (λ x. x < 2 ^ 56) xs
all_small xs are k d below = ltb-true _ _ (AllPass-from_list_all (λ x. nat_lt x (2 ^ 56)) xs are k d below)

pub prices_from : (p : Problem) (cs lambda mu : List ℕ) → length cs ≤ need_count p
    → is_dual_shape p cs lambda mu ≡ true → are_prices lambda ≡ true → are_prices mu ≡ true → ArePrices p cs lambda mu
unfolding is_dual_shape
prices_from p cs lambda mu few shape small_lambda small_mu =
    let parts = and_parts (length lambda == need_count p - length cs) (length mu == site_count p) shape in
    let size : length lambda ≡ need_count p - length cs = eqb-true (length lambda) (need_count p - length cs) parts.0 in
    record {
      lambdas = omega (arith, size, few);
      mus = eqb-true (length mu) (site_count p) parts.1;
      small_lambdas = all_small lambda small_lambda;
      small_mus = all_small mu small_mu;
    }

-- the prices of a dual within the limits
pub are_prices-Dual : (d : ℕ) (lambda mu : List ℕ) → is_formed_part d (DualPart lambda mu) ≡ true
    → (are_prices lambda ≡ true) × (are_prices mu ≡ true)
are_prices-Dual d lambda mu formed =
    let outer = and_parts (nat_le (length lambda) 64 && nat_le (length mu) 32 && are_prices lambda)
    (are_prices mu) formed in
    let inner = and_parts (nat_le (length lambda) 64 && nat_le (length mu) 32) (are_prices lambda) outer.0 in
    (inner.1, outer.1)

-- a test that is not passed
pub if_none : {X : Type 0} (b : Bool) (z : X) (y : Option X) → cond b (Some z) y ≡ None → (b ≡ false) × (y ≡ None)
if_none true z y h = cc
if_none false z y h = (refl, h)

pub if_not : (b : Bool) → not b ≡ false → b ≡ true
if_not true h = refl
if_not false h = cc

-- a dual without a fault has its shape
dual_fault-shape : (p : Problem) (cs lambda mu : List ℕ) → dual_fault p cs lambda mu ≡ None
    → is_dual_shape p cs lambda mu ≡ true
unfolding dual_fault
dual_fault-shape p cs lambda mu right =
    let breach = option_map DualSum (dual_breach p cs lambda mu) in
    let outer = if_none (length cs == need_count p) Depth
    (cond (not (is_dual_shape p cs lambda mu)) (Some DualShape) breach) right in
    let inner = if_none (not (is_dual_shape p cs lambda mu)) DualShape breach outer.1 in
    if_not (is_dual_shape p cs lambda mu) inner.0

pub dual_prices : (p : Problem) (cs lambda mu : List ℕ) → AreChoices p cs
    → is_formed_part (length cs) (DualPart lambda mu) ≡ true → node_fault p cs (DualPart lambda mu) ≡ None
    → ArePrices p cs lambda mu
unfolding node_fault
dual_prices p cs lambda mu choices formed right =
    let prices = are_prices-Dual (length cs) lambda mu formed in
    let inner = if_none (is_over p cs) IsOver (dual_fault p cs lambda mu) right in
    prices_from p cs lambda mu choices.few (dual_fault-shape p cs lambda mu inner.1) prices.0 prices.1
