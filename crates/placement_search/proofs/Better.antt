-- Costs that are no worse than others, where None is above each number.
use Rattle.std.proofs.Common.{◌≡◌, ℕ, ◌≤◌, Bool, true, false, ◌&&◌, List, [], ◌∷◌, Option, None, Some, ℤ, pos, refl, arith}
use Rattle.std.specs.Prelude.{int_le}
use Rattle.std.specs.List.{list_all}
use Rattle.std.specs.Option.{option_map}
use Rattle.std.specs.Int.{int_min}
use Rattle.std.proofs.lemmas.Bool.{and_parts, leb-true, le-leb}
use Rattle.std.proofs.lemmas.Bool.Decides.{nat_tests}
use Rattle.std.proofs.lemmas.Int.{ints}
use Rattle.bound_certificate.specs.Problem.{Problem}
use Rattle.bound_certificate.specs.Placement.{cost}
use Rattle.bound_certificate.specs.Tree.{Visit, lesser}
use Rattle.bound_certificate.specs.Outcome.{completion, is_no_better, is_beaten, is_tight, is_explored, are_explored}
use Rattle.placement_search.specs.Kept.{reaches}

pub no_better-refl : (a : Option ℕ) → is_no_better a a ≡ true
no_better-refl None = refl
no_better-refl (Some x) = le-leb x x (omega arith)

pub no_better-trans : (a b c : Option ℕ) → is_no_better a b ≡ true → is_no_better b c ≡ true → is_no_better a c ≡ true
no_better-trans a b None first second = refl
no_better-trans a None (Some z) first second = cc
no_better-trans None (Some y) (Some z) first second = cc
no_better-trans (Some x) (Some y) (Some z) first second =
    let lower = leb-true x y first in
    let upper = leb-true y z second in
    le-leb x z (omega arith)

-- what holds under a best cost holds under a better one
pub beaten_better : (p : Problem) (before after : Option ℕ) (cs : List ℕ) → is_no_better after before ≡ true
    → is_beaten p before cs ≡ true → is_beaten p after cs ≡ true
unfolding is_beaten
beaten_better p before after cs better beaten =
    no_better-trans after before (option_map (cost p) (completion p cs)) better beaten

both : (a b : Bool) → a ≡ true → b ≡ true → (a && b) ≡ true
both true b h k = k
both false b h k = cc

pub explored_better : (p : Problem) (before after ceiling : Option ℕ) (vs : List Visit)
    → is_no_better after before ≡ true → are_explored p before ceiling vs ≡ true
    → are_explored p after ceiling vs ≡ true
unfolding are_explored is_explored
explored_better p before after ceiling [] better all = refl
explored_better p before after ceiling (v ∷ vs) better all =
    let parts = and_parts (is_explored p before ceiling v) (list_all (is_explored p before ceiling) vs) all in
    let here = and_parts (is_beaten p before v.choices) (is_tight p ceiling v.choices v.part) parts.0 in
    both (is_explored p after ceiling v) (list_all (is_explored p after ceiling) vs)
    (both (is_beaten p after v.choices) (is_tight p ceiling v.choices v.part)
    (beaten_better p before after v.choices better here.0) here.1)
    (explored_better p before after ceiling vs better parts.1)

le_through : (x y : ℕ) (b : ℤ) → x ≤ y → int_le (pos y) b ≡ true → int_le (pos x) b ≡ true
le_through x y b lower upper = grind (arith, ints, nat_tests)

pub reaches_better : (before after : Option ℕ) (bound : Option ℤ) → is_no_better after before ≡ true
    → reaches before bound ≡ true → reaches after bound ≡ true
reaches_better before after None better reached = refl
reaches_better None after (Some b) better reached = cc
reaches_better (Some y) None (Some b) better reached = cc
reaches_better (Some y) (Some x) (Some b) better reached = le_through x y b (leb-true x y better) reached

-- two bounds that a cost reaches
le_min : (c : ℕ) (x y : ℤ) → int_le (pos c) x ≡ true → int_le (pos c) y ≡ true → int_le (pos c) (int_min x y) ≡ true
le_min c x y one other = grind (arith, ints, nat_tests)

pub reaches_both : (best : Option ℕ) (a b : Option ℤ) → reaches best a ≡ true → reaches best b ≡ true
    → reaches best (lesser a b) ≡ true
reaches_both best None b one other = other
reaches_both best (Some x) None one other = one
reaches_both None (Some x) (Some y) one other = cc
reaches_both (Some c) (Some x) (Some y) one other = le_min c x y one other

-- a cost is at most a bound of its own
pub le_itself : (c d : ℕ) → c ≤ d → int_le (pos c) (pos d) ≡ true
le_itself c d h = grind (arith, ints, nat_tests)
