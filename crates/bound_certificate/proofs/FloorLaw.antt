-- The floor never falls on the way down, so that a tree's bound is at least its root's floor.
use Rattle.std.proofs.Common.{◌≡◌, ℕ, zero, suc, ◌+◌, ◌-◌, ◌≤◌, ◌<◌, Bool, true, false, cond, ◌==◌, ◌||◌, ◌⊎◌, inl, inr, min, List, [], ◌∷◌, ◌++◌, length, map, slice_index, Option, None, Some, ℤ, pos, ◌≤ℤ◌, refl, sym, ◌∙◌, ap, subst, arith, length-append}
use Rattle.std.specs.Prelude.{fold, int_le, nat_lt}
use Rattle.std.specs.Int.{int_min}
use Rattle.std.specs.List.{AllByRecursion, list_any}
use Rattle.std.proofs.lemmas.Bool.{and_parts, ltb-false}
use Rattle.std.proofs.lemmas.Bool.Decides.{nat_tests}
use Rattle.std.proofs.lemmas.Int.{ints}
use Rattle.std.proofs.lemmas.List.{get_or_append_left, get_or_push}
use Rattle.std.proofs.lemmas.List.Folds.{list_any-append}
use Rattle.bound_certificate.specs.Sums.{sum_below, has}
use Rattle.bound_certificate.specs.Limits.{IsWithin}
use Rattle.bound_certificate.specs.Problem.{Problem, site_count, need_count, opening, via}
use Rattle.bound_certificate.specs.Placement.{opened_by, opened, service, served_by, served, cost, AreChoices}
use Rattle.bound_certificate.specs.Node.{Part, BranchPart, OverPart, HallPart, DualPart, FullPart, is_over, dual_limit, dual_value, full_fault, node_fault}
use Rattle.bound_certificate.specs.Floor.{least_by, need_price, floor_by, floor}
use Rattle.bound_certificate.specs.Bound.{IsAtLeast}
use Rattle.bound_certificate.specs.Tree.{part_of, children_of, child_choices, below, visits, first_fault, part_value, lesser, bound_of}
use Rattle.bound_certificate.specs.Outcome.{is_beaten, is_tight, is_explored, are_explored}
use Rattle.bound_certificate.specs.declared.tree.Tree.{Tree}
use Rattle.bound_certificate.specs.declared.verdict.TreeWhy.TheVariants.{IsOver, Depth}
use Rattle.bound_certificate.proofs.Prices.{if_none}
use Rattle.bound_certificate.proofs.Trees.{visits-out, fan, fan-part_of, tree_induction}
use Rattle.bound_certificate.proofs.Verdicts.{first_fault-append, bound_of-append}
use Rattle.bound_certificate.proofs.Nodes.{branch_right, none_first, node_is_right, has-at, choices_more}
use Rattle.bound_certificate.proofs.Exploring.{are_explored-out, are_explored-append}
use Rattle.bound_certificate.proofs.Fitting.{via-known}
use Rattle.bound_certificate.proofs.Known.{has-below}
use Rattle.bound_certificate.proofs.Sums.{sum_below-le, sum_below-same, sum_below-plus, sum_below-pick, sum_below-first}

-- the least of a list
fold_start : (f : ℕ → ℕ) (a : ℕ) (xs : List ℕ) → fold (λ least x. min least (f x)) a xs ≤ a
fold_start f a [] = omega arith
fold_start f a (x ∷ xs) = omega (arith, fold_start f (min a (f x)) xs)

fold_at : (f : ℕ → ℕ) (a : ℕ) (xs : List ℕ) (n : ℕ) → n < length xs
    → fold (λ least x. min least (f x)) a xs ≤ f (slice_index xs n)
fold_at f a [] n within = absurd (omega arith)
fold_at f a (x ∷ xs) zero within = omega (arith, fold_start f (min a (f x)) xs)
fold_at f a (x ∷ xs) (suc n) within = fold_at f (min a (f x)) xs n (omega arith)

fold_le : (f g : ℕ → ℕ) (a b : ℕ) (xs : List ℕ) → a ≤ b → ((x : ℕ) → f x ≤ g x)
    → fold (λ least x. min least (f x)) a xs ≤ fold (λ least x. min least (g x)) b xs
fold_le f g a b [] start each = start
fold_le f g a b (x ∷ xs) start each =
    let here = each x in fold_le f g (min a (f x)) (min b (g x)) xs (omega (arith, start, here)) each

pub least_at : (f : ℕ → ℕ) (xs : List ℕ) (n : ℕ) → n < length xs → least_by f xs ≤ f (slice_index xs n)
unfolding least_by
least_at f xs n within = fold_at f (f (slice_index xs 0)) xs n within

-- it is that of a member: the one that was least so far, or a later one
min_is : (a b : ℕ) → (min a b ≡ a) ⊎ (min a b ≡ b)
min_is a b = grind arith

fold_one : (f : ℕ → ℕ) (a : ℕ) (xs : List ℕ) → (fold (λ least x. min least (f x)) a xs ≡ a)
    ⊎ ((n : ℕ) × (n < length xs) × (fold (λ least x. min least (f x)) a xs ≡ f (slice_index xs n)))
fold_one f a [] = inl refl
fold_one f a (x ∷ xs) =
    elim (fold_one f (min a (f x)) xs) [
      | inl start ↦ elim (min_is a (f x)) [
        | inl before ↦ inl (start ∙ before)
        | inr here ↦ inr (0, omega arith, start ∙ here)
      ]
      | inr later ↦ inr (suc later.0, omega (arith, later.1), later.2)
    ]

pub least_one : (f : ℕ → ℕ) (xs : List ℕ) → 0 < length xs
    → (n : ℕ) × (n < length xs) × (least_by f xs ≡ f (slice_index xs n))
unfolding least_by
least_one f xs some =
    elim (fold_one f (f (slice_index xs 0)) xs) [ inl first ↦ (0, some, first) | inr later ↦ later ]

least_le : (f g : ℕ → ℕ) (xs : List ℕ) → ((x : ℕ) → f x ≤ g x) → least_by f xs ≤ least_by g xs
unfolding least_by
least_le f g xs each = fold_le f g (f (slice_index xs 0)) (g (slice_index xs 0)) xs (each (slice_index xs 0)) each

-- one more choice opens its site where none did
has-push : (cs : List ℕ) (s t : ℕ) → has (cs ++ s ∷ []) t ≡ (has cs t || (s == t))
unfolding has
has-push cs s t = list_any-append (λ y. y == t) cs (s ∷ [])
    ∙ ap (λ (b : Bool). list_any (λ y. y == t) cs || b) (last (s == t))
  where
    last : (b : Bool) → (b || false) ≡ b
    last true = refl
    last false = refl

opened_term : (a b : Bool) (x : ℕ) → cond (a || b) x 0 ≡ cond a x 0 + cond b (cond a 0 x) 0
opened_term true true x = omega arith
opened_term true false x = omega arith
opened_term false true x = omega arith
opened_term false false x = omega arith

opened-push : (p : Problem) (cs : List ℕ) (s : ℕ) → s < site_count p
    → opened p (cs ++ s ∷ []) ≡ opened p cs + dual_limit p cs s
unfolding opened opened_by dual_limit
opened-push p cs s known =
    sum_below-same (opened_by p (cs ++ s ∷ [])) (λ t. opened_by p cs t + cond (s == t) (dual_limit p cs t) 0)
    (site_count p) (λ t below.
    ap (λ (b : Bool). cond {A = ℕ} b (opening p t) 0) (has-push cs s t) ∙ opened_term (has cs t) (s == t) (opening p t))
    ∙ sum_below-plus (opened_by p cs) (λ t. cond (s == t) (dual_limit p cs t) 0) (site_count p)
    ∙ ap (λ (x : ℕ). sum_below (opened_by p cs) (site_count p) + x)
    (sum_below-pick (dual_limit p cs) s (site_count p) known)

served-push : (p : Problem) (cs : List ℕ) (s : ℕ) → served p (cs ++ s ∷ []) ≡ served p cs + service p s (length cs)
unfolding served served_by
served-push p cs s =
    let size : length (cs ++ s ∷ []) ≡ suc (length cs) = simp length-append (omega arith) in
    let before = sum_below-same (served_by p (cs ++ s ∷ [])) (served_by p cs) (length cs)
    (λ i below. ap (λ (site : ℕ). service p site i) (get_or_append_left cs (s ∷ []) 0 i below)) in
    let last = ap (λ (site : ℕ). service p site (length cs)) (get_or_push cs s 0 (length cs) refl) in
    ap (sum_below (served_by p (cs ++ s ∷ []))) size ∙ omega (arith, before, last)

cost-push : (p : Problem) (cs : List ℕ) (s : ℕ) → s < site_count p
    → cost p (cs ++ s ∷ []) ≡ cost p cs + (service p s (length cs) + dual_limit p cs s)
unfolding cost
cost-push p cs s known = omega (arith, opened-push p cs s known, served-push p cs s)

-- the floor of a child is no less
pub first_price : (p : Problem) (cs : List ℕ) (s : ℕ)
    → need_price p cs 0 s ≡ service p s (length cs) + dual_limit p cs s
unfolding need_price
first_price p cs s =
    let same : length cs + 0 ≡ length cs = omega arith in ap (λ (i : ℕ). service p s i + dual_limit p cs s) same

later_price : (p : Problem) (cs : List ℕ) (s j t : ℕ) → need_price p cs (suc j) t ≤ need_price p (cs ++ s ∷ []) j t
unfolding need_price
later_price p cs s j t =
    let size : length (cs ++ s ∷ []) ≡ length cs + 1 = simp length-append in
    let same : length cs + suc j ≡ length (cs ++ s ∷ []) + j = omega (arith, size) in
    let moved = ap (λ (i : ℕ). service p t i) same in
    let differs : (suc j == 0) ≡ false = grind (arith, nat_tests) in
    let none = ap (λ (b : Bool). cond {A = ℕ} b (dual_limit p cs t) 0) differs in
    omega (arith, moved, none)

later_floor : (p : Problem) (cs : List ℕ) (s j : ℕ) → floor_by p cs (suc j) ≤ floor_by p (cs ++ s ∷ []) j
unfolding floor_by
later_floor p cs s j =
    let size : length (cs ++ s ∷ []) ≡ length cs + 1 = simp length-append in
    let same : length cs + suc j ≡ length (cs ++ s ∷ []) + j = omega (arith, size) in
    let here = least_le (need_price p cs (suc j)) (need_price p (cs ++ s ∷ []) j) (via p (length cs + suc j))
    (λ t. later_price p cs s j t) in
    let moved = ap (λ (i : ℕ). least_by (need_price p (cs ++ s ∷ []) j) (via p i)) same in
    omega (arith, here, moved)

first_floor : (p : Problem) (cs : List ℕ) (n : ℕ) → n < length (via p (length cs))
    → floor_by p cs 0 ≤ need_price p cs 0 (slice_index (via p (length cs)) n)
unfolding floor_by
first_floor p cs n within =
    let same : length cs + 0 ≡ length cs = omega arith in
    subst (λ (i : ℕ). least_by (need_price p cs 0) (via p i) ≤ need_price p cs 0 (slice_index (via p (length cs)) n))
    (sym same) (least_at (need_price p cs 0) (via p (length cs)) n within)

floor_child : (p : Problem) (cs : List ℕ) (n : ℕ) → IsWithin p.sites p.needs → length cs < need_count p
    → n < length (via p (length cs)) → floor p cs ≤ floor p (child_choices p cs n)
unfolding floor child_choices
floor_child p cs n limits above within =
    let s = slice_index (via p (length cs)) n in
    let r = need_count p - (length cs + 1) in
    let size : length (cs ++ s ∷ []) ≡ length cs + 1 = simp length-append in
    let left : need_count p - length cs ≡ suc r = omega arith in
    let left_child : need_count p - length (cs ++ s ∷ []) ≡ r = omega (arith, size) in
    let known : s < site_count p =
    has-below (site_count p) s (via p (length cs)) (via-known p (length cs) limits above)
    (has-at (via p (length cs)) n within) in
    let costs = cost-push p cs s known in
    let price = first_price p cs s in
    let first = first_floor p cs n within in
    let later = sum_below-le (λ j. floor_by p cs (suc j)) (floor_by p (cs ++ s ∷ [])) r
    (λ j below. later_floor p cs s j) in
    let whole = ap (sum_below (floor_by p cs)) left ∙ sum_below-first (floor_by p cs) r in
    let child = ap (sum_below (floor_by p (cs ++ s ∷ []))) left_child in
    omega (arith, costs, price, first, later, whole, child)

-- bounds that are at least a floor
int_min_least : (x y z : ℤ) → z ≤ℤ x → z ≤ℤ y → z ≤ℤ int_min x y
int_min_least x y z one other = grind (arith, ints, nat_tests)

lesser_least : (f : ℕ) (a b : Option ℤ) → IsAtLeast f a → IsAtLeast f b → IsAtLeast f (lesser a b)
lesser_least f None b one other = other
lesser_least f (Some x) None one other = one
lesser_least f (Some x) (Some y) one other = int_min_least x y (pos f) one other

least_down : (f g : ℕ) (a : Option ℤ) → f ≤ g → IsAtLeast g a → IsAtLeast f a
least_down f g None less is = tt
least_down f g (Some x) less is = omega (arith, ints)

IsFloored : Problem → Tree → Type 0
IsFloored p tree = (best ceiling : Option ℕ) (cs : List ℕ) (n : ℕ) → AreChoices p cs
    → first_fault p n (visits p tree cs) ≡ None → are_explored p best ceiling (visits p tree cs) ≡ true
    → IsAtLeast (floor p cs) (bound_of p (visits p tree cs))

floored_below : (p : Problem) (ts : List Tree) → IsWithin p.sites p.needs → AllByRecursion (IsFloored p) ts
    → (best ceiling : Option ℕ) (cs : List ℕ) (j m : ℕ) → AreChoices p cs → (0 < length ts → length cs < need_count p)
    → j + length ts ≤ length (via p (length cs))
    → first_fault p m (below p cs j (map (visits p) ts)) ≡ None
    → are_explored p best ceiling (below p cs j (map (visits p) ts)) ≡ true
    → IsAtLeast (floor p cs) (bound_of p (below p cs j (map (visits p) ts)))
unfolding IsFloored bound_of
floored_below p [] limits floored best ceiling cs j m are above fan none all = tt
floored_below p (t ∷ ts) limits floored best ceiling cs j m are above fan none all =
    let here = visits p t (child_choices p cs j) in
    let others = below p cs (j + 1) (map (visits p) ts) in
    let deep : length cs < need_count p = above (omega arith) in
    let within : j < length (via p (length cs)) = omega arith in
    let faults = none_first (first_fault p m here) (first_fault p (m + length here) others)
    (sym (first_fault-append p m here others) ∙ none) in
    let explored = and_parts (are_explored p best ceiling here) (are_explored p best ceiling others)
    (sym (are_explored-append p best ceiling here others) ∙ all) in
    let child = floored.0 best ceiling (child_choices p cs j) m
    (choices_more p cs j are deep within) faults.0 explored.0 in
    let rest = floored_below p ts limits floored.1 best ceiling cs (j + 1) (m + length here) are (λ some. deep)
    (omega arith) faults.1 explored.1 in
    subst (λ bound. IsAtLeast (floor p cs) bound) (sym (bound_of-append p here others))
    (lesser_least (floor p cs) (bound_of p here) (bound_of p others)
    (least_down (floor p cs) (floor p (child_choices p cs j)) (bound_of p here)
    (floor_child p cs j limits deep within) child) rest)

-- a full node's choices cost its floor
full_floor : (p : Problem) (cs : List ℕ) → AreChoices p cs → full_fault p cs ≡ None → floor p cs ≡ cost p cs
unfolding full_fault floor
full_floor p cs are right =
    let test = if_none (nat_lt (length cs) (need_count p)) Depth None right in
    let whole : need_count p ≤ length cs = ltb-false (length cs) (need_count p) test.0 in
    let none : need_count p - length cs ≡ 0 = omega arith in
    ap (λ (n : ℕ). cost p cs + sum_below (floor_by p cs) n) none ∙ omega arith

int_le_true : (x y : ℤ) → int_le x y ≡ true → x ≤ℤ y
int_le_true x y h = grind (arith, ints)

no_nodes : (p : Problem) (cs : List ℕ) (ts : List Tree) → length ts ≡ 0
    → bound_of p (below p cs 0 (map (visits p) ts)) ≡ None
unfolding bound_of
no_nodes p cs [] none = refl
no_nodes p cs (t ∷ ts) none = absurd (omega arith)

part_floored : (p : Problem) (part : Part) (ts : List Tree) → IsWithin p.sites p.needs
    → AllByRecursion (IsFloored p) ts → (best ceiling : Option ℕ) (cs : List ℕ) (m : ℕ) → AreChoices p cs
    → length ts ≡ fan part → node_fault p cs part ≡ None → is_tight p ceiling cs part ≡ true
    → first_fault p m (below p cs 0 (map (visits p) ts)) ≡ None
    → are_explored p best ceiling (below p cs 0 (map (visits p) ts)) ≡ true
    → IsAtLeast (floor p cs) (lesser (part_value p cs part) (bound_of p (below p cs 0 (map (visits p) ts))))
unfolding fan node_fault is_tight
part_floored p (BranchPart n) ts limits floored best ceiling cs m are size right tight none all =
    let branching = branch_right p cs n right in
    floored_below p ts limits floored best ceiling cs 0 m are (λ some. grind (arith, branching.above, are.few))
    (omega (arith, size, branching.size)) none all
part_floored p OverPart ts limits floored best ceiling cs m are size right tight none all =
    rw (no_nodes p cs ts size) tt
part_floored p (HallPart names) ts limits floored best ceiling cs m are size right tight none all =
    rw (no_nodes p cs ts size) tt
part_floored p (DualPart lambda mu) ts limits floored best ceiling cs m are size right tight none all =
    rw (no_nodes p cs ts size) (int_le_true (pos (floor p cs)) (dual_value p cs lambda mu) tight)
part_floored p FullPart ts limits floored best ceiling cs m are size right tight none all =
    let same = full_floor p cs are (if_none (is_over p cs) IsOver (full_fault p cs) right).1 in
    rw (no_nodes p cs ts size) (omega (arith, ints, same))

bound_out : (p : Problem) (tree : Tree) (cs : List ℕ)
    → bound_of p (visits p tree cs) ≡ lesser (part_value p cs (part_of tree))
    (bound_of p (below p cs 0 (map (visits p) (children_of tree))))
unfolding bound_of
bound_out p tree cs = ap (bound_of p) (visits-out p tree cs)

all_floored : (p : Problem) → IsWithin p.sites p.needs → (tree : Tree) → IsFloored p tree
unfolding IsFloored is_explored
all_floored p limits = tree_induction (IsFloored p) (λ tree children best ceiling cs n are none all.
    let right = node_is_right p tree cs n none in
    let parts = and_parts (is_explored p best ceiling (record { choices = cs; part = part_of tree }))
    (are_explored p best ceiling (below p cs 0 (map (visits p) (children_of tree))))
    (sym (are_explored-out p best ceiling tree cs) ∙ all) in
    let root = and_parts (is_beaten p best cs) (is_tight p ceiling cs (part_of tree)) parts.0 in
    subst (λ bound. IsAtLeast (floor p cs) bound) (sym (bound_out p tree cs))
    (part_floored p (part_of tree) (children_of tree) limits children best ceiling cs (n + 1) are
    (fan-part_of tree) right.0 root.1 right.1 parts.1))

pub bound-floor : (p : Problem) (best ceiling : Option ℕ) (tree : Tree) → IsWithin p.sites p.needs
    → first_fault p 0 (visits p tree []) ≡ None → are_explored p best ceiling (visits p tree []) ≡ true
    → IsAtLeast (floor p []) (bound_of p (visits p tree []))
unfolding IsFloored
bound-floor p best ceiling tree limits none all =
    all_floored p limits tree best ceiling [] 0
    (record { few = omega arith; each = λ i below. absurd (omega arith) }) none all
