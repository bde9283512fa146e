-- Sums over keys, and the recursive sum where it is the plain one.
use Rattle.std.proofs.Common.{◌≡◌, ℕ, zero, suc, ◌+◌, ◌≤◌, Bool, true, false, cond, ◌&&◌, List, [], ◌∷◌, fold, ℤ, pos}
use Rattle.std.proofs.Common.{negsuc, ◌+ℤ◌, ◌*ℤ◌, refl, sym, ◌∙◌, ap, add-one, arith}
use Rattle.std.specs.List.{filter, Contains}
use Rattle.std.proofs.lemmas.Int.{ints}
use Rattle.std.proofs.lemmas.List.Elements.{filter_agree}
use Rattle.hash_family.specs.Hash.{is_live, is_sampled}
use Rattle.count_sketch.specs.Counters.{int_sum_by}
use Rattle.sketch_merge.specs.Merged.{View, keys_at}
use Rattle.recursive_sum.specs.declared.measure.G.{G}
use Rattle.recursive_sum.specs.Sum.{g_of, counts_at, turn, turned_at, sum_at, recursive_sum, IsClear}

-- ---- sums over any list

pub int_sum_by-from : {X : Type 0} (f : X → ℤ) (a : ℤ) (xs : List X)
    → fold (λ total x. total +ℤ f x) a xs ≡ a +ℤ int_sum_by f xs
int_sum_by-from f a [] = omega (arith, ints)
int_sum_by-from f a (x ∷ xs) =
    let onto = int_sum_by-from f (a +ℤ f x) xs in
    let alone = int_sum_by-from f (pos 0 +ℤ f x) xs in
    omega (arith, ints, onto, alone)

pub int_sum_by-cons : {X : Type 0} (f : X → ℤ) (x : X) (xs : List X) → int_sum_by f (x ∷ xs) ≡ f x +ℤ int_sum_by f xs
int_sum_by-cons f x xs =
    let onto = int_sum_by-from f (pos 0 +ℤ f x) xs in
    omega (arith, ints, onto)

-- two functions that agree on the list have one sum
pub int_sum_by-agree : {X : Type 0} (f g : X → ℤ) (xs : List X) → ((x : X) → Contains xs x → f x ≡ g x)
    → int_sum_by f xs ≡ int_sum_by g xs
int_sum_by-agree f g [] same = refl
int_sum_by-agree f g (x ∷ xs) same =
    let rest = int_sum_by-agree f g xs (λ y at. same y (at.0 + 1, omega (arith, at.1), rw add-one at.2)) in
    let first = same x (0, omega arith, refl) in
    int_sum_by-cons f x xs ∙ (λ i. first i +ℤ rest i) ∙ sym (int_sum_by-cons g x xs)

-- twice the sum over those that pass, and the sum over all with those turned, make the sum over all
turned_sum : (b : Bool) (x passed turned all : ℤ) → (pos 2 *ℤ passed) +ℤ turned ≡ all
    → (pos 2 *ℤ (cond b (x +ℤ passed) passed)) +ℤ ((cond b (negsuc 0) (pos 1) *ℤ x) +ℤ turned) ≡ x +ℤ all
turned_sum true x passed turned all same = omega (arith, ints)
turned_sum false x passed turned all same = omega (arith, ints)

sum_cond : {X : Type 0} (f : X → ℤ) (b : Bool) (x : X) (xs : List X)
    → int_sum_by f (cond b (x ∷ xs) xs) ≡ cond b (f x +ℤ int_sum_by f xs) (int_sum_by f xs)
sum_cond f true x xs = int_sum_by-cons f x xs
sum_cond f false x xs = refl

pub int_sum_by-turned : {X : Type 0} (p : X → Bool) (f : X → ℤ) (xs : List X)
    → (pos 2 *ℤ int_sum_by f (filter p xs)) +ℤ int_sum_by (λ x. cond (p x) (negsuc 0) (pos 1) *ℤ f x) xs
    ≡ int_sum_by f xs
int_sum_by-turned p f [] = omega (arith, ints)
int_sum_by-turned {X} p f (x ∷ xs) =
    let turned : X → ℤ = λ y. cond (p y) (negsuc 0) (pos 1) *ℤ f y in
    (λ i. (pos 2 *ℤ sum_cond f (p x) x (filter p xs) i) +ℤ int_sum_by-cons turned x xs i)
    ∙ turned_sum (p x) (f x) (int_sum_by f (filter p xs)) (int_sum_by turned xs) (int_sum_by f xs)
    (int_sum_by-turned p f xs)
    ∙ sym (int_sum_by-cons f x xs)

-- ---- filters

filter_both_at : {X : Type 0} (a b : Bool) (p : X → Bool) (x : X) (xs : List X) → p x ≡ b
    → filter p (cond a (x ∷ xs) xs) ≡ cond (a && b) (x ∷ filter p xs) (filter p xs)
filter_both_at true b p x xs is = λ i. cond (is i) (x ∷ filter p xs) (filter p xs)
filter_both_at false b p x xs is = refl

-- a filter of a filter keeps what passes both
filter_both : {X : Type 0} (p q : X → Bool) (xs : List X) → filter q (filter p xs) ≡ filter (λ x. p x && q x) xs
filter_both p q [] = refl
filter_both p q (x ∷ xs) =
    filter_both_at (p x) (q x) q x (filter p xs) refl
    ∙ λ i. cond (p x && q x) (x ∷ filter_both p q xs i) (filter_both p q xs i)

-- ---- the levels

turned_at-is : (seed : ℕ) (g : G) (view : View) (level : ℕ) (key : List ℕ)
    → turned_at seed g view level key ≡ cond (is_sampled seed (level + 1) key) (negsuc 0)
    (pos 1) *ℤ counts_at seed g view level key
unfolding turned_at turn
turned_at-is seed g view level key = refl

is_live-next : (seed level : ℕ) (key : List ℕ)
    → is_live seed (level + 1) key ≡ (is_live seed level key && is_sampled seed (level + 1) key)
unfolding is_live
is_live-next seed level key = rw add-one refl

-- the keys of a level that the next level samples are the keys of the next level
next_keys : (seed : ℕ) (view : View) (number : List ℕ → ℤ) (level : ℕ) → IsClear seed view number
    → level + 1 ≤ view.setting.levels
    → filter (is_sampled seed (level + 1)) (keys_at view level) ≡ keys_at view (level + 1)
next_keys seed view number level clear below =
    ap (filter (is_sampled seed (level + 1))) (clear.live level (omega arith))
    ∙ filter_both (is_live seed level) (is_sampled seed (level + 1)) (keys_at view 0)
    ∙ filter_agree _ _ (λ key. sym (is_live-next seed level key)) (keys_at view 0)
    ∙ sym (clear.live (level + 1) below)

-- at each level a key counts what its number counts
counts_at-one : (seed : ℕ) (g : G) (view : View) (number : List ℕ → ℤ) (level : ℕ) (key : List ℕ)
    → IsClear seed view number → level ≤ view.setting.levels → Contains (keys_at view level) key
    → counts_at seed g view level key ≡ g_of g (number key)
unfolding counts_at
counts_at-one seed g view number level key clear below at = ap (g_of g) (clear.one level key below at)

counts_at-clear : (seed : ℕ) (g : G) (view : View) (number : List ℕ → ℤ) (level : ℕ) → IsClear seed view number
    → level ≤ view.setting.levels
    → int_sum_by (counts_at seed g view level) (keys_at view level) ≡ int_sum_by (λ key. g_of g (number key))
    (keys_at view level)
counts_at-clear seed g view number level clear below =
    int_sum_by-agree (counts_at seed g view level) (λ key. g_of g (number key)) (keys_at view level)
    (λ key at. counts_at-one seed g view number level key clear below at)

-- the sum at a level is the plain sum over its keys
sum_at-clear : (seed : ℕ) (g : G) (view : View) (number : List ℕ → ℤ) (level above : ℕ) → IsClear seed view number
    → level + above ≡ view.setting.levels
    → sum_at seed g view level above ≡ int_sum_by (λ key. g_of g (number key)) (keys_at view level)
unfolding sum_at
sum_at-clear seed g view number level zero clear highest = counts_at-clear seed g view number level clear (omega arith)
sum_at-clear seed g view number level (suc above) clear highest =
    let f : List ℕ → ℤ = λ key. g_of g (number key) in
    let keys = keys_at view level in
    let sampled : List ℕ → Bool = is_sampled seed (level + 1) in
    let turned : List ℕ → ℤ = λ key. cond (sampled key) (negsuc 0) (pos 1) *ℤ f key in
    let next : sum_at seed g view (level + 1) above ≡ int_sum_by f (filter sampled keys) =
    sum_at-clear seed g view number (level + 1) above clear (omega arith)
    ∙ ap (int_sum_by f) (sym (next_keys seed view number level clear (omega arith))) in
    let own : int_sum_by (turned_at seed g view level) keys ≡ int_sum_by turned keys =
    int_sum_by-agree (turned_at seed g view level) turned keys
    (λ key at. turned_at-is seed g view level key
    ∙ ap (λ (x : ℤ). cond (sampled key) (negsuc 0) (pos 1) *ℤ x)
    (counts_at-one seed g view number level key clear (omega arith) at)) in
    (λ i. (pos 2 *ℤ next i) +ℤ own i) ∙ int_sum_by-turned sampled f keys

pub recursive_sum-clear : (seed : ℕ) (g : G) (view : View) (number : List ℕ → ℤ) → IsClear seed view number
    → recursive_sum seed g view ≡ int_sum_by (λ key. g_of g (number key)) (keys_at view 0)
unfolding recursive_sum
recursive_sum-clear seed g view number clear = sum_at-clear seed g view number 0 view.setting.levels clear (omega arith)
