-- Lists, by recursion.
use Rattle.std.proofs.Common.{◌≡◌, ℕ, zero, suc, ◌+◌, ◌-◌, ◌<◌, ◌≤◌, inl, inr, Bool, cond, true, false, List, [], ◌∷◌, ◌++◌}
use Rattle.std.proofs.Common.{length, get_or, refl, sym, ◌∙◌, ap, subst, arith}
use Rattle.std.specs.Prelude.{Result, Ok, Err, IsOk, is_ok, if◌then◌else◌}
use Rattle.std.specs.List.{All, AllByRecursion, filter, count_by, insert, remove}
use Rattle.std.proofs.lemmas.Bool.{cases_Bool, cases_lt}
use Rattle.std.proofs.lemmas.List.Sums.{length-filter, count_by-le-length, sum_by-remove}
use Rattle.std.proofs.lemmas.List.Edits.{get_or-insert_above, get_or-insert_at, get_or-insert_below, length-insert, length-remove}

-- what a filter keeps of a list that passes, or fails, as a whole
pub filter_all : {X : Type 0} (p : X → Bool) (xs : List X) → AllByRecursion (λ x. p x ≡ true) xs → filter p xs ≡ xs
filter_all p [] h = refl
filter_all p (x ∷ xs) h = rw h.0 (ap (λ (ys : List _). x ∷ ys) (filter_all p xs h.1))

pub filter_none : {X : Type 0} (p : X → Bool) (xs : List X) → AllByRecursion (λ x. p x ≡ false) xs → filter p xs ≡ []
filter_none p [] h = refl
filter_none p (x ∷ xs) h = rw h.0 (filter_none p xs h.1)

-- a filter that stops only what stands at i, and one that stops all else
pub filter_but_one : {X : Type 0} (p : X → Bool) (xs : List X) (i : ℕ) (d : X) → i < length xs
    → AllByRecursion (λ x. p x ≡ true) (remove xs i) → p (get_or xs i d) ≡ false → filter p xs ≡ remove xs i
filter_but_one p [] i d within others one = absurd (omega arith)
filter_but_one p (x ∷ xs) zero d within others one = rw one (filter_all p xs others)
filter_but_one p (x ∷ xs) (suc i) d within others one =
    rw others.0 (ap (λ (ys : List _). x ∷ ys) (filter_but_one p xs i d (omega arith) others.1 one))

pub filter_only_one : {X : Type 0} (p : X → Bool) (xs : List X) (i : ℕ) (d : X) → i < length xs
    → AllByRecursion (λ x. p x ≡ false) (remove xs i) → p (get_or xs i d) ≡ true → filter p xs ≡ get_or xs i d ∷ []
filter_only_one p [] i d within others one = absurd (omega arith)
filter_only_one p (x ∷ xs) zero d within others one = rw one (ap (λ (ys : List _). x ∷ ys) (filter_none p xs others))
filter_only_one p (x ∷ xs) (suc i) d within others one =
    rw others.0 (filter_only_one p xs i d (omega arith) others.1 one)

-- two filters that no element passes both
pub length-filter-apart : {X : Type 0} (p q : X → Bool) → ((x : X) → p x ≡ true → q x ≡ false) → (xs : List X)
    → length (filter p xs) + length (filter q xs) ≤ length xs
length-filter-apart p q apart [] = omega arith
length-filter-apart p q apart (x ∷ xs) = elim (cases_Bool (p x)) [
  | inl passes ↦ rw (passes, apart x passes) (omega (arith, length-filter-apart p q apart xs))
  | inr fails ↦ rw fails (elim (cases_Bool (q x)) [
    | inl passes ↦ rw passes (omega (arith, length-filter-apart p q apart xs))
    | inr fails ↦ rw fails (omega (arith, length-filter-apart p q apart xs))
  ])
]

pub count_all : {X : Type 0} (p : X → Bool) (xs : List X) → AllByRecursion (λ x. p x ≡ true) xs
    → count_by p xs ≡ length xs
count_all p xs h = sym (length-filter p xs) ∙ ap length (filter_all p xs h)

-- one that fails is not counted
pub count_but_one : {X : Type 0} (p : X → Bool) (xs : List X) (i : ℕ) (d : X) → i < length xs
    → p (get_or xs i d) ≡ false → count_by p xs ≡ count_by p (remove xs i)
count_but_one p xs i d within fails = let e =
    sum_by-remove (λ x. cond (p x) 1 0) xs i d within in omega (arith, rw fails at e)

pub count_below : {X : Type 0} (p : X → Bool) (xs : List X) (i : ℕ) (d : X) → i < length xs → p (get_or xs i d) ≡ false
    → count_by p xs < length xs
count_below p xs i d within fails =
    omega (arith, count_but_one p xs i d within fails, count_by-le-length p (remove xs i), length-remove xs i within)

-- by recursion: what holds of each, of a part and of two parts
pub all_weaker : {X : Type 0} (P Q : X → Type 0) → ((x : X) → P x → Q x) → (xs : List X) → AllByRecursion P xs
    → AllByRecursion Q xs
all_weaker P Q f [] h = tt
all_weaker P Q f (x ∷ xs) h = (f x h.0, all_weaker P Q f xs h.1)

pub all_append : {X : Type 0} (P : X → Type 0) (xs ys : List X) → AllByRecursion P xs → AllByRecursion P ys
    → AllByRecursion P (xs ++ ys)
all_append P [] ys h k = k
all_append P (x ∷ xs) ys h k = (h.0, all_append P xs ys h.1 k)

pub all_remove : {X : Type 0} (P : X → Type 0) (xs : List X) (i : ℕ) → AllByRecursion P xs
    → AllByRecursion P (remove xs i)
all_remove P [] zero h = tt
all_remove P [] (suc i) h = tt
all_remove P (x ∷ xs) zero h = h.1
all_remove P (x ∷ xs) (suc i) h = (h.0, all_remove P xs i h.1)

-- what holds of all, and of what is put in
pub all_insert : {X : Type 0} (P : X → Type 0) (xs : List X) (i : ℕ) (y : X) → i ≤ length xs → All P xs → P y
    → All P (insert xs i y)
all_insert {X} P xs i y within all one = λ k d inside. elim (cases_lt k i) [
  | inl below ↦ subst P (sym (get_or-insert_below xs i y d k below within)) (all k d (omega (arith, below, within)))
  | inr rest ↦ elim (cases_lt i k) [
    | inl above ↦
        let is : k - 1 + 1 ≡ k = omega arith in
        subst (λ (n : ℕ). P (get_or (insert xs i y) n d)) is
        (subst P (sym (get_or-insert_above xs i y d (k - 1) (omega arith) within))
        (all (k - 1) d (omega (arith, inside, length-insert xs i y within))))
    | inr same ↦
        let is : i ≡ k = omega arith in
        subst (λ (n : ℕ). P (get_or (insert xs i y) n d)) is (subst P (sym (get_or-insert_at xs i y d within)) one)
  ]
]

pub all_get_or : {X : Type 0} (P : X → Type 0) (xs : List X) (i : ℕ) (d : X) → i < length xs → AllByRecursion P xs
    → P (get_or xs i d)
all_get_or P [] i d within h = absurd (omega arith)
all_get_or P (x ∷ xs) zero d within h = h.0
all_get_or P (x ∷ xs) (suc i) d within h = all_get_or P xs i d (omega arith) h.1

-- two facts of each, joined to a third
pub all_both : {X : Type 0} (P Q R : X → Type 0) → ((x : X) → P x → Q x → R x) → (xs : List X) → AllByRecursion P xs
    → AllByRecursion Q xs → AllByRecursion R xs
all_both P Q R f [] h k = tt
all_both P Q R f (x ∷ xs) h k = (f x h.0 k.0, all_both P Q R f xs h.1 k.1)

-- what an edit left that was taken
pub edit_taken : {T E A : Type 0} (result : Result T E) (now new old wanted : A)
    → now ≡ (if is_ok result then new else old) → IsOk result → new ≡ wanted → now ≡ wanted
edit_taken (Ok value) now new old wanted same ok is = same ∙ is
edit_taken (Err error) now new old wanted same ok is = cc
