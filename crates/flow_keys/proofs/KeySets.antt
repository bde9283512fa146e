-- Sets of keys, as ascending lists: which keys are among them.
use Rattle.std.proofs.Common.{◌≡◌, ℕ, ◌||◌, Bool, true, false, List, [], ◌∷◌, fold, refl, sym, ◌∙◌, ap}
use Rattle.std.specs.BTreeSet.{insert_key}
use Rattle.std.specs.List.{list_any}
use Rattle.std.specs.Cmp.Lexicographic.{slice_cmp}
use Rattle.std.specs.Ordering.{eq_by_cmp, nat_cmp}
use Rattle.std.proofs.lemmas.Map.Lookups.{exact_bytes}
use Rattle.flow_keys.proofs.KeyOrder.{by_order, equal_from_is_eq}

-- a key put in its place among ascending keys, unless it is there
abbrev pub with_key : List (List ℕ) → List ℕ → List (List ℕ)
with_key keys key = insert_key (slice_cmp nat_cmp) keys key

-- whether two keys are the same
abbrev pub same : List ℕ → List ℕ → Bool
same = eq_by_cmp (slice_cmp nat_cmp)

pub same_is : (x y : List ℕ) → same x y ≡ true → x ≡ y
same_is x y h = exact_bytes x y (equal_from_is_eq _ h)

twice : (a b : Bool) → (a || b) ≡ (a || (a || b))
twice true b = refl
twice false b = refl

swap : (a b c : Bool) → (a || (b || c)) ≡ (b || (a || c))
swap true true c = refl
swap true false c = refl
swap false b c = refl

or_none : (a : Bool) → a ≡ (a || false)
or_none true = refl
or_none false = refl

turn : (a b c : Bool) → ((a || b) || c) ≡ (b || (a || c))
turn true true c = refl
turn true false c = refl
turn false b c = refl

any-with_key : (q : List ℕ) (keys : List (List ℕ)) (key : List ℕ)
    → list_any (same q) (with_key keys key) ≡ (same q key || list_any (same q) keys)
any-with_key q [] key = refl
any-with_key q (x ∷ keys) key = by_order (slice_cmp nat_cmp key x)
    (λ less. rw less refl)
    (λ equal. rw equal (twice (same q x) (list_any (same q) keys)
    ∙ ap (λ (k : List ℕ). same q k || (same q x || list_any (same q) keys)) (sym (exact_bytes key x equal))))
    (λ greater. rw greater (ap (λ b. same q x || b) (any-with_key q keys key)
    ∙ swap (same q x) (same q key) (list_any (same q) keys)))

-- the keys of two lists, of which the second is put in key by key
pub any-fold : (q : List ℕ) (front keys : List (List ℕ))
    → list_any (same q) (fold with_key front keys) ≡ (list_any (same q) front || list_any (same q) keys)
any-fold q front [] = or_none (list_any (same q) front)
any-fold q front (key ∷ keys) =
    any-fold q (with_key front key) keys
    ∙ ap (λ b. b || list_any (same q) keys) (any-with_key q front key)
    ∙ turn (same q key) (list_any (same q) front) (list_any (same q) keys)
