-- Which keys are in a union.
use Rattle.std.proofs.Common.{◌≡◌, ◌↔◌, ◌⊎◌, ℕ, ◌||◌, Bool, true, false, inl, inr, List, refl, sym, ◌∙◌, ap}
use Rattle.std.specs.List.{Contains, list_any}
use Rattle.std.specs.BTreeSet.{BTreeSet}
use Rattle.std.specs.Cmp.{eq_by_cmp_equiv}
use Rattle.std.specs.Cmp.Lexicographic.{slice_cmp}
use Rattle.std.specs.List.Sorted.{IsStrictlySortedBy}
use Rattle.std.specs.Ordering.{nat_cmp}
use Rattle.std.proofs.lemmas.Cmp.{nat_list_cmp_total}
use Rattle.std.proofs.lemmas.Map.Lookups.{btree_set_from_contains, exact_bytes}
use Rattle.std.proofs.lemmas.Map.Views.{Contains-from_any, list_any-from_Contains}
use Rattle.sketch_merge.specs.Merged.{united}
use Rattle.flow_keys.proofs.KeySets.{any-fold, same, same_is}

or_cases : (a b : Bool) → (a || b) ≡ true → (a ≡ true) ⊎ (b ≡ true)
or_cases true b h = inl refl
or_cases false b h = inr h

or_right : (a b : Bool) → b ≡ true → (a || b) ≡ true
or_right true b h = refl
or_right false b h = h

pub any-united : (q : List ℕ) (keys more : List (List ℕ))
    → list_any (same q) (united keys more) ≡ (list_any (same q) keys || list_any (same q) more)
unfolding united
any-united q keys more = any-fold q keys more

found : (q : List ℕ) (keys : List (List ℕ)) → Contains keys q → list_any (same q) keys ≡ true
found q keys held = list_any-from_Contains (eq_by_cmp_equiv nat_list_cmp_total) q keys held

-- the keys of a union are those of either list
pub members : (keys more : List (List ℕ)) (key : List ℕ)
    → Contains (united keys more) key ↔ (Contains keys key ⊎ Contains more key)
members keys more key =
    let one = list_any (same key) keys in
    let two = list_any (same key) more in (
      λ held. elim (or_cases one two (sym (any-united key keys more) ∙ found key (united keys more) held)) [
        | inl here ↦ inl (Contains-from_any same_is key keys here)
        | inr there ↦ inr (Contains-from_any same_is key more there)
      ],
      λ either. Contains-from_any same_is key (united keys more) (any-united key keys more ∙ elim either [
        | inl here ↦ ap (λ b. b || two) (found key keys here)
        | inr there ↦ or_right one two (found key more there)
      ]),
    )

-- ascending lists with the same keys are one list
pub same_keys : (xs ys : List (List ℕ)) → IsStrictlySortedBy (slice_cmp nat_cmp) xs
    → IsStrictlySortedBy (slice_cmp nat_cmp) ys → ((q : List ℕ) → list_any (same q) xs ≡ list_any (same q) ys) → xs ≡ ys
same_keys xs ys ascending also each =
    let one : BTreeSet (List ℕ) = record { keys = xs } in
    let two : BTreeSet (List ℕ) = record { keys = ys } in
    btree_set_from_contains nat_list_cmp_total one two ascending also each exact_bytes
