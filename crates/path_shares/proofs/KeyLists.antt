-- Ascending lists of keys: two that have the same keys are one list.
use Rattle.std.proofs.Common.{◌≡◌, ℕ, List, [], refl}
use Rattle.std.specs.BTreeSet.{BTreeSet}
use Rattle.std.specs.List.{list_any}
use Rattle.std.specs.List.Sorted.{IsStrictlySortedBy}
use Rattle.std.specs.Cmp.Lexicographic.{slice_cmp}
use Rattle.std.specs.Ordering.{nat_cmp}
use Rattle.std.proofs.lemmas.Cmp.{nat_list_cmp_total}
use Rattle.std.proofs.lemmas.Map.Lookups.{btree_set_from_contains, exact_bytes}
use Rattle.flow_keys.proofs.KeySets.{any-fold, same}
use Rattle.sketch_levels.specs.Items.{distinct}
use Rattle.sketch_merge.specs.Merged.{united}
use Rattle.sketch_merge.proofs.Unions.{ascending-united}

pub one_list : (xs ys : List (List ℕ)) → IsStrictlySortedBy (slice_cmp nat_cmp) xs
    → IsStrictlySortedBy (slice_cmp nat_cmp) ys
    → ((q : List ℕ) → list_any (same q) xs ≡ list_any (same q) ys) → xs ≡ ys
one_list xs ys ascending also each =
    let one : BTreeSet (List ℕ) = record { keys = xs } in
    let two : BTreeSet (List ℕ) = record { keys = ys } in
    btree_set_from_contains nat_list_cmp_total one two ascending also each exact_bytes

-- the distinct keys of a list are its keys united with none
pub united-distinct : (keys : List (List ℕ)) → united [] keys ≡ distinct keys
unfolding distinct united
united-distinct keys = refl

pub ascending-distinct : (keys : List (List ℕ)) → IsStrictlySortedBy (slice_cmp nat_cmp) (distinct keys)
unfolding distinct united IsStrictlySortedBy
ascending-distinct keys = ascending-united [] keys tt

pub any-distinct : (q : List ℕ) (keys : List (List ℕ)) → list_any (same q) (distinct keys) ≡ list_any (same q) keys
unfolding distinct
any-distinct q keys = any-fold q [] keys
