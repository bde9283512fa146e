-- The order of keys.
use Rattle.std.proofs.Common.{◌≡◌, ℕ, List, ◌∷◌}
use Rattle.std.specs.declared.cmp.Ordering.TheVariants.{Less}
use Rattle.std.specs.Cmp.Lexicographic.{slice_cmp}
use Rattle.std.specs.List.{AllByRecursion}
use Rattle.std.specs.List.Sorted.{IsStrictlySortedBy}
use Rattle.std.specs.Ordering.{nat_cmp}
use Rattle.std.proofs.lemmas.Cmp.{nat_list_cmp_total}
use Rattle.std.proofs.lemmas.List.Elements.{All-from_recursion, All-weaker, recursion_from_All}
use Rattle.std.proofs.lemmas.Map.Keys.{sorted_head}

-- a key is below each of a list
abbrev pub IsBelow : List ℕ → List (List ℕ) → Type 0
IsBelow key keys = AllByRecursion (λ other. slice_cmp nat_cmp key other ≡ Less) keys

-- what is below the first key of an ascending list is below each
pub below_first : (x y : List ℕ) (keys : List (List ℕ)) → slice_cmp nat_cmp x y ≡ Less
    → IsStrictlySortedBy (slice_cmp nat_cmp) (y ∷ keys) → IsBelow x (y ∷ keys)
below_first x y keys less ascending =
    let Above : List ℕ → List ℕ → Type 0 = λ low key. slice_cmp nat_cmp low key ≡ Less in
    let others = All-from_recursion (Above y) keys (sorted_head (slice_cmp nat_cmp) y keys ascending) in (
      less,
      recursion_from_All (Above x) keys
          (All-weaker (Above y) (Above x) (λ z more. nat_list_cmp_total.trans x y z less more) keys others),
    )
