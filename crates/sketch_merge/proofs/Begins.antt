-- The first key of a union.
use Rattle.std.proofs.Common.{◌≡◌, ℕ, List, [], ◌∷◌, Some, None, refl, sym, ◌∙◌, ap, arith}
use Rattle.std.specs.declared.cmp.Ordering.TheVariants.{Less, Equal, Greater}
use Rattle.std.specs.List.{slice_get}
use Rattle.std.specs.Cmp.Lexicographic.{slice_cmp}
use Rattle.std.specs.List.Sorted.{IsStrictlySortedBy}
use Rattle.std.specs.Ordering.{nat_cmp}
use Rattle.sketch_merge.specs.Merged.{united}
use Rattle.sketch_merge.specs.Next.{BeginsWith}
use Rattle.sketch_merge.proofs.Unions.{united-empty, united-equal, united-greater, united-less, united-none}

empty : (keys : List (List ℕ)) → slice_get keys 0 ≡ None → keys ≡ []
empty [] none = refl
empty (key ∷ keys) none = absurd (cc)

-- of two empty lists
pub none_begins : (keys more : List (List ℕ)) → slice_get keys 0 ≡ None → slice_get more 0 ≡ None
    → united keys more ≡ []
none_begins keys more none end = rw (empty keys none, empty more end) (united-none [])

-- of the second list alone
begins_second : (more : List (List ℕ)) (y : List ℕ) → slice_get more 0 ≡ Some y
    → IsStrictlySortedBy (slice_cmp nat_cmp) more → BeginsWith [] more y 0 1
begins_second [] y first ascending = absurd (cc)
begins_second (b ∷ more) y first ascending =
    let here : b ≡ y = cc in record {
      keys_within = omega arith;
      more_within = omega arith;
      some = omega arith;
      rest = united-empty b more ascending ∙ ap (λ (k : List ℕ). k ∷ united [] more) here;
    }

pub begins_other : (keys more : List (List ℕ)) (y : List ℕ) → slice_get keys 0 ≡ None → slice_get more 0 ≡ Some y
    → IsStrictlySortedBy (slice_cmp nat_cmp) more → BeginsWith keys more y 0 1
begins_other keys more y none first ascending = rw (empty keys none) (begins_second more y first ascending)

-- of the first list alone
begins_first : (keys : List (List ℕ)) (x : List ℕ) → slice_get keys 0 ≡ Some x → BeginsWith keys [] x 1 0
begins_first [] x first = absurd (cc)
begins_first (a ∷ keys) x first =
    let here : a ≡ x = cc in record {
      keys_within = omega arith;
      more_within = omega arith;
      some = omega arith;
      rest = united-none (a ∷ keys) ∙ ap (λ (k : List ℕ). k ∷ keys) here
          ∙ ap (λ (all : List (List ℕ)). x ∷ all) (sym (united-none keys));
    }

pub begins_key : (keys more : List (List ℕ)) (x : List ℕ) → slice_get keys 0 ≡ Some x → slice_get more 0 ≡ None
    → BeginsWith keys more x 1 0
begins_key keys more x first none = rw (empty more none) (begins_first keys x first)

-- of two lists, by the order of their first keys
pub begins_less : (keys more : List (List ℕ)) (x y : List ℕ) → slice_get keys 0 ≡ Some x → slice_get more 0 ≡ Some y
    → IsStrictlySortedBy (slice_cmp nat_cmp) more → slice_cmp nat_cmp x y ≡ Less → BeginsWith keys more x 1 0
begins_less [] more x y first other ascending less = absurd (cc)
begins_less (a ∷ keys) [] x y first other ascending less = absurd (cc)
begins_less (a ∷ keys) (b ∷ more) x y first other ascending less =
    let here : a ≡ x = cc in
    let there : b ≡ y = cc in record {
      keys_within = omega arith;
      more_within = omega arith;
      some = omega arith;
      rest = united-less a b keys more (rw (here, there) less) ascending
          ∙ ap (λ (k : List ℕ). k ∷ united keys (b ∷ more)) here;
    }

pub begins_equal : (keys more : List (List ℕ)) (x y : List ℕ) → slice_get keys 0 ≡ Some x → slice_get more 0 ≡ Some y
    → IsStrictlySortedBy (slice_cmp nat_cmp) more → slice_cmp nat_cmp x y ≡ Equal → BeginsWith keys more x 1 1
begins_equal [] more x y first other ascending same = absurd (cc)
begins_equal (a ∷ keys) [] x y first other ascending same = absurd (cc)
begins_equal (a ∷ keys) (b ∷ more) x y first other ascending same =
    let here : a ≡ x = cc in
    let there : b ≡ y = cc in record {
      keys_within = omega arith;
      more_within = omega arith;
      some = omega arith;
      rest = united-equal a b keys more (rw (here, there) same) ascending
          ∙ ap (λ (k : List ℕ). k ∷ united keys more) here;
    }

pub begins_greater : (keys more : List (List ℕ)) (x y : List ℕ) → slice_get keys 0 ≡ Some x → slice_get more 0 ≡ Some y
    → IsStrictlySortedBy (slice_cmp nat_cmp) more → slice_cmp nat_cmp x y ≡ Greater → BeginsWith keys more y 0 1
begins_greater [] more x y first other ascending greater = absurd (cc)
begins_greater (a ∷ keys) [] x y first other ascending greater = absurd (cc)
begins_greater (a ∷ keys) (b ∷ more) x y first other ascending greater =
    let here : a ≡ x = cc in
    let there : b ≡ y = cc in record {
      keys_within = omega arith;
      more_within = omega arith;
      some = omega arith;
      rest = united-greater a b keys more (rw (here, there) greater) ascending
          ∙ ap (λ (k : List ℕ). k ∷ united (a ∷ keys) more) there;
    }
