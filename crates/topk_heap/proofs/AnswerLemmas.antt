-- What an offer answers, by the keys that it drops.
use Rattle.std.proofs.Common.{◌≡◌, ◌≢◌, ◌↔◌, ℕ, true, false, inl, inr, List, [], ◌∷◌, refl, sym, ◌∙◌, ap, arith}
use Rattle.std.specs.Prelude.{Option, Some, None}
use Rattle.std.specs.List.{Contains}
use Rattle.std.specs.Option.{option_to_list}
use Rattle.std.specs.Cmp.Lexicographic.{slice_cmp}
use Rattle.std.specs.Ordering.{is_eq, nat_cmp}
use Rattle.std.proofs.lemmas.Bool.{cases_Bool}
use Rattle.std.proofs.lemmas.Cmp.{nat_list_cmp_total, tied_itself}
use Rattle.std.proofs.lemmas.Map.Lookups.{exact_bytes}
use Rattle.topk_heap.specs.Answer.{answer_of}
use Rattle.topk_heap.specs.declared.offer.Offer.TheVariants.{KeptDropping, Refused}
use Rattle.flow_keys.proofs.KeyOrder.{equal_from_is_eq}

-- what a list of one key, or of none, contains
the_one : (w y : List ℕ) → Contains (w ∷ []) y → w ≡ y
the_one w y held = let first : held.0 ≡ 0 = omega (arith, held.1) in rw first at held.2

is_one : (w y : List ℕ) → w ≡ y → Contains (w ∷ []) y
is_one w y same = (0, omega arith, same)

none_held : (y : List ℕ) → Contains [] y → ⊥
none_held y held = omega (arith, held.1)

-- keys that compare as equal are the same
same_key : (x y : List ℕ) → is_eq (slice_cmp nat_cmp x y) ≡ true → x ≡ y
same_key x y same = exact_bytes x y (equal_from_is_eq _ same)

own_key : (x : List ℕ) → is_eq (slice_cmp nat_cmp x x) ≡ true
own_key x = ap is_eq (tied_itself nat_list_cmp_total x)

no_other : (w key : List ℕ) → is_eq (slice_cmp nat_cmp w key) ≡ false → Contains (w ∷ []) key → ⊥
no_other w key differs held = let e = own_key w in let k = rw (sym (the_one w key held)) at differs in cc

-- the offered key is refused exactly where it is dropped, and another is named exactly where it is
pub answer_refused : (key : List ℕ) (dropped : Option (List ℕ))
    → (answer_of key (option_to_list dropped) ≡ Refused) ↔ Contains (option_to_list dropped) key
answer_refused key None = (λ h. cc, λ held. absurd (none_held key held))
answer_refused key (Some w) = elim (cases_Bool (is_eq (slice_cmp nat_cmp w key))) [
  | inl same ↦ rw same (λ _. is_one w key (same_key w key same), λ _. refl)
  | inr differs ↦ rw differs (λ h. cc, λ held. absurd (no_other w key differs held))
]

pub answer_dropping : (key : List ℕ) (dropped : Option (List ℕ)) (y : List ℕ)
    → (answer_of key (option_to_list dropped) ≡ KeptDropping y) ↔ ((y ≢ key) × Contains (option_to_list dropped) y)
answer_dropping key None y = (λ h. cc, λ held. absurd (none_held y held.1))
answer_dropping key (Some w) y = elim (cases_Bool (is_eq (slice_cmp nat_cmp w key))) [
  | inl same ↦ rw same (λ h. cc, λ held. absurd (held.0 (sym (the_one w y held.1) ∙ same_key w key same)))
  | inr differs ↦ rw differs (
    λ h. let e : w ≡ y =
        cc in (λ same. absurd (no_other w key differs (is_one w key (e ∙ same))), is_one w y e),
    λ held. ap KeptDropping
        (the_one w y held.1),
  )
]
