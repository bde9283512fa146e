-- Orders of numbers that are edited.
use Rattle.std.proofs.Common.{◌≡◌, ◌≢◌, ℕ, ◌+◌, ◌-◌, ◌<◌, ◌≤◌, inl, inr, List, length, get_or, sym, ◌∙◌, ap, arith}
use Rattle.std.specs.List.{Contains, insert, remove}
use Rattle.std.proofs.lemmas.Bool.{cases_eq, cases_lt}
use Rattle.std.proofs.lemmas.List.{get_or_default}
use Rattle.std.proofs.lemmas.List.Edits.{length-insert, length-remove, get_or-insert_above, get_or-insert_at, get_or-insert_below, get_or-remove_above, get_or-remove_below}
use Rattle.std.proofs.lemmas.List.Elements.{All-from_recursion, recursion_from_All}
use Rattle.topk_heap.specs.Places.{IsOrder}
use Rattle.topk_heap.proofs.Lists.{all_insert, all_remove}

-- what an edited list contains
contains_new : (xs : List ℕ) (i y : ℕ) → i ≤ length xs → Contains (insert xs i y) y
contains_new xs i y within = (i, omega (arith, length-insert xs i y within), get_or-insert_at xs i y y within)

contains_old : (xs : List ℕ) (i y x : ℕ) → i ≤ length xs → Contains xs x → Contains (insert xs i y) x
contains_old xs i y x within held = elim (cases_lt held.0 i) [
  | inl under ↦ (
    held.0,
    omega (arith, held.1, length-insert xs i y within),
    get_or-insert_below xs i y x held.0 under within ∙ held.2,
  )
  | inr over ↦ (
    held.0 + 1,
    omega (arith, held.1, length-insert xs i y within),
    get_or-insert_above xs i y x held.0 over within ∙ held.2,
  )
]

contains_rest : (xs : List ℕ) (i n x : ℕ) → i < length xs → x ≢ get_or xs i n → Contains xs x → Contains (remove xs i) x
contains_rest xs i n x within differs held = elim (cases_lt held.0 i) [
  | inl under ↦ (
    held.0,
    omega (arith, under, length-remove xs i within),
    get_or-remove_below xs i x held.0 under within ∙ held.2,
  )
  | inr over ↦ elim (cases_eq held.0 i) [
    | inl same ↦ absurd (differs (sym held.2 ∙ ap (λ (k : ℕ). get_or xs k x) same ∙ get_or_default xs i x n within))
    | inr apart ↦
        let is : held.0 - 1 + 1 ≡ held.0 = omega arith in (
          held.0 - 1,
          omega (arith, held.1, length-remove xs i within),
          get_or-remove_above xs i x (held.0 - 1) (omega arith) within ∙ ap (λ (k : ℕ). get_or xs k x) is ∙ held.2,
        )
  ]
]

-- the next number is put in
pub order-pushed : (count : ℕ) (order : List ℕ) (place : ℕ) → IsOrder count order → place ≤ length order
    → IsOrder (count + 1) (insert order place count)
order-pushed count order place numbers within = record {
  long = omega (arith, length-insert order place count within, numbers.long);
  below = all_insert (λ slot. slot < count + 1) order place count within
      (λ k d inside. let under = numbers.below k d inside in omega (arith, under)) (omega arith);
  each = λ slot inside. elim (cases_lt slot count) [
    | inl under ↦ contains_old order place count slot within (numbers.each slot under)
    | inr over ↦ let is : slot ≡ count = omega arith in rw is (contains_new order place count within)
  ];
}

-- a number is moved to another place
pub order-moved : (count : ℕ) (order : List ℕ) (from n to : ℕ) → IsOrder count order → from < length order
    → to < length order → IsOrder count (insert (remove order from) to (get_or order from n))
order-moved count order from n to numbers within inside =
    let short = length-remove order from within in
    let room : to ≤ length (remove order from) = omega (arith, short, inside) in
    record {
      long = omega (arith, length-insert (remove order from) to (get_or order from n) room, short, numbers.long);
      below = all_insert (λ slot. slot < count) (remove order from) to (get_or order from n) room
          (All-from_recursion (λ slot. slot < count) (remove order from)
          (all_remove _ order from (recursion_from_All (λ slot. slot < count) order numbers.below)))
          (numbers.below from n within);
      each = λ slot under. elim (cases_eq slot (get_or order from n)) [
        | inl same ↦ rw same (contains_new (remove order from) to (get_or order from n) room)
        | inr differs ↦ contains_old (remove order from) to (get_or order from n) slot room
            (contains_rest order from n slot within differs (numbers.each slot under))
      ];
    }
