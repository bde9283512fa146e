-- A heap that dropped a key is full.
use Rattle.std.proofs.Common.{◌≡◌, ℕ, ℤ, zero, suc, ◌+◌, ◌<◌, ◌≤◌, true, false, inl, inr, List, [], ◌∷◌, ◌++◌, length, get_or, refl, sym, ◌∙◌, ap, subst, arith, pos}
use Rattle.std.specs.Prelude.{nat_lt, reverse}
use Rattle.std.proofs.lemmas.Bool.{both_ways, cases_Bool, ltb-false, ltb-true, or_cases}
use Rattle.std.proofs.lemmas.List.{get_or_default, length-map, reverse-append, reverse-reverse}
use Rattle.std.proofs.lemmas.List.Edits.{length-remove}
use Rattle.std.proofs.lemmas.List.Elements.{All-from_get_or}
use Rattle.count_sketch.specs.Counters.{Item}
use Rattle.hash_family.specs.Setting.{Setting}
use Rattle.topk_heap.specs.Places.{RanksLast}
use Rattle.topk_heap.specs.Ranking.{IsAscending, best, entry, ranks_before, with_score}
use Rattle.topk_heap.specs.declared.entry.Entry.{Entry}
use Rattle.topk_heap.proofs.Best.{best_of_few, best_of_many}
use Rattle.topk_heap.proofs.Order.{IsLastSoFar, last_moves, last_of_one, last_stays}
use Rattle.topk_heap.proofs.Scores.{IsAscending-with_score, length-with_score-le}
use Rattle.sketch_levels.specs.Kept.{is_dropped, kept, kept_keys, score}
use Rattle.sketch_levels.proofs.Distinct.{keys-with_score, keys_of, length-with_key}
use Rattle.sketch_levels.proofs.Kept.{all_kept, ascending, is_dropped-none, is_dropped-push, kept-push}

no_entry : Entry
no_entry = entry [] (pos 0)

-- one of the first n + 1 entries ranks behind the others
last_so_far : (entries : List Entry) (n : ℕ) → n < length entries → (place : ℕ) × IsLastSoFar entries place (n + 1)
last_so_far entries zero within = (0, last_of_one entries)
last_so_far entries (suc n) within =
    let before = last_so_far entries n (omega arith) in
    let place = before.0 in
    let inside : place < length entries = omega (arith, before.1.within) in
    let there : n + 1 < length entries = omega arith in
    let next : suc n + 1 ≡ n + 1 + 1 = omega arith in
    let moved : (d : Entry) → ranks_before (get_or entries place d) (get_or entries (n + 1) d)
    ≡ ranks_before (get_or entries place no_entry) (get_or entries (n + 1) no_entry) =
    λ d. rw (get_or_default entries place d no_entry inside, get_or_default entries (n + 1) d no_entry there) refl in
    rw next (elim (cases_Bool (ranks_before (get_or entries place no_entry) (get_or entries (n + 1) no_entry))) [
      | inl behind ↦ (n + 1, last_moves entries place (n + 1) before.1 (λ d. moved d ∙ behind))
      | inr ahead ↦ (place, last_stays entries place (n + 1) before.1 (λ d. moved d ∙ ahead))
    ])

-- of one entry at least, one ranks last
ranks_last : (entries : List Entry) (n : ℕ) → length entries ≡ n + 1 → (place : ℕ) × RanksLast entries place
ranks_last entries n size =
    let found = last_so_far entries n (omega arith) in (
      found.0,
      record {
        within = omega (arith, found.1.within);
        last = λ d. All-from_get_or (λ e. ranks_before (get_or entries found.0 d) e ≡ false) entries d
            (λ k within. found.1.last k d (omega (arith, size)));
      },
    )

-- as many of the best as may be kept, where there are so many or one more
length-best : (size : ℕ) (entries : List Entry) → IsAscending entries → size ≤ length entries
    → length entries ≤ size + 1 → length (best size entries) ≡ size
length-best size entries ascends many few = elim (cases_Bool (nat_lt size (length entries))) [
  | inl above ↦
      let count : length entries ≡ size + 1 = omega (arith, ltb-true _ _ above) in
      let found = ranks_last entries size count in
      ap length (best_of_many no_entry (record { ascending = ascends; count = count; last = found.1 }))
      ∙ (omega (arith, length-remove entries found.0 found.1.within))
  | inr below ↦
      let fits : length entries ≤ size = ltb-false _ _ below in
      ap length (best_of_few size entries fits) ∙ omega (arith, many)
]

-- a score put in loses no entry
length-with_score-ge : (entries : List Entry) (key : List ℕ) (s : ℤ) → IsAscending entries
    → length entries ≤ length (with_score entries key s)
length-with_score-ge entries key s ascends =
    let f : Entry → List ℕ = λ e. e.key in
    omega (
      arith,
      length-map (with_score entries key s) f,
      length-map entries f,
      ap length (keys-with_score entries key s ascends),
      length-with_key (keys_of entries) key,
    )

-- no more keys are kept than the heap holds, as long as none was dropped
few_kept : (setting : Setting) (level : ℕ) (items : List Item) → is_dropped setting items ≡ false
    → length (kept setting level items) ≤ setting.heap
unfolding is_dropped
few_kept setting level items none =
    let f : Entry → List ℕ = λ e. e.key in
    let few = ltb-false _ _ none in
    omega (arith, few, length-map (kept setting level items) f, ap length (all_kept setting level items few))

-- the best of a heap with one score more
filled_by : (setting : Setting) (level : ℕ) (items : List Item) (item : Item) (s : ℤ)
    → setting.heap ≤ length (with_score (kept setting level items) item.key s)
    → length (kept setting level items) ≤ setting.heap
    → length (best setting.heap (with_score (kept setting level items) item.key s)) ≡ setting.heap
filled_by setting level items item s many few =
    length-best setting.heap (with_score (kept setting level items) item.key s)
    (IsAscending-with_score (kept setting level items) item.key s (ascending setting level items))
    many (omega (arith, length-with_score-le (kept setting level items) item.key s))

filled_push : (setting : Setting) (level : ℕ) (items : List Item) (item : Item)
    → (is_dropped setting items ≡ true → length (kept setting level items) ≡ setting.heap)
    → is_dropped setting (items ++ item ∷ []) ≡ true
    → length (kept setting level (items ++ item ∷ [])) ≡ setting.heap
filled_push setting level items item before now =
    let s = score setting level (items ++ item ∷ []) item.key in
    let entries = kept setting level items in
    let push = ap length (kept-push setting level items item) in
    let more = length-with_score-ge entries item.key s (ascending setting level items) in
    elim (cases_Bool (is_dropped setting items)) [
      | inl dropped ↦
          let full = before dropped in
          push ∙ filled_by setting level items item s (omega (arith, full, more)) (omega (arith, full))
      | inr none ↦
          let either = or_cases (is_dropped setting items)
          (nat_lt setting.heap (length (with_score entries item.key s)))
          (sym (is_dropped-push setting level items item s) ∙ now) in
          elim either [
            | inl dropped ↦ absurd (both_ways _ none dropped)
            | inr above ↦
                push ∙ filled_by setting level items item s (omega (arith, ltb-true _ _ above))
                (few_kept setting level items none)
          ]
    ]

filled_back : (setting : Setting) (level : ℕ) (back : List Item) → is_dropped setting (reverse back) ≡ true
    → length (kept setting level (reverse back)) ≡ setting.heap
filled_back setting level [] dropped = absurd (both_ways _ (is_dropped-none setting) dropped)
filled_back setting level (item ∷ earlier) dropped =
    let push : reverse (item ∷ earlier) ≡ reverse earlier ++ item ∷ [] = reverse-append (item ∷ []) earlier in
    rw push (filled_push setting level (reverse earlier) item (filled_back setting level earlier) (rw push at dropped))

-- as many keys as the heap holds
pub filled : (setting : Setting) (level : ℕ) (items : List Item) → is_dropped setting items ≡ true
    → length (kept_keys setting level items) ≡ setting.heap
unfolding kept_keys
filled setting level items dropped =
    let back = reverse-reverse items in
    let f : Entry → List ℕ = λ e. e.key in
    length-map (kept setting level items) f
    ∙ subst (λ (xs : List Item). is_dropped setting xs ≡ true → length (kept setting level xs) ≡ setting.heap) back
    (filled_back setting level (reverse items)) dropped
