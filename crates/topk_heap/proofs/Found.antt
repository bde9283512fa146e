-- Where the key of a slot is found.
use Rattle.std.proofs.Common.{◌≡◌, ℕ, ◌<◌, inl, inr, List, length, get_or, length-take-le, sym, ◌∙◌, ap, subst, arith}
use Rattle.std.specs.Prelude.{Ok, Err}
use Rattle.std.specs.List.{Contains}
use Rattle.std.specs.Cmp.Lexicographic.{slice_cmp}
use Rattle.std.specs.declared.cmp.Ordering.{Ordering}
use Rattle.std.specs.declared.cmp.Ordering.TheVariants.{Less, Equal, Greater}
use Rattle.std.specs.Ordering.{nat_cmp}
use Rattle.std.proofs.lemmas.Bool.{cases_lt}
use Rattle.std.proofs.lemmas.Cmp.{nat_list_cmp_total, tied_itself}
use Rattle.std.proofs.lemmas.List.{get_or-take, get_or_default}
use Rattle.topk_heap.specs.Places.{HasLesserBefore, IsOrder, IsPlace, listed}
use Rattle.topk_heap.specs.Ranking.{IsAscending}
use Rattle.topk_heap.specs.declared.entry.Entry.{Entry}
use Rattle.topk_heap.proofs.Best.{not_equal}
use Rattle.topk_heap.proofs.Halves.{above_middle, lesser_at}
use Rattle.topk_heap.proofs.Slots.{at_slot, length-listed}

not_greater : (o : Ordering) → o ≡ Greater → o ≡ Equal → ⊥
not_greater o greater same = cc

lesser_of : (entries : List Entry) (key : List ℕ) (place k : ℕ) (d : Entry) → HasLesserBefore entries key place
    → k < place → slice_cmp nat_cmp (get_or entries k d).key key ≡ Less
lesser_of entries key place k d before under =
    subst (λ (e : Entry). slice_cmp nat_cmp e.key key ≡ Less) (get_or-take place entries k d under)
    (before.lesser k d (omega (arith, under, length-take-le place entries before.within)))

-- the key stands at one place, and there it is found
module _ (entries : List Entry) (key : List ℕ) (at : ℕ) (ascending : IsAscending entries) (within : at < length entries)
    (same : (d : Entry) → slice_cmp nat_cmp (get_or entries at d).key key ≡ Equal) (nobody : Entry) where
  found_at : (place : ℕ) → IsPlace entries key (Ok place) → place ≡ at
  found_at place found = elim (cases_lt at place) [
    | inl under ↦ absurd (not_equal _ (lesser_of entries key place at nobody found.0 under) (same nobody))
    | inr over ↦ elim (cases_lt place at) [
      | inl before ↦ absurd (not_equal _
          (lesser_of entries key at place nobody (lesser_at entries key at nobody ascending within (same nobody)) before)
          (found.2 nobody))
      | inr other ↦ omega (arith, over, other)
    ]
  ]

  is_found : (place : ℕ) → IsPlace entries key (Err place) → ⊥
  is_found place missed = elim (cases_lt at place) [
    | inl under ↦ not_equal _ (lesser_of entries key place at nobody missed.0 under) (same nobody)
    | inr over ↦ not_greater _
        (above_middle entries key at place nobody ascending over within (missed.1 (omega (arith, over, within)) nobody))
        (same nobody)
  ]

-- the key of a slot is found where the slot's number stands
module _ (slots : List Entry) (order : List ℕ) (slot : ℕ) (e : Entry) (ascending : IsAscending (listed slots order))
    (numbers : IsOrder (length slots) order) (within : slot < length slots) where
  held : Contains order slot
  held = numbers.each slot within

  number : get_or order held.0 0 ≡ slot
  number = get_or_default order held.0 0 slot held.1 ∙ held.2

  inside : held.0 < length (listed slots order)
  inside = omega (arith, held.1, length-listed slots order)

  same : (d : Entry) → slice_cmp nat_cmp (get_or (listed slots order) held.0 d).key (get_or slots slot e).key ≡ Equal
  same d = rw (at_slot slots order held.0 slot d e numbers.below held.1 (sym number))
      (tied_itself nat_list_cmp_total (get_or slots slot e).key)

  pub slot_found : (place : ℕ) → IsPlace (listed slots order) (get_or slots slot e).key (Ok place)
      → get_or order place 0 ≡ slot
  slot_found place found =
      ap (λ (n : ℕ). get_or order n 0)
      (found_at (listed slots order) (get_or slots slot e).key held.0 ascending inside same e place found)
      ∙ number

  pub slot_held : (place : ℕ) → IsPlace (listed slots order) (get_or slots slot e).key (Err place) → ⊥
  slot_held place missed =
      is_found (listed slots order) (get_or slots slot e).key held.0 ascending inside same e place missed
