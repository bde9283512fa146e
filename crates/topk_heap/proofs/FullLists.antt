-- A new key that is offered to a full list.
use Rattle.std.proofs.Common.{◌≡◌, ℕ, ℤ, zero, suc, ◌+◌, ◌<◌, ◌≤◌, true, false, List, [], ◌∷◌, length, get_or, inl, inr, refl, sym, ◌∙◌, ap, subst, arith}
use Rattle.std.specs.Prelude.{Err}
use Rattle.std.specs.List.{All, insert, remove}
use Rattle.std.proofs.lemmas.Bool.{cases_lt}
use Rattle.std.proofs.lemmas.List.Edits.{length-insert, get_or-insert_above, get_or-insert_at, get_or-insert_below}
use Rattle.std.proofs.lemmas.List.Elements.{recursion_from_All}
use Rattle.topk_heap.specs.Places.{IsPlace, RanksLast}
use Rattle.topk_heap.specs.Ranking.{IsAscending, best, dropped_keys, entry, ranks_before, with_score}
use Rattle.topk_heap.specs.declared.entry.Entry.{Entry}
use Rattle.topk_heap.proofs.Best.{OneTooMany, best_of_many, dropped_of_many}
use Rattle.topk_heap.proofs.Lists.{all_insert}
use Rattle.topk_heap.proofs.Order.{not_before_itself, not_before_more}
use Rattle.topk_heap.proofs.Scores.{IsAscending-with_score, with_score_before}

-- what was put in is taken out
remove-insert : {X : Type 0} (xs : List X) (i : ℕ) (y : X) → i ≤ length xs → remove (insert xs i y) i ≡ xs
remove-insert xs zero y within = refl
remove-insert [] (suc i) y within = absurd (omega arith)
remove-insert (x ∷ xs) (suc i) y within = ap (λ (l : List _). x ∷ l) (remove-insert xs i y (omega arith))

-- the list with the new entry put in before its place
pub put : (entries : List Entry) (key : List ℕ) (score : ℤ) (place : ℕ) → IsAscending entries
    → IsPlace entries key (Err place) → insert entries place (entry key score) ≡ with_score entries key score
put entries key score place ascending at =
    with_score_before entries key score place ascending at.0.within (recursion_from_All _ _ at.0.lesser) at.1

put_many : (entries : List Entry) (key : List ℕ) (score : ℤ) (size place last : ℕ) → IsAscending entries
    → length entries ≡ size → IsPlace entries key (Err place) → RanksLast (insert entries place (entry key score)) last
    → OneTooMany size (insert entries place (entry key score)) last
put_many entries key score size place last ascending full at ranks = record {
  ascending = subst IsAscending (sym (put entries key score place ascending at))
      (IsAscending-with_score entries key score ascending);
  count = length-insert entries place (entry key score) at.0.within ∙ ap (λ (n : ℕ). n + 1) full;
  last = ranks;
}

-- it ranks behind all entries
module _ (entries : List Entry) (key : List ℕ) (score : ℤ) (size last place : ℕ) (ascending : IsAscending entries)
    (full : length entries ≡ size) (at : IsPlace entries key (Err place)) (ranks : RanksLast entries last)
    (before : (d : Entry) → ranks_before (get_or entries last d) (entry key score) ≡ true) where
  abbrev new : Entry
  new = entry key score

  within : place ≤ length entries
  within = at.0.within

  behind : (d : Entry) → All (λ e. ranks_before new e ≡ false) (insert entries place new)
  behind d = all_insert (λ e. ranks_before new e ≡ false) entries place new within
      (λ k c inside. not_before_more (get_or entries last d) new (get_or entries k c) (before d) (ranks.last d k c inside))
      (not_before_itself new)

  many : OneTooMany size (insert entries place new) place
  many = put_many entries key score size place place ascending full at (record {
    within = omega (arith, length-insert entries place new within, within);
    last = λ d. subst (λ (e : Entry). All (λ x. ranks_before e x ≡ false) (insert entries place new))
        (sym (get_or-insert_at entries place new d within)) (behind d);
  })

  pub refused_kept : best size (with_score entries key score) ≡ entries
  refused_kept = ap (best size) (sym (put entries key score place ascending at)) ∙ best_of_many new many
      ∙ remove-insert entries place new within

  pub refused_dropped : dropped_keys size (with_score entries key score) ≡ key ∷ []
  refused_dropped = ap (dropped_keys size) (sym (put entries key score place ascending at)) ∙ dropped_of_many new many
      ∙ ap (λ (e : Entry). e.key ∷ []) (get_or-insert_at entries place new new within)

  pub refused_many : length (with_score entries key score) ≡ size + 1
  refused_many = ap (λ (l : List Entry). length l) (sym (put entries key score place ascending at)) ∙ many.count

-- the entry that ranks last doesn't rank before it, and ranks last still
module _ (entries : List Entry) (key : List ℕ) (score : ℤ) (last place : ℕ) (ascending : IsAscending entries)
    (at : IsPlace entries key (Err place)) (ranks : RanksLast entries last)
    (behind : (d : Entry) → ranks_before (get_or entries last d) (entry key score) ≡ false) where
  abbrev added : Entry
  added = entry key score

  inside : place ≤ length entries
  inside = at.0.within

  ranks_last : (moved : ℕ) → moved < length entries + 1
      → ((d : Entry) → get_or (insert entries place added) moved d ≡ get_or entries last d)
      → RanksLast (insert entries place added) moved
  ranks_last moved few same = record {
    within = omega (arith, few, length-insert entries place added inside);
    last = λ d. subst (λ (e : Entry). All (λ x. ranks_before e x ≡ false) (insert entries place added)) (sym (same d))
        (all_insert (λ x. ranks_before (get_or entries last d) x ≡ false) entries place added inside (ranks.last d)
        (behind d));
  }

  moved_last : (moved : ℕ) → (place ≤ last → moved ≡ last + 1) → (last < place → moved ≡ last)
      → RanksLast (insert entries place added) moved
  moved_last moved above below = elim (cases_lt last place) [
    | inl under ↦ ranks_last moved (omega (arith, below under, ranks.within))
        (λ d. ap (λ (n : ℕ). get_or (insert entries place added) n d) (below under)
        ∙ get_or-insert_below entries place added d last under inside)
    | inr over ↦ ranks_last moved (omega (arith, above over, ranks.within))
        (λ d. ap (λ (n : ℕ). get_or (insert entries place added) n d) (above over)
        ∙ get_or-insert_above entries place added d last over inside)
  ]

  pub replaced_many : (moved : ℕ) → (place ≤ last → moved ≡ last + 1) → (last < place → moved ≡ last)
      → OneTooMany (length entries) (with_score entries key score) moved
  replaced_many moved above below =
      subst (λ (l : List Entry). OneTooMany (length entries) l moved) (put entries key score place ascending at)
      (put_many entries key score (length entries) place moved ascending refl at (moved_last moved above below))
