-- A new entry in place of the one that ranks last.
use Rattle.std.proofs.Common.{◌≡◌, ℕ, ℤ, zero, suc, ◌+◌, ◌<◌, ◌≤◌, false, inl, inr, List, [], ◌∷◌, length, get_or, refl, sym, ◌∙◌, ap, arith}
use Rattle.std.specs.Prelude.{Err}
use Rattle.std.specs.List.{insert, remove}
use Rattle.std.proofs.lemmas.Bool.{cases_lt}
use Rattle.std.proofs.lemmas.List.Edits.{get_or-insert_above, get_or-insert_below}
use Rattle.topk_heap.specs.Places.{IsPlace, RanksLast}
use Rattle.topk_heap.specs.Ranking.{IsAscending, best, dropped_keys, entry, ranks_before, with_score}
use Rattle.topk_heap.specs.declared.entry.Entry.{Entry}
use Rattle.topk_heap.proofs.Best.{OneTooMany, best_of_many, dropped_of_many}
use Rattle.topk_heap.proofs.FullLists.{put, replaced_many}

-- put in and taken out, in either order
taken_above : {X : Type 0} (xs : List X) (p q : ℕ) (y : X) → p ≤ q → q < length xs
    → remove (insert xs p y) (suc q) ≡ insert (remove xs q) p y
taken_above [] p q y over within = absurd (omega arith)
taken_above (x ∷ xs) zero q y over within = refl
taken_above (x ∷ xs) (suc p) zero y over within = absurd (omega arith)
taken_above (x ∷ xs) (suc p) (suc q) y over within =
    ap (λ (l : List _). x ∷ l) (taken_above xs p q y (omega arith) (omega arith))

taken_below : {X : Type 0} (xs : List X) (p q : ℕ) (y : X) → q ≤ p → q < length xs
    → remove (insert xs (suc p) y) q ≡ insert (remove xs q) p y
taken_below [] p q y under within = absurd (omega arith)
taken_below (x ∷ xs) p zero y under within = refl
taken_below (x ∷ xs) zero (suc q) y under within = absurd (omega arith)
taken_below (x ∷ xs) (suc p) (suc q) y under within =
    ap (λ (l : List _). x ∷ l) (taken_below xs p q y (omega arith) (omega arith))

module _ (entries : List Entry) (key : List ℕ) (score : ℤ) (last place to : ℕ) (ascending : IsAscending entries)
    (at : IsPlace entries key (Err place)) (ranks : RanksLast entries last)
    (behind : (d : Entry) → ranks_before (get_or entries last d) (entry key score) ≡ false)
    (above : last < place → to + 1 ≡ place) (below : place ≤ last → to ≡ place) where
  many : (moved : ℕ) → (place ≤ last → moved ≡ last + 1) → (last < place → moved ≡ last)
      → OneTooMany (length entries) (with_score entries key score) moved
  many = replaced_many entries key score last place ascending at ranks behind

  -- by the place where the entry that ranks last stands once the new one is put in
  one_kept : (moved : ℕ) → (place ≤ last → moved ≡ last + 1) → (last < place → moved ≡ last)
      → remove (insert entries place (entry key score)) moved
      ≡ best (length entries) (with_score entries key score)
  one_kept moved over under =
      ap (λ (l : List Entry). remove l moved) (put entries key score place ascending at)
      ∙ sym (best_of_many (entry key score) (many moved over under))

  one_dropped : (moved : ℕ) (d : Entry) → (place ≤ last → moved ≡ last + 1) → (last < place → moved ≡ last)
      → dropped_keys (length entries) (with_score entries key score)
      ≡ (get_or (insert entries place (entry key score)) moved d).key ∷ []
  one_dropped moved d over under =
      dropped_of_many d (many moved over under)
      ∙ ap (λ (l : List Entry). (get_or l moved d).key ∷ []) (sym (put entries key score place ascending at))

  pub kept_of_replaced : insert (remove entries last) to (entry key score)
      ≡ best (length entries) (with_score entries key score)
  kept_of_replaced = elim (cases_lt last place) [
    | inl under ↦
        let is : suc to ≡ place = omega (arith, above under) in
        sym (taken_below entries to last (entry key score) (omega (arith, above under, under)) ranks.within)
        ∙ ap (λ (n : ℕ). remove (insert entries n (entry key score)) last) is
        ∙ one_kept last (λ over. absurd (omega (arith, over, under))) (λ h. refl)
    | inr over ↦
        let is : suc last ≡ last + 1 = omega arith in
        ap (λ (n : ℕ). insert (remove entries last) n (entry key score)) (below over)
        ∙ sym (taken_above entries place last (entry key score) over ranks.within)
        ∙ ap (λ (n : ℕ). remove (insert entries place (entry key score)) n) is
        ∙ one_kept (last + 1) (λ h. refl) (λ h. absurd (omega (arith, over, h)))
  ]

  pub dropped_of_replaced : (d : Entry)
      → (get_or entries last d).key ∷ [] ≡ dropped_keys (length entries) (with_score entries key score)
  dropped_of_replaced d = elim (cases_lt last place) [
    | inl under ↦
        sym (one_dropped last d (λ over. absurd (omega (arith, over, under))) (λ h. refl)
        ∙ ap (λ (e : Entry). e.key ∷ []) (get_or-insert_below entries place (entry key score) d last under at.0.within))
    | inr over ↦
        sym (one_dropped (last + 1) d (λ h. refl) (λ h. absurd (omega (arith, over, h)))
        ∙ ap (λ (e : Entry). e.key ∷ []) (get_or-insert_above entries place (entry key score) d last over at.0.within))
  ]

  pub many_of_replaced : length (with_score entries key score) ≡ length entries + 1
  many_of_replaced = elim (cases_lt last place) [
    | inl under ↦ (many last (λ over. absurd (omega (arith, over, under))) (λ h. refl)).count
    | inr over ↦ (many (last + 1) (λ h. refl) (λ h. absurd (omega (arith, over, h)))).count
  ]
