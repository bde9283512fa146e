-- An offer of a held key: its entry is written over.
use Rattle.std.proofs.Common.{◌≡◌, ℕ, ℤ, ◌≤◌, List, [], length, length-set, set, sym, ◌∙◌, ap, arith}
use Rattle.std.specs.Prelude.{Ok}
use Rattle.std.proofs.lemmas.List.Elements.{recursion_from_All}
use Rattle.topk_heap.specs.Places.{IsPlace}
use Rattle.topk_heap.specs.Ranking.{IsAscending, best, dropped_keys, entry, with_score}
use Rattle.topk_heap.specs.declared.entry.Entry.{Entry}
use Rattle.topk_heap.proofs.Best.{best_of_few, dropped_of_few}
use Rattle.topk_heap.proofs.Scores.{with_score_at}

module _ (entries : List Entry) (key : List ℕ) (score : ℤ) (size place : ℕ) (ascending : IsAscending entries)
    (few : length entries ≤ size) (at : IsPlace entries key (Ok place)) where
  written : set entries place (entry key score) ≡ with_score entries key score
  written =
      with_score_at entries key score place (entry key score) ascending at.1 (recursion_from_All _ _ at.0.lesser)
      (at.2 (entry key score))

  pub rewritten_few : length (with_score entries key score) ≤ size
  rewritten_few = omega (
    arith,
    ap (λ (l : List Entry). length l) written,
    length-set entries place (entry key score),
    few,
  )

  pub rewritten_kept : set entries place (entry key score) ≡ best size (with_score entries key score)
  rewritten_kept = written ∙ sym (best_of_few size _ rewritten_few)

  pub rewritten_dropped : [] ≡ dropped_keys size (with_score entries key score)
  rewritten_dropped = sym (dropped_of_few size _ rewritten_few)
