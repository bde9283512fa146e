use Rattle.std.proofs.Common.{is_lt, rules}
use Rattle.std.proofs.lemmas.Fn.{always_returns_same}
use Rattle.std.proofs.lemmas.List.Sorted.{ranks_by}
use Rattle.std.proofs.lemmas.Map.Keys.{IsDistinct-IsPermutation}
use Rattle.std.proofs.lemmas.Cmp.{eq_by_cmp_equiv}
use Rattle.std.specs.Ordering.{eq_by_cmp}
use Rattle.std.specs.List.Sorted.{IsStrictlySortedBy}
use Rattle.recursive_sum.specs.Select.{by_rank, in_order}
use Rattle.recursive_sum.proofs.Ranks.{by_rank_total, fold_is, ranks_distinct, strictly_from_sorted}
use Rattle.recursive_sum.proofs.ranking.sort_by_rank.Goals as goal

strict : (c : goal.In-Ok) → IsStrictlySortedBy by_rank c.sort_by.new.self
strict c =
    strictly_from_sorted by_rank_total _
    (c.in-Ok.ensures.sorted (λ a b. is_lt (by_rank a b)) (ranks_by by_rank_total (λ pair. pair))
    (always_returns_same _ _ _ (λ a r f k. search rules)))
    (IsDistinct-IsPermutation (eq_by_cmp by_rank) (eq_by_cmp_equiv by_rank_total).symm _ _ c.in-Ok.ensures.permutation
    (ranks_distinct _ c.requires.distinct))

pub returns-in-Ok-clause-order : goal.returns-in-Ok-clause-order
returns-in-Ok-clause-order c = strict c

pub returns-in-Ok-clause-value : goal.returns-in-Ok-clause-value
unfolding in_order
returns-in-Ok-clause-value c =
    fold_is by_rank_total _ _ (ranks_distinct _ c.requires.distinct) c.in-Ok.ensures.permutation (strict c)
