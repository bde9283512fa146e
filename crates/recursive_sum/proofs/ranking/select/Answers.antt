use Rattle.std.proofs.lemmas.Map.Made.{IsDistinct-keys_filter}
use Rattle.recursive_sum.proofs.ranking.select.Goals as goal

pub sort_by_rank-requires : goal.sort_by_rank-requires
sort_by_rank-requires c =
    rw (c.deref_mut.ensures.value, c.keep_great.ensures)
    (record { distinct = IsDistinct-keys_filter _ _ _ c.requires.distinct.distinct })
