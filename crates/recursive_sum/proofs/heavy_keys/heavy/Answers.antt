use Rattle.std.proofs.lemmas.List.Sorted.{All-permutation}
use Rattle.std.proofs.lemmas.Result.{IfOk-weaker}
use Rattle.recursive_sum.specs.Select.{IsHeavy}
use Rattle.recursive_sum.proofs.Clipped.{selected_heavy}
use Rattle.recursive_sum.proofs.heavy_keys.heavy.Goals as goal

pub returns-clause-each : goal.returns-clause-each
returns-clause-each c = IfOk-weaker c.select.result _ _
    (λ selected kept.
    All-permutation (IsHeavy c.args.merged.now) _ selected.items kept
    (rw c.in_ok-pairs.ensures.value (selected_heavy c.args.family.now c.args.per_mille _ c.args.merged.now)))
    c.select.ensures.kept
