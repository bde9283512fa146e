use Rattle.std.proofs.Common.{◌+◌, ◌≤◌, FitsSigned, subst, rules}
use Rattle.std.specs.Int.{w128}
use Rattle.std.proofs.lemmas.Int.{to_z-of_z}
use Rattle.sketch_merge.specs.Merged.{View}
use Rattle.change_report.proofs.Bounds.{levels_within, total_within}
use Rattle.change_report.proofs.changes.change.Goals as goal

pub select-requires-clause-total : goal.select-requires-clause-total
select-requires-clause-total c =
    let fits : FitsSigned w128 c.g_sum-total.result = search rules in
    let params = c.less.inside.params in
    let high : c.in_ok-less.less.setting.levels ≤ 16 =
    subst (λ (v : View). v.setting.levels ≤ 16) c.less.view_is
    (levels_within params.levels params.rows params.width params.heap c.less.invariant.within) in
    rw (to_z-of_z w128 _ fits)
    (total_within c.in_ok-less.less.setting.levels c.g_sum-total.result high
    (c.g_sum-total.ensures.bound (1048576 + 1048576)
    (c.in_ok-less.ensures.few 1048576 1048576 c.requires.few c.requires.before_few)))
