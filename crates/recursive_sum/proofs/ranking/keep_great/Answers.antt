use Rattle.std.proofs.Common.{ℕ, ℤ, List, leb, unsigned_abs, ◌∙◌, ap, rules}
use Rattle.std.specs.Int.{w128}
use Rattle.std.proofs.lemmas.Int.{to_z-of_z}
use Rattle.std.proofs.lemmas.Fn.{filter_same}
use Rattle.std.proofs.lemmas.List.Elements.{filter_agree}
use Rattle.recursive_sum.specs.Select.{is_great, is_selected}
use Rattle.recursive_sum.proofs.ranking.keep_great.Goals as goal

pub returns : goal.returns
unfolding is_selected
returns c =
    filter_same _ (λ (pair : List ℕ × ℤ). leb c.least_great-least.result (unsigned_abs pair.1)) _
    (λ x b f k. search rules) _ _ c.retain.ensures.filtered
    ∙ filter_agree _ (is_selected c.args.per_mille c.args.total)
    (λ pair. c.least_great-least.ensures (unsigned_abs pair.1)
    ∙ ap (λ (total : ℤ). is_great c.args.per_mille total (unsigned_abs pair.1))
    (to_z-of_z w128 c.args.total c.ranges.total)) c.args.pairs.now.items
