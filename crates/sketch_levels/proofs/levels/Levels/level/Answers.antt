use Rattle.std.proofs.Common.{◌≡◌, ℕ, ◌+◌, length, get_or, ◌∙◌, ap, arith}
use Rattle.std.proofs.lemmas.List.{get_or_default}
use Rattle.sketch_levels.specs.Levels.{View, level_at, no_layer}
use Rattle.sketch_levels.proofs.levels.Levels.level.Goals as goal

pub returns-clause-value : goal.returns-clause-value
unfolding level_at
returns-clause-value c =
    let items = c.self.inside.levels.items in
    let levels : length c.self.inside.levels.items ≡ c.args.self.now.setting.levels + 1 =
    c.self.invariant.1.number ∙ ap (λ (view : View). view.setting.levels + 1) c.self.view_is in
    c.index.ensures
    ∙ get_or_default items c.from.result c.index.result.now no_layer (omega (arith, c.from.ensures, c.requires))
    ∙ ap (λ (place : ℕ). get_or items place no_layer) c.from.ensures
    ∙ ap (λ (view : View). get_or view.levels c.args.level no_layer) c.self.view_is
