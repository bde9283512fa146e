use Rattle.std.proofs.Common.{◌≡◌, ◌<◌, false, length, sym, arith}
use Rattle.std.proofs.lemmas.Grind.{common_steps}
use Rattle.bound_certificate.specs.Placement.{is_chosen}
use Rattle.bound_certificate.proofs.Below.{all_below_fails}
use Rattle.bound_certificate.proofs.placement.are_chosen.Goals as goal

pub returns-then-not-has : goal.returns-then-not-has
unfolding is_chosen
returns-then-not-has c =
    let below : c.loop-i.i < length c.args.choices.now = omega arith in
    let fails : is_chosen c.args.problem.now c.args.choices.now c.loop-i.i ≡ false = grind (arith, common_steps) in
    sym (all_below_fails (is_chosen c.args.problem.now c.args.choices.now)
    (length c.args.choices.now) c.loop-i.i below fails)
