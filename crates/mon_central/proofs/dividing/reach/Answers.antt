use Rattle.std.proofs.Common.{◌≡◌, ◌+◌, ◌++◌, [], ◌∷◌, List, length, sym, ◌∙◌, ap, subst, arith, length-append}
use Rattle.mon_central.specs.Sketched.{Splits}
use Rattle.mon_central.specs.declared.gathering.Gathered.{Gathered}
use Rattle.mon_central.proofs.Splitting.{splits_reach}
use Rattle.mon_central.proofs.dividing.reach.Goals as goal

pub loop-alloc-preserved : goal.loop-alloc-preserved
loop-alloc-preserved c =
    let before = c.loop-alloc.sketches.items in
    let gathered = c.in_ok-gathered.gathered in
    let grown : c.push.new.self.items ≡ before ++ gathered ∷ [] = c.in-Ok.ensures.items in
    let number : length c.push.new.self.items ≡ length before + 1 =
    ap (λ (l : List Gathered). length l) grown ∙ length-append before (gathered ∷ []) in
    let invariant = c.loop-alloc.invariant in (
      omega (arith, number, c.loop-alloc-test.true, c.len.ensures),
      omega (arith, number, invariant.1),
      λ routed splits.
          subst (λ (l : List Gathered). Splits c.args.setting.now l routed) (sym grown)
          (splits_reach c.args.setting.now before gathered routed c.in_ok-gathered.ensures (invariant.2 routed splits)),
    )
