use Rattle.std.proofs.Common.{Bool, ◌||◌, sym, ◌∙◌, ap}
use Rattle.mon_central.specs.Sketched.{any_mark}
use Rattle.mon_central.proofs.Packets.{any_mark-more, or_true, or_false}
use Rattle.mon_central.proofs.sketching.Sketched.any_dropped.Goals as goal
use Rattle.mon_central.proofs.sketching.Sketched.any_dropped.Goals.{then-dropped, else-dropped}

pub loop-level-preserved : goal.loop-level-preserved
loop-level-preserved c = λ items holds.
    let setting = c.args.self.now.levels.setting in
    let level = c.loop-level.level in
    let here = c.dropped.ensures.list items holds in
    elim c.if-dropped.branch [
      | then-dropped w ↦
          w.dropped-is ∙ w.if-dropped.true
          ∙ sym (any_mark-more setting items level ∙ ap (λ (b : Bool). any_mark setting items level || b) (sym here
          ∙ w.if-dropped.true) ∙ or_true (any_mark setting items level))
      | else-dropped w ↦
          w.dropped-is ∙ c.loop-level.invariant items holds
          ∙ sym (any_mark-more setting items level ∙ ap (λ (b : Bool). any_mark setting items level || b) (sym here
          ∙ w.if-dropped.false) ∙ or_false (any_mark setting items level))
    ]
