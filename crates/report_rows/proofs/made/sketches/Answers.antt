use Rattle.std.proofs.Common.{◌≡◌, List, [], ◌∷◌, ◌++◌, All, length, sym, ap, subst, arith}
use Rattle.std.proofs.lemmas.List.{length-append}
use Rattle.std.proofs.lemmas.List.Elements.{All-push}
use Rattle.hash_family.specs.Setting.{setting_of}
use Rattle.sketch_merge.specs.Merged.{View}
use Rattle.measure_report.specs.Run.{IsEpoch}
use Rattle.report_rows.proofs.made.sketches.Goals as goal

pub loop-preserved : goal.loop-preserved
loop-preserved g c =
    let before : List View = c.loop.sketches.items in
    let sketch : View = c.nothing-sketch.result in
    let pushed : c.push.new.self.items ≡ before ++ sketch ∷ [] = rw c.expect.ensures at c.push.ensures.items in (
      omega (
        arith,
        ap (λ (all : List View). length all) pushed,
        length-append before (sketch ∷ []),
        c.loop.invariant.0,
      ),
      subst (All (IsEpoch (setting_of c.args.params))) (sym pushed)
          (All-push (IsEpoch (setting_of c.args.params)) before sketch c.loop.invariant.1 c.nothing-sketch.ensures.epoch),
    )

pub returns-clause-setting : goal.returns-clause-setting
returns-clause-setting g c = λ epoch other within. (c.loop.invariant.1 epoch other within).shape

pub returns-clause-small : goal.returns-clause-small
returns-clause-small g c = λ epoch other within. (c.loop.invariant.1 epoch other within).small

pub returns-clause-few : goal.returns-clause-few
returns-clause-few g c = λ epoch other within. (c.loop.invariant.1 epoch other within).few
