use Rattle.std.proofs.Common.{◌≡◌, ◌≢◌, ◌<◌, ◌+◌, ◌-◌, ℕ, length, ◌∙◌, ap, arith, length-set, get_or-set_other}
use Rattle.mon_central.specs.Central.{central_view}
use Rattle.routed_trace.specs.Routed.{items_in}
use Rattle.routed_trace.proofs.Weights.{items_in_light}
use Rattle.mon_central.proofs.Splitting.{epochs_lines-push, gathered_at, length-items_in-le}
use Rattle.mon_central.proofs.blocks.epochs_text.Goals as goal

pub made_of-requires-clause-gathered : goal.made_of-requires-clause-gathered
made_of-requires-clause-gathered c =
    let epoch = c.loop-epoch.epoch in
    let routed = c.requires.routed in
    let d = c.index-sketches-epoch.result in
    let within : epoch < length c.args.sketches.now = omega (arith, c.loop-epoch-test.true, c.loop-epoch.invariant.3) in
    record {
      range = c.requires.range;
      items = items_in epoch routed;
      few = omega (arith, length-items_in-le epoch routed, c.requires.few);
      light = omega (arith, items_in_light epoch routed, c.requires.light);
      gathers = gathered_at c.args.setting.now c.args.sketches.now routed epoch _ d
          (c.loop-epoch.invariant.4 epoch d (omega arith)) within c.requires.splits;
    }

pub loop-epoch-preserved : goal.loop-epoch-preserved
loop-epoch-preserved c =
    let setting = c.args.setting.now in
    let epoch = c.loop-epoch.epoch in
    let d = c.index-sketches-epoch.result in
    let within : epoch < length c.args.sketches.now = omega (arith, c.loop-epoch-test.true, c.loop-epoch.invariant.3) in
    let invariant = c.loop-epoch.invariant in (
      λ routed splits.
          let items = items_in epoch routed in
          let gathers = gathered_at setting c.args.sketches.now routed epoch _ d (invariant.4 epoch d (omega arith))
          within splits in
          c.in-Ok.ensures.bytes
          ∙ epochs_lines-push setting routed epoch _ _ (invariant.0 routed splits)
          (c.deref.ensures ∙ c.in_ok-made.ensures.text (items_in (epoch - 1) routed) items gathers
          (invariant.1 routed splits)),
      λ routed splits.
          let items = items_in epoch routed in
          let gathers = gathered_at setting c.args.sketches.now routed epoch _ d (invariant.4 epoch d (omega arith))
          within splits in
          let same : epoch ≡ epoch + 1 - 1 = omega arith in (
            omega arith,
            c.in_ok-made.ensures.view items gathers
                ∙ ap (λ (n : ℕ). central_view setting (items_in n routed)) same,
          ),
      (omega arith, c.in_ok-made.ensures.merged),
      length-set c.loop-epoch.sketches epoch c.made_of.new.gathered ∙ invariant.3,
      λ k e above.
          let other : k ≢ epoch = omega arith in
          get_or-set_other c.loop-epoch.sketches epoch k c.made_of.new.gathered e other ∙ invariant.4 k e (omega arith),
    )
