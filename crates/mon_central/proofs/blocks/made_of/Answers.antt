use Rattle.std.proofs.Common.{subst, arith}
use Rattle.sketch_levels.specs.Stands.{packets_of, weights_of}
use Rattle.sketch_levels.proofs.Standing.{number_of-all, weight_of-all}
use Rattle.mon_central.specs.Sketched.{Gathers}
use Rattle.mon_central.specs.declared.gathering.Gathered.{Gathered}
use Rattle.mon_central.proofs.Packets.{sketches_own, sketches_settled}
use Rattle.mon_central.proofs.Ranges.{if_ok_weaker}
use Rattle.mon_central.proofs.blocks.made_of.Goals as goal

pub settled-requires-clause-few : goal.settled-requires-clause-few
settled-requires-clause-few c =
    let whole = c.requires.gathered in
    let told = subst (λ (g : Gathered). Gathers c.args.setting.now g whole.items) c.in-Tallied.is whole.gathers in
    omega (arith, number_of-all (packets_of c.in-Tallied.tally) whole.items told.1.packets, whole.few)

pub settled-requires-clause-light : goal.settled-requires-clause-light
settled-requires-clause-light c =
    let whole = c.requires.gathered in
    let told = subst (λ (g : Gathered). Gathers c.args.setting.now g whole.items) c.in-Tallied.is whole.gathers in
    omega (arith, weight_of-all (weights_of c.in-Tallied.tally) whole.items told.1.weights, whole.light)

pub made_from-requires-clause-sketch : goal.made_from-requires-clause-sketch
made_from-requires-clause-sketch c =
    let whole = c.requires.gathered in
    let told = subst (λ (g : Gathered). Gathers c.args.setting.now g whole.items) c.in-Tallied.is whole.gathers in
    record {
      range = whole.range;
      items = whole.items;
      few = whole.few;
      sketches = sketches_settled c.args.setting.now c.in_ok-sketched-in-Tallied.sketched c.in-Tallied.tally whole.items
          told c.in_ok-sketched-in-Tallied.ensures;
    }

pub returns-in-Fed-clause-text : goal.returns-in-Fed-clause-text
returns-in-Fed-clause-text c = if_ok_weaker c.made_from-in-Fed.result (λ made told earlier items gathers before.
    let own = subst (λ (g : Gathered). Gathers c.args.setting.now g items) c.in-Fed.is gathers in
    told earlier items (sketches_own c.args.setting.now c.in-Fed.sketched items own) before)
    c.made_from-in-Fed.ensures.text

pub returns-in-Fed-clause-view : goal.returns-in-Fed-clause-view
returns-in-Fed-clause-view c = if_ok_weaker c.made_from-in-Fed.result (λ made told items gathers.
    let own = subst (λ (g : Gathered). Gathers c.args.setting.now g items) c.in-Fed.is gathers in
    told items (sketches_own c.args.setting.now c.in-Fed.sketched items own)) c.made_from-in-Fed.ensures.view
