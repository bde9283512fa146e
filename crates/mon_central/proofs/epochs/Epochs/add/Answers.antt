use Rattle.std.proofs.Common.{◌≡◌, ◌<◌, ◌+◌, [], ◌∷◌, ◌++◌, List, length, Option, IfSome, rules, sym, ◌∙◌, ap, subst, arith, length-append}
use Rattle.std.proofs.lemmas.List.{with_items_is}
use Rattle.std.proofs.lemmas.List.Sums.{sum_by_push}
use Rattle.std.specs.Option.{option_to_list}
use Rattle.flow_keys.specs.declared.routed.Routed.{Routed}
use Rattle.routed_trace.specs.Routed.{routed_of, weight_of_routed}
use Rattle.routed_trace.proofs.Records.{length-routed_of-le}
use Rattle.routed_trace.proofs.Weights.{routed_light}
use Rattle.mon_central.specs.Sketched.{Splits}
use Rattle.mon_central.specs.declared.gathering.Gathered.{Gathered}
use Rattle.mon_central.proofs.OneMore.{divides_more, splits_none, splits_one}
use Rattle.mon_central.proofs.epochs.Epochs.add.Goals as goal

pub returns-in_default-found : goal.returns-in_default-found
returns-in_default-found c = λ header members member divides is key_is.
    let added = c.in-Ok.ensures.adds header members member divides.counts_are is key_is in
    let routed = routed_of c.args.setting.now.division c.args.topology.now header members in
    divides_more c.in-Ok.found member divides added c.in-Ok-reach.ensures.number
    (splits_none c.args.setting.now c.reach.new.sketches.items routed c.in-Ok.found c.in_default-found.is
    (c.in-Ok-reach.ensures.splits routed divides.splits))

pub add_to-requires-clause-within : goal.add_to-requires-clause-within
add_to-requires-clause-within c =
    let within : c.in-Some.routed.epoch < c.add.new.self.epochs =
    subst (λ (f : Option Routed). IfSome f (λ (p : Routed). p.epoch < c.add.new.self.epochs)) c.in-Some.is
    c.in-Ok.ensures.within in
    let size : length c.deref_mut.result.now ≡ length c.reach.new.sketches.items = ap (λ (l : List Gathered). length l)
    c.deref_mut.ensures.value in
    omega (arith, within, size, c.in-Ok-reach.ensures.number)

pub add_to-requires-clause-room : goal.add_to-requires-clause-room
add_to-requires-clause-room c =
    let next = c.requires.next in
    let division = c.args.setting.now.division in
    let topology = c.args.topology.now in
    let routed = routed_of division topology next.header next.members in
    let added = c.in-Ok.ensures.adds next.header next.members next.member next.divides.counts_are next.packet_is
    next.key_is in
    let packet = c.in-Some.routed in
    let all = next.members ++ next.member ∷ [] in
    let weight : weight_of_routed (routed_of division topology next.header all) ≡ weight_of_routed
    routed + packet.weight =
    ap weight_of_routed (added.1 ∙ ap (λ (f : Option Routed). routed ++ option_to_list f) c.in-Some.is)
    ∙ sum_by_push (λ (p : Routed). p.weight) routed packet in record {
      setting = c.args.setting.now;
      range = c.requires.range;
      routed = routed;
      few = omega (arith, length-routed_of-le division topology next.header next.members, next.few);
      light = omega (
        arith,
        weight,
        routed_light division topology next.header all
            (omega (arith, next.few, length-append next.members (next.member ∷ []))) added.0.divided,
      );
      splits = subst (λ (l : List Gathered). Splits c.args.setting.now l routed) (sym c.deref_mut.ensures.value)
          (c.in-Ok-reach.ensures.splits routed next.divides.splits);
    }

pub returns-in-Ok-add_to : goal.returns-in-Ok-add_to
returns-in-Ok-add_to c = λ header members member divides is key_is.
    let added = c.in-Ok.ensures.adds header members member divides.counts_are is key_is in
    let routed = routed_of c.args.setting.now.division c.args.topology.now header members in
    let packet = c.in-Some.routed in
    let size : length c.add_to.new.sketches ≡ c.reach.new.sketches.len = search rules in
    let kept = with_items_is c.reach.new.sketches c.add_to.new.sketches size in
    let same : length c.deref_mut.result.now ≡ length c.reach.new.sketches.items = ap (λ (l : List Gathered). length l)
    c.deref_mut.ensures.value in
    divides_more c.in-Ok.found member divides added
    (ap (λ (l : List Gathered). length l) kept ∙ c.in-Ok-add_to.ensures.number ∙ same ∙ c.in-Ok-reach.ensures.number)
    (subst (λ (l : List Gathered). Splits c.args.setting.now l (routed ++ option_to_list c.in-Ok.found)) (sym kept)
    (splits_one c.args.setting.now c.add_to.new.sketches routed c.in-Ok.found packet c.in-Some.is
    (c.in-Ok-add_to.ensures.splits c.args.setting.now routed
    (subst (λ (l : List Gathered). Splits c.args.setting.now l routed) (sym c.deref_mut.ensures.value)
    (c.in-Ok-reach.ensures.splits routed divides.splits)))))
