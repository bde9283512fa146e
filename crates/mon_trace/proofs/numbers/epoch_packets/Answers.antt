use Rattle.std.proofs.Common.{◌≡◌, ◌<◌, get_or, refl, ◌∙◌, ap, arith}
use Rattle.flow_keys.specs.declared.routed.Routed.{Routed}
use Rattle.mon_trace.proofs.Counting.{counted_few, counted_more, counted_none}
use Rattle.mon_trace.proofs.numbers.epoch_packets.Goals as goal

pub loop-packet-init : goal.loop-packet-init
loop-packet-init c = counted_none c.args.packets.now

pub overflow_add-numbers : goal.overflow_add-numbers
overflow_add-numbers c =
    let i = c.loop-packet.packet-index in
    let packet = c.packet-item.result in
    let at : c.from.result ≡ (get_or c.args.packets.now i packet).epoch = c.from.ensures
    ∙ ap (λ (p : Routed). p.epoch) c.packet-item.is in
    let low : c.from.result < 8 = omega (arith, at, c.requires.within i packet c.loop-packet-test.true) in
    omega (
      arith,
      c.requires.few,
      counted_few c.args.packets.now i c.loop-packet.numbers c.from.result c.loop-packet.invariant (omega arith) low,
    )

pub loop-packet-preserved : goal.loop-packet-preserved
loop-packet-preserved c =
    let i = c.loop-packet.packet-index in
    let packet = c.packet-item.result in
    let at : c.from.result ≡ (get_or c.args.packets.now i packet).epoch = c.from.ensures
    ∙ ap (λ (p : Routed). p.epoch) c.packet-item.is in
    let low : c.from.result < 8 = omega (arith, at, c.requires.within i packet c.loop-packet-test.true) in
    counted_more c.args.packets.now i packet c.loop-packet.numbers c.from.result _ c.loop-packet-test.true at low
    c.loop-packet.invariant refl
