use Rattle.std.proofs.Common.{◌≡◌, ◌+◌, ◌++◌, ◌<◌, [], ◌∷◌, length, take, get_or, sym, ◌∙◌, ap, arith}
use Rattle.std.proofs.lemmas.List.{map-append, take_more}
use Rattle.count_sketch.specs.Counters.{Item}
use Rattle.sketch_levels.specs.Stands.{KeyTotal, packets_of, weights_of}
use Rattle.mon_central.proofs.Packets.{has_room, weight_of-take}
use Rattle.mon_central.proofs.gathering.settled.Goals as goal

abbrev weighed : KeyTotal → Item
weighed entry = record { key = entry.key; weight = entry.weight }

abbrev counted : KeyTotal → Item
counted entry = record { key = entry.key; weight = entry.packets }

pub feed-requires : goal.feed-requires
feed-requires c =
    let tally = c.args.tally.now in
    let i = c.loop-index.index in
    let total = c.entry-key.result.1 in
    let entry : KeyTotal = record { key = c.entry-key.result.0; packets = total.packets; weight = total.weight } in
    let within : i < length tally = omega (arith, c.loop-index-test.true, c.len-index-end.ensures.value) in
    let is = c.entry-key.ensures.value entry in
    let packets : entry.packets ≡ (get_or tally i entry).packets = ap (λ (e : KeyTotal). e.packets) is in
    let weight : entry.weight ≡ (get_or tally i entry).weight = ap (λ (e : KeyTotal). e.weight) is in
    has_room c.args.setting.now c.loop-index.sketched (weights_of (take i tally)) (packets_of (take i tally))
    total.packets total.weight c.loop-index.invariant c.requires.range
    (omega (arith, weight_of-take counted tally i entry within, packets, c.requires.few))
    (omega (arith, weight_of-take weighed tally i entry within, weight, c.requires.light))

pub loop-index-preserved : goal.loop-index-preserved
loop-index-preserved c =
    let tally = c.args.tally.now in
    let i = c.loop-index.index in
    let total = c.entry-key.result.1 in
    let entry : KeyTotal = record { key = c.entry-key.result.0; packets = total.packets; weight = total.weight } in
    let within : i < length tally = omega (arith, c.loop-index-test.true, c.len-index-end.ensures.value) in
    let more : take (i + 1) tally ≡ take i tally ++ entry ∷ [] = take_more tally i entry within
    ∙ ap (λ (e : KeyTotal). take i tally ++ e ∷ []) (sym (c.entry-key.ensures.value entry)) in
    let weights : weights_of (take (i + 1) tally) ≡ weights_of (take i tally) ++ weighed entry ∷ [] = ap weights_of more
    ∙ map-append weighed (take i tally) (entry ∷ []) in
    let packets : packets_of (take (i + 1) tally) ≡ packets_of (take i tally) ++ counted entry ∷ [] = ap packets_of more
    ∙ map-append counted (take i tally) (entry ∷ []) in
    rw (weights, packets) (c.in_ok-feed.ensures c.args.setting.now (weights_of (take i tally))
    (packets_of (take i tally)) c.loop-index.invariant)
