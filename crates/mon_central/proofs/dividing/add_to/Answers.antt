use Rattle.std.proofs.Common.{ℕ, List, [], ◌∷◌, ◌++◌, set, arith, subst, sym}
use Rattle.std.specs.List.{slice_index_or}
use Rattle.std.proofs.lemmas.Result.{on_ok_weaker}
use Rattle.mon_central.proofs.Packets.{has_place}
use Rattle.mon_central.proofs.Splitting.{length-items_in-le, splits_add}
use Rattle.count_sketch.specs.Counters.{Item}
use Rattle.routed_trace.specs.Routed.{item_of, items_in}
use Rattle.mon_central.specs.Sketched.{HasPlace, Gathers, Splits}
use Rattle.routed_trace.proofs.Weights.{items_in_light}
use Rattle.mon_central.proofs.dividing.add_to.Goals as goal

pub add-requires : goal.add-requires
add-requires c =
    let room = c.requires.room in
    let packet = c.args.packet.now in
    let d = c.index-sketches-from.result in
    subst (λ (place : ℕ). HasPlace (slice_index_or c.args.sketches.now place d) packet.weight)
    (sym c.from.ensures)
    (has_place room.setting _ (items_in packet.epoch room.routed) packet.weight
    (room.splits.each packet.epoch c.index-sketches-from.result c.requires.within) room.range
    (omega (arith, length-items_in-le packet.epoch room.routed, room.few))
    (omega (arith, items_in_light packet.epoch room.routed, room.light)))

pub returns-clause-splits : goal.returns-clause-splits
returns-clause-splits c = on_ok_weaker c.add.result (λ adds setting routed splits.
    let packet = c.args.packet.now in
    let sketches = c.args.sketches.now in
    let old = c.index-sketches-from.result in
    subst (λ (place : ℕ). Splits setting (set sketches place c.add.new.self) (routed ++ packet ∷ []))
    (sym c.from.ensures)
    (splits_add setting sketches packet old c.add.new.self routed c.requires.within
    (subst (λ (place : ℕ). (items : List Item) → Gathers setting (slice_index_or sketches place old) items
    → Gathers setting c.add.new.self (items ++ item_of packet ∷ [])) c.from.ensures (adds setting))
    splits)) c.add.ensures
