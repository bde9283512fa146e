-- Where no heap dropped a key, the keys of the shares are those of the epoch.
use Rattle.std.proofs.Common.{◌≡◌, ℕ, ◌-◌, ◌<◌, ◌&&◌, false, List, map, sym, ◌∙◌, ap, arith}
use Rattle.std.specs.List.{filter, flat_map, list_any, range_with_len}
use Rattle.std.proofs.lemmas.Bool.{ltb-false}
use Rattle.child_worker.specs.Replies.{fed}
use Rattle.count_sketch.specs.Counters.{Item}
use Rattle.flow_keys.proofs.KeySets.{same}
use Rattle.flow_keys.specs.declared.routed.Routed.{Routed}
use Rattle.hash_family.specs.Hash.{is_live}
use Rattle.hash_family.specs.Setting.{Setting}
use Rattle.reply_format.specs.Reply.{level_count}
use Rattle.routed_trace.specs.Routed.{item_of, items_in}
use Rattle.sketch_levels.specs.Items.{distinct, distinct_keys, live_items}
use Rattle.sketch_levels.specs.Kept.{is_dropped, kept_keys}
use Rattle.sketch_levels.proofs.Kept.{all_kept}
use Rattle.sketch_merge.specs.Merged.{View}
use Rattle.topology.proofs.SeenLists.{list_any-map}
use Rattle.path_shares.specs.Honest.{IsUnited, IsWhole, any_drops, share_drops, share_keys, whole_view}
use Rattle.path_shares.specs.Shares.{AreOn, share, switch_of}
use Rattle.path_shares.proofs.Alike.{AreAlike, change_blocks_alike, epoch_blocks_alike}
use Rattle.path_shares.proofs.KeyLists.{any-distinct, ascending-distinct, one_list}
use Rattle.path_shares.proofs.Parts.{each_given, fed-share, given_to, packets_in}
use Rattle.path_shares.proofs.Ranges.{map_below}
use Rattle.path_shares.proofs.Tests.{list_any-agree, list_any-filter, list_any-flat_map, list_any-parts, none_passes}

-- a key is among those of some packets that are live at a level
live_any : (seed level : ℕ) (q : List ℕ) (packets : List Routed)
    → list_any (same q) (distinct_keys (live_items seed level (map item_of packets)))
    ≡ list_any (λ packet. is_live seed level packet.key && same q packet.key) packets
unfolding live_items
live_any seed level q packets =
    let items = map item_of packets in
    let live = filter (λ (item : Item). is_live seed level item.key) items in
    any-distinct q (map (λ item. item.key) live)
    ∙ list_any-map (same q) (λ (item : Item). item.key) live
    ∙ list_any-filter (λ (item : Item). is_live seed level item.key) (λ item. same q item.key) items
    ∙ list_any-map (λ (item : Item). is_live seed level item.key && same q item.key) item_of packets

-- the keys of all shares that are live at a level are those of the epoch
any_shares : (seed level : ℕ) (q : List ℕ) (switches : ℕ) (placement : List ℕ) (epoch : ℕ) (routed : List Routed)
    → AreOn switches placement routed
    → list_any (λ switch. list_any (same q)
    (distinct_keys (live_items seed level (fed (share placement epoch switch routed))))) (range_with_len 0 switches)
    ≡ list_any (same q) (distinct_keys (live_items seed level (items_in epoch routed)))
unfolding items_in
any_shares seed level q switches placement epoch routed on =
    let packets = packets_in epoch routed in
    let of_packet = λ (packet : Routed). is_live seed level packet.key && same q packet.key in
    (λ i. list_any (λ switch. part switch i) (range_with_len 0 switches))
    ∙ list_any-parts of_packet (switch_of placement) switches packets
    (each_given switches placement epoch routed on)
    ∙ sym (live_any seed level q packets)
  where
    part : (switch : ℕ) → list_any (same q)
        (distinct_keys (live_items seed level (fed (share placement epoch switch routed))))
        ≡ list_any (λ packet. is_live seed level packet.key && same q packet.key)
        (given_to placement switch (packets_in epoch routed))
    part switch =
        ap (λ (items : List Item). list_any (same q) (distinct_keys (live_items seed level items)))
        (fed-share placement epoch switch routed)
        ∙ live_any seed level q (given_to placement switch (packets_in epoch routed))

module _ (setting : Setting) (switches : ℕ) (placement : List ℕ) (routed : List Routed) (epoch : ℕ) where
  -- the keys of a share that are live at a level
  abbrev live_keys : ℕ → ℕ → List (List ℕ)
  live_keys level switch = distinct_keys (live_items setting.seed level (fed (share placement epoch switch routed)))

  -- a share that drops no key at a level keeps all its keys there
  share_keeps : (level switch : ℕ) → share_drops setting placement routed epoch switch level ≡ false
      → share_keys setting placement routed epoch level switch ≡ live_keys level switch
  unfolding is_dropped kept_keys
  share_keeps level switch none =
      all_kept setting level (live_items setting.seed level (fed (share placement epoch switch routed)))
      (ltb-false _ _ none)

  -- no share drops a key at a level where none drops one at all
  none_drops : any_drops setting switches placement routed epoch ≡ false → (level switch : ℕ)
      → level < level_count setting → switch < switches
      → share_drops setting placement routed epoch switch level ≡ false
  none_drops none level switch within below =
      none_passes (share_drops setting placement routed epoch switch) 0 (level_count setting) level
      (none_passes (λ s. list_any (share_drops setting placement routed epoch s)
      (range_with_len 0 (level_count setting))) 0 switches switch none (omega arith) (omega arith))
      (omega arith) (omega arith)

  -- where no share drops a key, their keys are those of the epoch
  keys_whole : AreOn switches placement routed → (level : ℕ) → level < level_count setting
      → any_drops setting switches placement routed epoch ≡ false
      → distinct (flat_map (share_keys setting placement routed epoch level) (range_with_len 0 switches))
      ≡ distinct_keys (live_items setting.seed level (items_in epoch routed))
  keys_whole on level within none =
      let named = share_keys setting placement routed epoch level in
      one_list _ _ (ascending-distinct _) (ascending-distinct _) (λ q.
      any-distinct q (flat_map named (range_with_len 0 switches))
      ∙ list_any-flat_map (same q) named (range_with_len 0 switches)
      ∙ list_any-agree (λ switch. list_any (same q) (named switch))
      (λ switch. list_any (same q) (live_keys level switch)) 0 switches
      (λ switch above below. ap (list_any (same q))
      (share_keeps level switch (none_drops none level switch within (omega arith))))
      ∙ any_shares setting.seed level q switches placement epoch routed on)

  -- an epoch that is not marked is that of a sketch with every live key, but for the size of the heaps
  pub alike_whole : (view : View) → view.setting ≡ setting → AreOn switches placement routed
      → IsUnited setting switches placement routed epoch view → view.dropped ≡ false
      → AreAlike view (whole_view setting routed epoch)
  unfolding whole_view
  alike_whole view shape on united unmarked = record {
    levels = ap (λ (s : Setting). s.levels) shape;
    rows = ap (λ (s : Setting). s.rows) shape;
    width = ap (λ (s : Setting). s.width) shape;
    weight = united.weight;
    counters = united.counters;
    keys = united.keys ∙ map_below _ _ (level_count setting)
        (λ level within. keys_whole on level within (sym united.mark ∙ unmarked));
    dropped = unmarked;
  }

-- the epochs that are not marked have the lines of a sketch with every live key
pub whole_epochs : (setting : Setting) (switches : ℕ) (placement : List ℕ) (routed : List Routed) (epochs : ℕ)
    (view : ℕ → View) → AreOn switches placement routed
    → ((epoch : ℕ) → epoch < epochs → (view epoch).setting ≡ setting)
    → ((epoch : ℕ) → epoch < epochs → IsUnited setting switches placement routed epoch (view epoch))
    → IsWhole setting routed epochs view
whole_epochs setting switches placement routed epochs view on shape united =
    let alike : (epoch : ℕ) → epoch < epochs → (view epoch).dropped ≡ false
    → AreAlike (view epoch) (whole_view setting routed epoch) = λ epoch within unmarked.
    alike_whole setting switches placement routed epoch (view epoch) (shape epoch within) on (united epoch within)
    unmarked in
    record {
      block = λ form heavy epoch packets within unmarked.
          epoch_blocks_alike form setting.seed heavy epoch packets (view epoch) (whole_view setting routed epoch)
          (alike epoch within unmarked);
      change = λ form heavy epoch later within before now.
          change_blocks_alike form setting.seed heavy epoch (view (epoch - 1)) (whole_view setting routed (epoch - 1))
          (view epoch) (whole_view setting routed epoch) (alike (epoch - 1) (omega arith) before)
          (alike epoch within now);
    }
