-- What the replies of honest children say together.
use Rattle.std.proofs.Common.{◌≡◌, ℕ, ◌+◌, ◌*◌, ◌<◌, ◌/◌, ◌%◌, cond, List, [], map, get_or, ℤ, pos, refl, sym, ◌∙◌, ap, arith}
use Rattle.std.specs.Prelude.{false}
use Rattle.std.specs.List.{flat_map, list_any, range_with_len}
use Rattle.std.proofs.lemmas.List.Folds.{flat_map-map}
use Rattle.std.proofs.lemmas.List.FromFn.{get_or-map-range_with_len}
use Rattle.child_worker.specs.Replies.{all_counters, all_heaps, fed, level_counters, level_heap, replay_reply}
use Rattle.count_sketch.specs.Counters.{Item, counter, counters_of, int_sum_by}
use Rattle.count_sketch.specs.Counters as counters
use Rattle.count_sketch.proofs.Shares.{get_or-counters_of, length-counters_of}
use Rattle.flow_keys.specs.declared.routed.Routed.{Routed}
use Rattle.hash_family.specs.Hash.{is_live}
use Rattle.hash_family.specs.Setting.{Setting}
use Rattle.reply_format.specs.Reply.{ReplayReply, level_count}
use Rattle.routed_trace.specs.Routed.{item_of, items_in}
use Rattle.sketch_levels.specs.Items.{distinct, live_items, weight_of}
use Rattle.sketch_merge.specs.Merging.{counter_in, has_dropped, heap_in, is_marked, level_size, merged_counters, merged_view, named_keys}
use Rattle.topology.proofs.SeenLists.{list_any-map}
use Rattle.path_shares.specs.Honest.{IsUnited, any_drops, honest_replies, share_drops, share_heap, share_keys}
use Rattle.path_shares.specs.Shares.{AreOn, share, share_job, switch_of}
use Rattle.path_shares.proofs.KeyLists.{united-distinct}
use Rattle.path_shares.proofs.Parts.{each_given, fed-share, given_to, packets_in}
use Rattle.path_shares.proofs.Ranges.{get_or-pieces, map_agree, map_below}
use Rattle.path_shares.proofs.Sums.{int_sum_by-filter, int_sum_by-map, int_sum_by-parts}

-- a sum over the items of some packets that are live at a level
live_sum : (seed level : ℕ) (g : Item → ℤ) (packets : List Routed)
    → int_sum_by g (live_items seed level (map item_of packets))
    ≡ int_sum_by (λ packet. cond (is_live seed level packet.key) (g (item_of packet)) (pos 0)) packets
unfolding live_items
live_sum seed level g packets =
    int_sum_by-filter (λ item. is_live seed level item.key) g (map item_of packets)
    ∙ int_sum_by-map (λ item. cond (is_live seed level item.key) (g item) (pos 0)) item_of packets

-- the sums over the shares are together the sum over the epoch
shares_sum : (seed level : ℕ) (g : Item → ℤ) (switches : ℕ) (placement : List ℕ) (epoch : ℕ) (routed : List Routed)
    → AreOn switches placement routed
    → int_sum_by (λ switch. int_sum_by g (live_items seed level (fed (share placement epoch switch routed))))
    (range_with_len 0 switches) ≡ int_sum_by g (live_items seed level (items_in epoch routed))
unfolding items_in
shares_sum seed level g switches placement epoch routed on =
    let packets = packets_in epoch routed in
    let of_packet = λ (packet : Routed). cond (is_live seed level packet.key) (g (item_of packet)) (pos 0) in
    (λ i. int_sum_by (λ switch. part switch i) (range_with_len 0 switches))
    ∙ int_sum_by-parts of_packet (switch_of placement) switches packets
    (each_given switches placement epoch routed on)
    ∙ sym (live_sum seed level g packets)
  where
    part : (switch : ℕ) → int_sum_by g (live_items seed level (fed (share placement epoch switch routed)))
        ≡ int_sum_by (λ packet. cond (is_live seed level packet.key) (g (item_of packet)) (pos 0))
        (given_to placement switch (packets_in epoch routed))
    part switch =
        ap (λ (items : List Item). int_sum_by g (live_items seed level items))
        (fed-share placement epoch switch routed)
        ∙ live_sum seed level g (given_to placement switch (packets_in epoch routed))

module _ (setting : Setting) (switches : ℕ) (placement : List ℕ) (routed : List Routed) (epoch : ℕ) where
  abbrev reply : ℕ → ReplayReply
  reply switch = replay_reply (share_job setting switches placement routed epoch switch)

  -- the items of a share that are live at a level
  abbrev live : ℕ → ℕ → List Item
  live level switch = live_items setting.seed level (fed (share placement epoch switch routed))

  -- a counter of an honest reply
  counter_held : (level place switch : ℕ) → level < level_count setting → place < level_size setting
      → counter_in (level * level_size setting + place) (reply switch)
      ≡ counter setting.seed level setting.width (place / setting.width) (place % setting.width) (live level switch)
  unfolding counter_in all_counters
  counter_held level place switch within inside =
      let items = fed (share placement epoch switch routed) in
      get_or-pieces (level_counters setting items) (level_size setting) 0 (level_count setting) level place (pos 0)
      (λ j. length-counters_of setting.seed j setting.rows setting.width (live_items setting.seed j items))
      within inside
      ∙ ap (λ (j : ℕ). get_or (level_counters setting items j) place (pos 0)) (omega arith)
      ∙ get_or-counters_of setting.seed level setting.rows setting.width (live level switch) place (pos 0) inside

  -- the heap of a level of an honest reply
  heap_held : (level switch : ℕ) → level < level_count setting
      → heap_in level (reply switch) ≡ share_heap setting placement routed epoch switch level
  unfolding heap_in all_heaps
  heap_held level switch within =
      get_or-map-range_with_len (level_heap setting (fed (share placement epoch switch routed))) 0
      (level_count setting) level level (record { dropped = false; keys = [] }) within (omega arith)

  -- the counters of a level are those of the epoch
  counters_united : AreOn switches placement routed → (level : ℕ) → level < level_count setting
      → merged_counters setting (honest_replies setting switches placement routed epoch) level
      ≡ level_counters setting (items_in epoch routed) level
  unfolding merged_counters counters_of counter
  counters_united on level within =
      map_agree (λ place. int_sum_by (counter_in place) (honest_replies setting switches placement routed epoch))
      (λ place. counter setting.seed level setting.width (place / setting.width) (place % setting.width)
      (live_items setting.seed level (items_in epoch routed))) (level * level_size setting) (level_size setting)
      (λ place inside.
      int_sum_by-map (counter_in (level * level_size setting + place)) reply (range_with_len 0 switches)
      ∙ held place inside
      ∙ shares_sum setting.seed level
      (counters.share setting.seed level setting.width (place / setting.width) (place % setting.width))
      switches placement epoch routed on)
    where
      held : (place : ℕ) → place < level_size setting
          → int_sum_by (λ switch. counter_in (level * level_size setting + place) (reply switch))
          (range_with_len 0 switches)
          ≡ int_sum_by (λ switch. int_sum_by
          (counters.share setting.seed level setting.width (place / setting.width) (place % setting.width))
          (live level switch)) (range_with_len 0 switches)
      held place inside i =
          int_sum_by (λ switch. counter_held level place switch within inside i) (range_with_len 0 switches)

  -- the keys of a level are those that the shares keep
  keys_united : (level : ℕ) → level < level_count setting
      → named_keys (honest_replies setting switches placement routed epoch) level
      ≡ distinct (flat_map (share_keys setting placement routed epoch level) (range_with_len 0 switches))
  unfolding named_keys
  keys_united level within =
      united-distinct (flat_map (λ r. (heap_in level r).keys) (map reply (range_with_len 0 switches)))
      ∙ ap distinct (flat_map-map (λ r. (heap_in level r).keys) reply (range_with_len 0 switches)
      ∙ λ i. flat_map (λ switch. (heap_held level switch within i).keys) (range_with_len 0 switches))

  -- some heap of a reply dropped a key where the share does
  mark_of : (switch : ℕ) → has_dropped (reply switch)
      ≡ list_any (share_drops setting placement routed epoch switch) (range_with_len 0 (level_count setting))
  unfolding all_heaps
  mark_of switch =
      list_any-map (λ heap. heap.dropped) (share_heap setting placement routed epoch switch)
      (range_with_len 0 (level_count setting))

  mark_united : is_marked (honest_replies setting switches placement routed epoch)
      ≡ any_drops setting switches placement routed epoch
  unfolding is_marked
  mark_united =
      list_any-map has_dropped reply (range_with_len 0 switches)
      ∙ λ i. list_any (λ switch. mark_of switch i) (range_with_len 0 switches)

  -- an epoch of honest replies
  pub united : AreOn switches placement routed
      → IsUnited setting switches placement routed epoch (merged_view setting (weight_of (items_in epoch routed))
      (honest_replies setting switches placement routed epoch))
  unfolding merged_view
  united on = record {
    weight = refl;
    counters = map_below _ _ (level_count setting) (λ level within. counters_united on level within);
    keys = map_below _ _ (level_count setting) (λ level within. keys_united level within);
    mark = mark_united;
  }
