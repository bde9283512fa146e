-- What the replies of honest children say together.
use Rattle.std.specs.Prelude.{◌≡◌, ℕ, ◌-◌, ◌<◌, Bool, false, List, map}
use Rattle.std.specs.List.{flat_map, list_any, range_with_len}
use Rattle.change_report.specs.Form.{Form, change_block, epoch_block}
use Rattle.child_worker.specs.Replies.{fed, level_counters, level_heap, replay_reply}
use Rattle.flow_keys.specs.declared.routed.Routed.{Routed}
use Rattle.hash_family.specs.Setting.{Setting}
use Rattle.reply_format.specs.Reply.{ReplayReply, level_count}
use Rattle.reply_format.specs.declared.heap.Heap.{Heap}
use Rattle.routed_trace.specs.Routed.{items_in}
use Rattle.sketch_levels.specs.Items.{distinct, distinct_keys, live_items, weight_of}
use Rattle.sketch_merge.specs.Merged.{View}
use Rattle.path_shares.specs.Shares.{share, share_job}

-- the replies of honest children to the jobs of an epoch
abbrev pub honest_replies : Setting → ℕ → List ℕ → List Routed → ℕ → List ReplayReply
honest_replies setting switches placement routed epoch =
    map (λ switch. replay_reply (share_job setting switches placement routed epoch switch))
    (range_with_len 0 switches)

-- the heap of the share of a switch at a level
abbrev pub share_heap : Setting → List ℕ → List Routed → ℕ → ℕ → ℕ → Heap
share_heap setting placement routed epoch switch level =
    level_heap setting (fed (share placement epoch switch routed)) level

-- the keys that the share of a switch keeps at a level
abbrev pub share_keys : Setting → List ℕ → List Routed → ℕ → ℕ → ℕ → List (List ℕ)
share_keys setting placement routed epoch level switch =
    (share_heap setting placement routed epoch switch level).keys

-- the share of a switch drops a key at a level
abbrev pub share_drops : Setting → List ℕ → List Routed → ℕ → ℕ → ℕ → Bool
share_drops setting placement routed epoch switch level =
    (share_heap setting placement routed epoch switch level).dropped

-- the share of some switch drops a key at some level
abbrev pub any_drops : Setting → ℕ → List ℕ → List Routed → ℕ → Bool
any_drops setting switches placement routed epoch =
    list_any (λ switch. list_any (share_drops setting placement routed epoch switch)
    (range_with_len 0 (level_count setting))) (range_with_len 0 switches)

-- the counters of an epoch are those of one sketch that is fed each of its packets once; its keys at a level are those
-- that the shares of the switches keep there; it is marked exactly where the share of some switch drops a key
pub record IsUnited (setting : Setting) (switches : ℕ) (placement : List ℕ) (routed : List Routed) (epoch : ℕ)
    (view : View) : Type 0 where
  pub weight : view.weight ≡ weight_of (items_in epoch routed)
  pub counters : view.counters
      ≡ map (level_counters setting (items_in epoch routed)) (range_with_len 0 (level_count setting))
  pub keys : view.keys
      ≡ map (λ level. distinct (flat_map (share_keys setting placement routed epoch level) (range_with_len 0 switches)))
      (range_with_len 0 (level_count setting))
  pub mark : view.dropped ≡ any_drops setting switches placement routed epoch

-- the setting of a sketch that keeps every live key beside heaps of one place
abbrev pub with_one_place : Setting → Setting
with_one_place setting = record {
  levels = setting.levels;
  rows = setting.rows;
  width = setting.width;
  heap = 1;
  seed = setting.seed;
}

-- one sketch of the packets of an epoch, with every live key
unfoldable pub whole_view : Setting → List Routed → ℕ → View
whole_view setting routed epoch = record {
  setting = with_one_place setting;
  weight = weight_of (items_in epoch routed);
  counters = map (level_counters setting (items_in epoch routed)) (range_with_len 0 (level_count setting));
  keys = map (λ level. distinct_keys (live_items setting.seed level (items_in epoch routed)))
      (range_with_len 0 (level_count setting));
  dropped = false;
}

-- where no heap dropped a key, the lines of an epoch are those of the sketch with every live key, and so are those of
-- the change to it where none dropped one in the epoch before either
pub record IsWhole (setting : Setting) (routed : List Routed) (epochs : ℕ) (view : ℕ → View) : Type 0 where
  pub block : (form : Form) (heavy epoch packets : ℕ) → epoch < epochs → (view epoch).dropped ≡ false
      → epoch_block form setting.seed heavy epoch packets (view epoch)
      ≡ epoch_block form setting.seed heavy epoch packets (whole_view setting routed epoch)
  pub change : (form : Form) (heavy epoch : ℕ) → 0 < epoch → epoch < epochs → (view (epoch - 1)).dropped ≡ false
      → (view epoch).dropped ≡ false
      → change_block form setting.seed heavy epoch (view (epoch - 1)) (view epoch)
      ≡ change_block form setting.seed heavy epoch (whole_view setting routed (epoch - 1))
      (whole_view setting routed epoch)
