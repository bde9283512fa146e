-- What replies say together: the sums of their counters, the keys that they name, and their marks.
use Rattle.std.specs.Prelude.{◌≡◌, ℕ, ◌+◌, ◌*◌, ◌≤◌, ◌^◌, ◌||◌, Bool, false, List, [], map, All, Option, slice_index_or}
use Rattle.std.specs.Prelude.{ℤ, pos}
use Rattle.std.specs.List.{flat_map, list_any, range_with_len}
use Rattle.std.specs.Option.{option_to_list}
use Rattle.std.specs.Simd.Lanes.{zip2}
use Rattle.hash_family.specs.Setting.{Setting}
use Rattle.count_sketch.specs.Counters.{AllUpTo, int_sum_by, plus}
use Rattle.reply_format.specs.Reply.{IsReplayReply, ReplayReply, Reply, Replay, Solve, level_count}
use Rattle.reply_format.specs.declared.heap.Heap.{Heap}
use Rattle.sketch_merge.specs.Levels.{levels_of}
use Rattle.sketch_merge.specs.Merged.{View, united}

-- how many counters a level has
abbrev pub level_size : Setting → ℕ
level_size setting = setting.rows * setting.width

-- the counter of a reply at a place, in order of level, row and bucket
unfoldable pub counter_in : ℕ → ReplayReply → ℤ
counter_in place reply = slice_index_or reply.counters place (pos 0)

-- the heap of a level
unfoldable pub heap_in : ℕ → ReplayReply → Heap
heap_in level reply = slice_index_or reply.heaps level (record { dropped = false; keys = [] })

-- the sums of the counters of a level
unfoldable pub merged_counters : Setting → List ReplayReply → ℕ → List ℤ
merged_counters setting replies level =
    map (λ place. int_sum_by (counter_in place) replies)
    (range_with_len (level * level_size setting) (level_size setting))

-- the keys that some reply names at a level, in ascending order
unfoldable pub named_keys : List ReplayReply → ℕ → List (List ℕ)
named_keys replies level = united [] (flat_map (λ reply. (heap_in level reply).keys) replies)

-- some heap of a reply dropped a key
abbrev pub has_dropped : ReplayReply → Bool
has_dropped reply = list_any (λ heap. heap.dropped) reply.heaps

-- some reply has a dropped mark
unfoldable pub is_marked : List ReplayReply → Bool
is_marked replies = list_any has_dropped replies

-- the counters, keys and marks of replies together, of items that weigh so much
unfoldable pub merged_view : Setting → ℕ → List ReplayReply → View
merged_view setting weight replies = record {
  setting = setting;
  weight = weight;
  counters = map (merged_counters setting replies) (range_with_len 0 (level_count setting));
  keys = map (named_keys replies) (range_with_len 0 (level_count setting));
  dropped = is_marked replies;
}

-- the replies in the places that are not empty
abbrev pub present : List (Option ReplayReply) → List ReplayReply
present places = flat_map option_to_list places

-- one reply more: its counters are added place by place, its keys united with those of each level, its marks joined
unfoldable pub with_reply : View → ReplayReply → View
with_reply view reply = record {
  setting = view.setting;
  weight = view.weight + reply.head.weight;
  counters = zip2 plus view.counters (levels_of (level_count view.setting) (level_size view.setting) reply.counters);
  keys = zip2 united view.keys (map (λ heap. heap.keys) reply.heaps);
  dropped = view.dropped || has_dropped reply;
}

-- a replay reply within its limits and of the sketch's numbers; what it and the sketch weigh together is at most 2^44,
-- and no absolute counter of the sketch is above its weight
pub record MayTake (view : View) (reply : ReplayReply) : Type 0 where
  pub proper : IsReplayReply reply
  pub setting : reply.head.setting ≡ view.setting
  pub light : view.weight + reply.head.weight ≤ 2 ^ 44
  pub small : All (AllUpTo view.weight) view.counters

-- a reply is one to a replay job, of which P holds
abbrev pub IfReplay : (ReplayReply → Type 0) → Reply → Type 0
IfReplay P (Replay reply) = P reply
IfReplay P (Solve reply) = ⊥
