-- The fields of a replay reply in their order, each with its size and its test. A field is judged by what is expected
-- and by what stands before it. Both versions fill the same list of counters.
use Rattle.std.specs.Prelude.{ℕ, ◌+◌, ◌-◌, ◌%◌, ◌^◌, ◌==◌, ◌&&◌, ◌||◌, nat_le, nat_lt, Bool, true, List, [], ◌∷◌, ◌++◌, length, replicate, slice_index, ℤ, pos, Result, Ok, Err, if◌then◌else◌}
use Rattle.std.specs.Cmp.Lexicographic.{slice_cmp}
use Rattle.std.specs.Ordering.{nat_cmp, is_lt}
use Rattle.byteorder.specs.Endian.{little_number, twos_complement}
use Rattle.byte_format.specs.Format.{Format}
use Rattle.byte_format.specs.Keys.{key_size, key_words}
use Rattle.flow_keys.specs.Key.{is_valid}
use Rattle.reply_format.specs.Reply.{ReplayHead, counter_count, level_count}
use Rattle.reply_format.specs.declared.fault.ReplyFault.{ReplyFault}
use Rattle.reply_format.specs.declared.fault.ReplyFault.TheVariants as faults
use Rattle.reply_format.specs.declared.heap.Heap.{Heap}

-- the counters and heaps of a reply
pub record Body : Type 0 where
  pub counters : List ℤ
  pub heaps : List Heap

-- what stands next, behind which version, with the counters and heaps so far
pub data Place : Type 0 where
  Magic : Place
  Version : Place
  Kind : ℕ → Place
  Number : ℕ → Place
  Levels : ℕ → Place
  Rows : ℕ → Place
  Width : ℕ → Place
  HeapSize : ℕ → Place
  Items : ℕ → Place
  Weight : ℕ → Place
  Counter : List ℤ → Place  -- version 1: the next counter
  RowCount : List ℤ → Place  -- version 2: how many counters of the next row are written
  Bucket : List ℤ → ℕ → ℕ → Place  -- the next one's bucket: from here on, and so many are left
  Value : List ℤ → ℕ → ℕ → Place  -- its value: the bucket behind it, and so many are left then
  HeapLength : List ℤ → List Heap → Place
  HeapKey : List ℤ → List Heap → Heap → ℕ → Place  -- the heap so far, and so many keys are left
  End : Body → Place

abbrev pub if_right : Bool → ReplyFault → Place → Result Place ReplyFault
if_right right fault place = if right then Ok place else Err fault

-- UMRP
abbrev pub is_magic : List ℕ → Bool
is_magic b =
    slice_index b 0 == 0x55 && slice_index b 1 == 0x4d && slice_index b 2 == 0x52 && slice_index b 3 == 0x50

-- the absolute value of a signed number of 8 bytes, and the number
abbrev pub magnitude : ℕ → ℕ
magnitude n = if nat_lt n (2 ^ 63) then n else 2 ^ 64 - n

abbrev pub signed : List ℕ → ℤ
signed b = twos_complement 8 (little_number 8 b)

-- a key is above the last of these
unfoldable pub is_above : List (List ℕ) → List ℕ → Bool
is_above [] key = true
is_above (last ∷ []) key = is_lt (slice_cmp nat_cmp last key)
is_above (first ∷ next ∷ keys) key = is_above (next ∷ keys) key

-- so many counters of 0
abbrev pub zeros : ℕ → List ℤ
zeros n = replicate n (pos 0)

module _ (e : ReplayHead) where
  -- behind a counter of version 1; behind a row of version 2; behind a heap
  abbrev pub behind_counter : List ℤ → Place
  behind_counter counters =
      if length counters == counter_count e.setting then HeapLength counters [] else Counter counters

  abbrev pub behind_row : List ℤ → Place
  behind_row counters =
      if length counters == counter_count e.setting then HeapLength counters [] else RowCount counters

  -- the buckets from here on to the end of the row are 0 where no more are written
  abbrev pub behind_value : List ℤ → ℕ → ℕ → Place
  behind_value counters from left =
      if left == 0 then behind_row (counters ++ zeros (e.setting.width - from)) else Bucket counters from left

  abbrev pub behind_heap : List ℤ → List Heap → Place
  behind_heap counters heaps =
      if length heaps == level_count e.setting then End (record { counters = counters; heaps = heaps })
      else HeapLength counters heaps

  abbrev pub behind_key : List ℤ → List Heap → Heap → ℕ → Place
  behind_key counters heaps heap left =
      if left == 0 then behind_heap counters (heaps ++ heap ∷ []) else HeapKey counters heaps heap left

  -- a heap's length: the low 15 bits; the high one says that a key was dropped, which only a full heap does
  abbrev pub is_heap_length : ℕ → Bool
  is_heap_length n = nat_le (n % 32768) e.setting.heap && (nat_lt n 32768 || n % 32768 == e.setting.heap)

  abbrev pub place_size : Place → ℕ
  place_size Magic = 4
  place_size Version = 1
  place_size (Kind v) = 1
  place_size (Number v) = 4
  place_size (Levels v) = 1
  place_size (Rows v) = 1
  place_size (Width v) = 2
  place_size (HeapSize v) = 2
  place_size (Items v) = 4
  place_size (Weight v) = 8
  place_size (Counter cs) = 8
  place_size (RowCount cs) = 2
  place_size (Bucket cs from left) = 2
  place_size (Value cs from left) = 8
  place_size (HeapLength cs heaps) = 2
  place_size (HeapKey cs heaps heap left) = key_size
  place_size (End body) = 1

  unfoldable pub judge_place : Place → List ℕ → Result Place ReplyFault
  judge_place Magic b = if_right (is_magic b) faults.Magic Version
  judge_place Version b =
      if_right (slice_index b 0 == 1 || slice_index b 0 == 2) faults.Version (Kind (slice_index b 0))
  judge_place (Kind v) b = if_right (slice_index b 0 == 0) faults.Job (Number v)
  judge_place (Number v) b = if_right (little_number 4 b == e.number) faults.Job (Levels v)
  judge_place (Levels v) b = if_right (slice_index b 0 == e.setting.levels) faults.Shape (Rows v)
  judge_place (Rows v) b = if_right (slice_index b 0 == e.setting.rows) faults.Shape (Width v)
  judge_place (Width v) b = if_right (little_number 2 b == e.setting.width) faults.Shape (HeapSize v)
  judge_place (HeapSize v) b = if_right (little_number 2 b == e.setting.heap) faults.Shape (Items v)
  judge_place (Items v) b = if_right (little_number 4 b == e.items) faults.Totals (Weight v)
  judge_place (Weight v) b =
      if_right (little_number 8 b == e.weight) faults.Totals (if v == 1 then Counter [] else RowCount [])
  judge_place (Counter cs) b =
      if_right (nat_le (magnitude (little_number 8 b)) e.weight) faults.CounterRange
      (behind_counter (cs ++ signed b ∷ []))
  judge_place (RowCount cs) b =
      if_right (nat_le (little_number 2 b) e.setting.width) faults.CounterPlace (behind_value cs 0 (little_number 2 b))
  judge_place (Bucket cs from left) b =
      if_right (nat_le from (little_number 2 b) && nat_lt (little_number 2 b) e.setting.width) faults.CounterPlace
      (Value (cs ++ zeros (little_number 2 b - from)) (little_number 2 b + 1) (left - 1))
  judge_place (Value cs from left) b =
      if_right (nat_lt 0 (little_number 8 b) && nat_le (magnitude (little_number 8 b)) e.weight) faults.CounterRange
      (behind_value (cs ++ signed b ∷ []) from left)
  judge_place (HeapLength cs heaps) b =
      if_right (is_heap_length (little_number 2 b)) faults.HeapLength
      (behind_key cs heaps (record { dropped = nat_le 32768 (little_number 2 b); keys = [] })
      (little_number 2 b % 32768))
  judge_place (HeapKey cs heaps heap left) b =
      if_right (is_valid (key_words b) && is_above heap.keys (key_words b)) faults.HeapOrder
      (behind_key cs heaps (record { dropped = heap.dropped; keys = heap.keys ++ key_words b ∷ [] }) (left - 1))
  judge_place (End body) b = Err faults.Extra

  abbrev pub replay_format : Format Place ReplyFault
  replay_format = record { size = place_size; judge = judge_place }
