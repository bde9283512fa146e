-- The bytes of a replay reply, and of a replay job, are below 256.
use Rattle.std.proofs.Common.{◌<◌, ◌+◌, ℕ, ◌==◌, Bool, true, false, cond, List, [], ◌∷◌, ◌++◌, length, All, sym, subst, arith, IsTrue, lit<, ℤ, pos}
use Rattle.std.specs.List.{flat_map, range_with_len}
use Rattle.std.specs.Int.{w64, cast_unsigned}
use Rattle.std.specs.Ordering.{int_eq}
use Rattle.std.proofs.lemmas.Bool.Decides.{nat_tests}
use Rattle.std.proofs.lemmas.List.Elements.{All-nil}
use Rattle.byteorder.specs.Endian.{little_bytes}
use Rattle.byte_format.specs.Keys.{key_bytes}
use Rattle.hash_family.specs.Limits.{are_within}
use Rattle.hash_family.specs.Setting.{Setting}
use Rattle.job_format.specs.Job.{ReplayJob, SpellsReplay, frame_bytes, item_bytes, replay_head, setting_bytes}
use Rattle.job_format.specs.declared.item.Item.{Item}
use Rattle.reply_format.specs.Reply.{IsVersion, ReplayHead, ReplayReply, Replay, SpellsReply, counter_bytes, counters_bytes, dense_bytes, entries_bytes, front_bytes, head_bytes, heap_bytes, heaps_bytes, nonzero_count, row_at, row_bytes, row_count, sparse_bytes}
use Rattle.reply_format.specs.declared.heap.Heap.{Heap}
use Rattle.solve_jobs.proofs.Bytes.{AreLow, Low, four_low, join_low, number_low, one_low, version_low}

-- what each element gives is low
flat_low : {X : Type 0} (f : X → List ℕ) (xs : List X) → ((x : X) → AreLow (f x)) → AreLow (flat_map f xs)
flat_low f [] each = All-nil Low
flat_low f (x ∷ xs) each = join_low (f x) (flat_map f xs) (each x) (flat_low f xs each)

-- ---- the head

low_levels : (setting : Setting) → IsTrue (are_within setting.levels setting.rows setting.width setting.heap)
    → setting.levels < 256
low_levels setting within = grind (arith, nat_tests)

low_rows : (setting : Setting) → IsTrue (are_within setting.levels setting.rows setting.width setting.heap)
    → setting.rows < 256
low_rows setting within = grind (arith, nat_tests)

front_low : (version number : ℕ) → IsVersion version → AreLow (front_bytes version 0 number)
front_low version number known =
    let kind = one_low 0 (little_bytes 4 number) (lit< tt) (number_low 0 4 number) in
    four_low 0x55 0x4d 0x52 0x50 (version ∷ 0 ∷ little_bytes 4 number) (lit< tt) (lit< tt) (lit< tt) (lit< tt)
    (one_low version (0 ∷ little_bytes 4 number) (version_low version known) kind)

head_low : (version : ℕ) (head : ReplayHead) → IsVersion version → head.setting.levels < 256 → head.setting.rows < 256
    → AreLow (head_bytes version head)
head_low version head known levels rows =
    let sums = join_low (little_bytes 4 head.items) (little_bytes 8 head.weight)
    (number_low 0 4 head.items) (number_low 0 8 head.weight) in
    let heap = join_low (little_bytes 2 head.setting.heap) (little_bytes 4 head.items ++ little_bytes 8 head.weight)
    (number_low 0 2 head.setting.heap) sums in
    let behind = little_bytes 2 head.setting.heap ++ (little_bytes 4 head.items ++ little_bytes 8 head.weight) in
    let width = join_low (little_bytes 2 head.setting.width) behind (number_low 0 2 head.setting.width) heap in
    let shape = one_low head.setting.levels (head.setting.rows ∷ (little_bytes 2 head.setting.width ++ behind)) levels
    (one_low head.setting.rows (little_bytes 2 head.setting.width ++ behind) rows width) in
    join_low (front_bytes version 0 head.number)
    (head.setting.levels ∷ head.setting.rows ∷ (little_bytes 2 head.setting.width ++ behind))
    (front_low version head.number known) shape

-- ---- the counters

counter_low : (counter : ℤ) → AreLow (counter_bytes counter)
counter_low counter = number_low 0 8 (cast_unsigned w64 counter)

dense_low : (counters : List ℤ) → AreLow (dense_bytes counters)
unfolding dense_bytes
dense_low counters = flat_low counter_bytes counters counter_low

entry_low : (zero : Bool) (bucket : ℕ) (counter : ℤ)
    → AreLow (cond zero [] (little_bytes 2 bucket ++ counter_bytes counter))
entry_low true bucket counter = All-nil Low
entry_low false bucket counter =
    join_low (little_bytes 2 bucket) (counter_bytes counter) (number_low 0 2 bucket) (counter_low counter)

entries_low : (bucket : ℕ) (counters : List ℤ) → AreLow (entries_bytes bucket counters)
unfolding entries_bytes
entries_low bucket [] = All-nil Low
entries_low bucket (counter ∷ counters) =
    join_low (cond (int_eq counter (pos 0)) [] (little_bytes 2 bucket ++ counter_bytes counter))
    (entries_bytes (bucket + 1) counters)
    (entry_low (int_eq counter (pos 0)) bucket counter) (entries_low (bucket + 1) counters)

row_low : (row : List ℤ) → AreLow (row_bytes row)
row_low row =
    join_low (little_bytes 2 (nonzero_count row)) (entries_bytes 0 row)
    (number_low 0 2 (nonzero_count row)) (entries_low 0 row)

sparse_low : (rows width : ℕ) (counters : List ℤ) → AreLow (sparse_bytes rows width counters)
unfolding sparse_bytes
sparse_low rows width counters =
    flat_low (λ row. row_bytes (row_at width counters row)) (range_with_len 0 rows)
    (λ row. row_low (row_at width counters row))

either_low : (dense : Bool) (some other : List ℕ) → AreLow some → AreLow other → AreLow (cond dense some other)
either_low true some other one two = one
either_low false some other one two = two

-- ---- the heaps

key_low : (key : List ℕ) → AreLow (key_bytes key)
unfolding key_bytes
key_low key = flat_low (little_bytes 4) key (λ word. number_low 0 4 word)

heap_low : (heap : Heap) → AreLow (heap_bytes heap)
heap_low heap =
    let count = length heap.keys + cond heap.dropped 32768 0 in
    join_low (little_bytes 2 count) (flat_map key_bytes heap.keys) (number_low 0 2 count)
    (flat_low key_bytes heap.keys key_low)

-- a reply's bytes
pub reply_low : (reply : ReplayReply) (bytes : List ℕ) → SpellsReply (Replay reply) bytes
    → All (λ byte. byte < 256) bytes
reply_low reply bytes spelled =
    let within = spelled.within.head.within in
    let setting = reply.head.setting in
    let counters = either_low (spelled.version == 1) (dense_bytes reply.counters)
    (sparse_bytes (row_count setting) setting.width reply.counters)
    (dense_low reply.counters) (sparse_low (row_count setting) setting.width reply.counters) in
    let heaps = flat_low heap_bytes reply.heaps heap_low in
    let head = head_low spelled.version reply.head spelled.known (low_levels setting within)
    (low_rows setting within) in
    let behind = join_low (counters_bytes spelled.version setting reply.counters) (heaps_bytes reply.heaps)
    counters heaps in
    subst AreLow (sym spelled.parts)
    (join_low (head_bytes spelled.version reply.head)
    (counters_bytes spelled.version setting reply.counters ++ heaps_bytes reply.heaps) head behind)

-- ---- a job

setting_low : (setting : Setting) → setting.levels < 256 → setting.rows < 256 → AreLow (setting_bytes setting)
setting_low setting levels rows =
    let heap = join_low (little_bytes 2 setting.heap) (little_bytes 8 setting.seed)
    (number_low 0 2 setting.heap) (number_low 0 8 setting.seed) in
    let behind = little_bytes 2 setting.heap ++ little_bytes 8 setting.seed in
    let width = join_low (little_bytes 2 setting.width) behind (number_low 0 2 setting.width) heap in
    one_low setting.levels (setting.rows ∷ (little_bytes 2 setting.width ++ behind)) levels
    (one_low setting.rows (little_bytes 2 setting.width ++ behind) rows width)

start_low : (number : ℕ) (setting : Setting) → setting.levels < 256 → setting.rows < 256
    → AreLow (replay_head number setting)
start_low number setting levels rows =
    let kind = one_low 0 (little_bytes 4 number ++ setting_bytes setting) (lit< tt)
    (join_low (little_bytes 4 number) (setting_bytes setting) (number_low 0 4 number)
    (setting_low setting levels rows)) in
    four_low 0x55 0x4d 0x4a 0x42 (1 ∷ 0 ∷ (little_bytes 4 number ++ setting_bytes setting))
    (lit< tt) (lit< tt) (lit< tt) (lit< tt)
    (one_low 1 (0 ∷ (little_bytes 4 number ++ setting_bytes setting)) (lit< tt) kind)

item_low : (item : Item) → AreLow (item_bytes item)
item_low item =
    join_low (key_bytes item.key) (little_bytes 4 item.weight) (key_low item.key) (number_low 0 4 item.weight)

frame_low : (items : List Item) → AreLow (frame_bytes items)
frame_low items =
    join_low (little_bytes 2 (length items)) (flat_map item_bytes items) (number_low 0 2 (length items))
    (flat_low item_bytes items item_low)

-- a job's bytes
pub job_low : (job : ReplayJob) (bytes : List ℕ) → SpellsReplay job bytes → All (λ byte. byte < 256) bytes
job_low job bytes spelled =
    let setting = job.setting in
    let within = spelled.within.setting.within in
    let frames = join_low (flat_map frame_bytes spelled.frames) (little_bytes 2 0)
    (flat_low frame_bytes spelled.frames frame_low) (number_low 0 2 0) in
    subst AreLow (sym spelled.parts)
    (join_low (replay_head job.number setting) (flat_map frame_bytes spelled.frames ++ little_bytes 2 0)
    (start_low job.number setting (low_levels setting within) (low_rows setting within)) frames)
