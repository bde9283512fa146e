-- What a reply is, and how it is spelled in bytes, in version 1 and in version 2. Numbers stand with the low byte
-- first.
use Rattle.std.specs.Prelude.{◌≡◌, ◌≤◌, ◌<◌, ◌^◌, ◌⊎◌, ℕ, count_by, ◌+◌, ◌*◌, ◌==◌, true, not, List, [], ◌∷◌, ◌++◌, length, take, drop, ℤ, pos, All, IsTrue, unsigned_abs, FitsSigned, if◌then◌else◌}
use Rattle.std.specs.List.{flat_map, range_with_len}
use Rattle.std.specs.List.Sorted.{IsStrictlySortedBy}
use Rattle.std.specs.Cmp.Lexicographic.{slice_cmp}
use Rattle.std.specs.Int.{w64, cast_unsigned}
use Rattle.std.specs.Ordering.{nat_cmp, int_eq}
use Rattle.byteorder.specs.Endian.{little_bytes}
use Rattle.bound_certificate.specs.Formed.{is_formed}
use Rattle.bound_certificate.specs.Outcome.{tree_of}
use Rattle.bound_certificate.specs.declared.outcome.Outcome.{Outcome}
use Rattle.bound_certificate.specs.declared.outcome.Outcome.TheVariants as outcomes
use Rattle.byte_format.specs.Keys.{key_bytes}
use Rattle.certificate_text.specs.Bytes.{bytes_of}
use Rattle.flow_keys.specs.Key.{IsKey}
use Rattle.hash_family.specs.Limits.{are_within}
use Rattle.hash_family.specs.Setting.{Setting, setting_of}
use Rattle.reply_format.specs.declared.expect.Expect.{Expect as ExpectEnum}
use Rattle.reply_format.specs.declared.expect.Expect.TheVariants as expects
use Rattle.reply_format.specs.declared.heap.Heap.{Heap}
use Rattle.reply_format.specs.declared.reply.Reply.{Reply as ReplyEnum}
use Rattle.reply_format.specs.declared.reply.Reply.TheVariants as variants

-- which job is answered: its number, the numbers of the sketch, how many items, and what they weigh together
pub record ReplayHead : Type 0 where
  pub number : ℕ
  pub setting : Setting
  pub items : ℕ
  pub weight : ℕ

-- the sketch of its items: the counters in order of level, row and bucket, and each level's heap
pub record ReplayReply : Type 0 where
  pub head : ReplayHead
  pub counters : List ℤ
  pub heaps : List Heap

-- what a search found
pub record SolveReply : Type 0 where
  pub number : ℕ
  pub outcome : Outcome

pub data Reply : Type 0 where
  Replay : ReplayReply → Reply
  Solve : SolveReply → Reply

-- what is expected: a reply to this replay job, or to the solve job of this number
pub data Expect : Type 0 where
  ExpectReplay : ReplayHead → Expect
  ExpectSolve : ℕ → Expect

abbrev pub head_of : ℕ → Setting → ℕ → ℕ → ReplayHead
head_of number setting items weight = record { number = number; setting = setting; items = items; weight = weight }

-- the reply, and the expectation, that a value of the code is
abbrev pub reply_of : ReplyEnum → Reply
reply_of (variants.Replay job params items weight body) =
    Replay (record {
      head = head_of job (setting_of params) items weight;
      counters = body.counters;
      heaps = body.heaps;
    })
reply_of (variants.Solve job outcome) = Solve (record { number = job; outcome = outcome })

abbrev pub expect_of : ExpectEnum → Expect
expect_of (expects.Replay job params items weight) = ExpectReplay (head_of job (setting_of params) items weight)
expect_of (expects.Solve job) = ExpectSolve job

-- the numbers of the sketch are within their limits
abbrev pub IsExpect : Expect → Type 0
IsExpect (ExpectReplay head) =
    IsTrue (are_within head.setting.levels head.setting.rows head.setting.width head.setting.heap)
IsExpect (ExpectSolve number) = Unit {0}

-- a reply is one to what is expected
abbrev pub Answers : Expect → Reply → Type 0
Answers (ExpectReplay head) (Replay reply) = reply.head ≡ head
Answers (ExpectReplay head) (Solve reply) = ⊥
Answers (ExpectSolve number) (Replay reply) = ⊥
Answers (ExpectSolve number) (Solve reply) = reply.number ≡ number

-- how many levels, rows of counters, and counters there are
abbrev pub level_count : Setting → ℕ
level_count setting = setting.levels + 1

abbrev pub row_count : Setting → ℕ
row_count setting = level_count setting * setting.rows

abbrev pub counter_count : Setting → ℕ
counter_count setting = row_count setting * setting.width

-- keys in strictly ascending order, as many as the heap holds at most; it dropped one only where it is full
pub record IsHeap (limit : ℕ) (heap : Heap) : Type 0 where
  pub each : All IsKey heap.keys
  pub ascending : IsStrictlySortedBy (slice_cmp nat_cmp) heap.keys
  pub few : length heap.keys ≤ limit
  pub full : heap.dropped ≡ true → length heap.keys ≡ limit

-- numbers of a job that fit into their fields
pub record IsHead (head : ReplayHead) : Type 0 where
  pub number : head.number < 2 ^ 32
  pub within : IsTrue (are_within head.setting.levels head.setting.rows head.setting.width head.setting.heap)
  pub items : head.items < 2 ^ 32
  pub weight : head.weight < 2 ^ 64

-- a counter of eight bytes, with an absolute value up to the weight
pub record IsCounter (weight : ℕ) (counter : ℤ) : Type 0 where
  pub light : unsigned_abs counter ≤ weight
  pub fits : FitsSigned w64 counter

-- a replay reply within its limits
pub record IsReplayReply (reply : ReplayReply) : Type 0 where
  pub head : IsHead reply.head
  pub number : length reply.counters ≡ counter_count reply.head.setting
  pub counters : All (IsCounter reply.head.weight) reply.counters
  pub levels : length reply.heaps ≡ level_count reply.head.setting
  pub heaps : All (IsHeap reply.head.setting.heap) reply.heaps

-- a placement that can be written: 1 to 64 numbers below 32
pub record IsWritten (sites : List ℕ) : Type 0 where
  pub some : 1 ≤ length sites
  pub few : length sites ≤ 64
  pub each : All (λ site. site < 32) sites

abbrev pub HasWritten : Outcome → Type 0
HasWritten (outcomes.Placed placement tree) = IsWritten placement.sites
HasWritten (outcomes.Infeasible tree) = Unit {0}
HasWritten (outcomes.Spent tree) = Unit {0}

-- a solve reply within its limits
pub record IsSolveReply (reply : SolveReply) : Type 0 where
  pub number : reply.number < 2 ^ 32
  pub formed : IsTrue (is_formed (tree_of reply.outcome))
  pub written : HasWritten reply.outcome

-- a reply within its limits
abbrev pub IsReply : Reply → Type 0
IsReply (Replay reply) = IsReplayReply reply
IsReply (Solve reply) = IsSolveReply reply

-- UMRP, the version, the kind, and the number of the job
abbrev pub front_bytes : ℕ → ℕ → ℕ → List ℕ
front_bytes version kind number =
    (0x55 ∷ 0x4d ∷ 0x52 ∷ 0x50 ∷ []) ++ ((version ∷ []) ++ ((kind ∷ []) ++ little_bytes 4 number))

-- the head of a replay reply: kind 0, the numbers of the sketch but its seed, how many items, and their weight
abbrev pub head_bytes : ℕ → ReplayHead → List ℕ
head_bytes version head =
    front_bytes version 0 head.number ++ ((head.setting.levels ∷ []) ++ ((head.setting.rows ∷ [])
    ++ (little_bytes 2 head.setting.width ++ (little_bytes 2 head.setting.heap
    ++ (little_bytes 4 head.items ++ little_bytes 8 head.weight)))))

-- a counter, as two's complement
abbrev pub counter_bytes : ℤ → List ℕ
counter_bytes counter = little_bytes 8 (cast_unsigned w64 counter)

-- the counters of version 1: each of them
unfoldable pub dense_bytes : List ℤ → List ℕ
dense_bytes counters = flat_map counter_bytes counters

-- a row of version 2: how many of its counters aren't 0, and of each of these its bucket and the counter
unfoldable pub entries_bytes : ℕ → List ℤ → List ℕ
entries_bytes bucket [] = []
entries_bytes bucket (counter ∷ counters) =
    (if int_eq counter (pos 0) then [] else little_bytes 2 bucket ++ counter_bytes counter)
    ++ entries_bytes (bucket + 1) counters

unfoldable pub nonzero_count : List ℤ → ℕ
nonzero_count row = count_by (λ counter. not (int_eq counter (pos 0))) row

abbrev pub row_bytes : List ℤ → List ℕ
row_bytes row = little_bytes 2 (nonzero_count row) ++ entries_bytes 0 row

-- a row by its number
abbrev pub row_at : ℕ → List ℤ → ℕ → List ℤ
row_at width counters row = take width (drop (row * width) counters)

-- the counters of version 2, row by row
unfoldable pub sparse_bytes : ℕ → ℕ → List ℤ → List ℕ
sparse_bytes rows width counters = flat_map (λ row. row_bytes (row_at width counters row)) (range_with_len 0 rows)

-- a heap: its number of keys, with 32768 more where it dropped one, and the keys
abbrev pub heap_bytes : Heap → List ℕ
heap_bytes heap =
    little_bytes 2 (length heap.keys + (if heap.dropped then 32768 else 0)) ++ flat_map key_bytes heap.keys

abbrev pub heaps_bytes : List Heap → List ℕ
heaps_bytes heaps = flat_map heap_bytes heaps

abbrev pub counters_bytes : ℕ → Setting → List ℤ → List ℕ
counters_bytes version setting counters =
    if version == 1 then dense_bytes counters else sparse_bytes (row_count setting) setting.width counters

abbrev pub replay_bytes : ℕ → ReplayReply → List ℕ
replay_bytes version reply =
    head_bytes version reply.head
    ++ (counters_bytes version reply.head.setting reply.counters ++ heaps_bytes reply.heaps)

-- an outcome: 0 for placed, with the number of needs and the site of each, 1 for infeasible, 2 for spent; and its tree
abbrev pub outcome_bytes : Outcome → List ℕ
outcome_bytes (outcomes.Placed placement tree) =
    (0 ∷ []) ++ ((length placement.sites ∷ []) ++ (placement.sites ++ bytes_of tree))
outcome_bytes (outcomes.Infeasible tree) = (1 ∷ []) ++ bytes_of tree
outcome_bytes (outcomes.Spent tree) = (2 ∷ []) ++ bytes_of tree

abbrev pub solve_bytes : ℕ → SolveReply → List ℕ
solve_bytes version reply = front_bytes version 1 reply.number ++ outcome_bytes reply.outcome

-- the bytes of a reply in a version
abbrev pub reply_bytes : ℕ → Reply → List ℕ
reply_bytes version (Replay reply) = replay_bytes version reply
reply_bytes version (Solve reply) = solve_bytes version reply

abbrev pub IsVersion : ℕ → Type 0
IsVersion version = (version ≡ 1) ⊎ (version ≡ 2)

-- bytes spell a reply, in either version
pub record SpellsReply (reply : Reply) (bytes : List ℕ) : Type 0 where
  pub within : IsReply reply
  pub version : ℕ
  pub known : IsVersion version
  pub parts : bytes ≡ reply_bytes version reply
