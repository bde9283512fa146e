-- Which bytes answer a job.
use Rattle.std.specs.Prelude.{ℕ, ℤ, List, length, map, IsTrue}
use Rattle.std.specs.List.{flat_map, range_with_len}
use Rattle.bound_certificate.specs.Outcome.{is_right}
use Rattle.bound_certificate.specs.declared.outcome.Outcome.{Outcome}
use Rattle.count_sketch.specs.Counters.{Item as Fed, counters_of}
use Rattle.hash_family.specs.Setting.{Setting}
use Rattle.job_format.specs.Job.{Job, Replay, ReplayJob, Solve, SpellsJob, weight_of}
use Rattle.job_format.specs.Read.{BreaksJob}
use Rattle.job_format.specs.declared.fault.JobFault.{JobFault}
use Rattle.job_format.specs.declared.item.Item.{Item}
use Rattle.reply_format.specs.Reply.{ReplayReply, SpellsReply, head_of, level_count}
use Rattle.reply_format.specs.Reply as replies
use Rattle.reply_format.specs.declared.heap.Heap.{Heap}
use Rattle.sketch_levels.specs.Items.{live_items}
use Rattle.sketch_levels.specs.Kept.{is_dropped, kept_keys}

-- an item as sketches are fed with it
abbrev pub fed_of : Item → Fed
fed_of item = record { key = item.key; weight = item.weight }

unfoldable pub fed : List Item → List Fed
fed items = map fed_of items

-- the counters of a level: those of the items whose key is live there
abbrev pub level_counters : Setting → List Fed → ℕ → List ℤ
level_counters setting items level =
    counters_of setting.seed level setting.rows setting.width (live_items setting.seed level items)

-- the heap of a level: the keys that it keeps of these items, and whether it dropped one
abbrev pub level_heap : Setting → List Fed → ℕ → Heap
level_heap setting items level = record {
  dropped = is_dropped setting (live_items setting.seed level items);
  keys = kept_keys setting level (live_items setting.seed level items);
}

abbrev pub levels_of : Setting → List ℕ
levels_of setting = range_with_len 0 (level_count setting)

-- the counters of all levels, and their heaps
unfoldable pub all_counters : Setting → List Fed → List ℤ
all_counters setting items = flat_map (level_counters setting items) (levels_of setting)

unfoldable pub all_heaps : Setting → List Fed → List Heap
all_heaps setting items = map (level_heap setting items) (levels_of setting)

-- the reply that holds the sketch of a job's items
abbrev pub replay_reply : ReplayJob → ReplayReply
replay_reply job = record {
  head = head_of job.number job.setting (length job.items) (weight_of job.items);
  counters = all_counters job.setting (fed job.items);
  heaps = all_heaps job.setting (fed job.items);
}

-- bytes answer a job: they spell that reply, or a right outcome of its problem
abbrev pub IsAnswer : Job → List ℕ → Type 0
IsAnswer (Replay job) bytes = SpellsReply (replies.Replay (replay_reply job)) bytes
IsAnswer (Solve job) bytes =
    (outcome : Outcome) × IsTrue (is_right job.problem job.nodes outcome)
    × SpellsReply (replies.Solve (record { number = job.number; outcome = outcome })) bytes

-- bytes answer the job that other bytes spell
abbrev pub AnswersBytes : List ℕ → List ℕ → Type 0
AnswersBytes bytes answer = (job : Job) × SpellsJob job bytes × IsAnswer job answer

-- bytes spell no job
abbrev pub IsRefused : List ℕ → Type 0
IsRefused bytes = (fault : JobFault) × BreaksJob bytes fault
