use Rattle.std.proofs.Common.{◌≡◌, length, All, []}
use Rattle.count_sketch.specs.Counters.{AllUpTo}
use Rattle.hash_family.specs.Setting.{setting_of}
use Rattle.sketch_merge.specs.Merged.{HaveUpTo, View}
use Rattle.sketch_merge.specs.Merging.{merged_view}
use Rattle.replay_jobs.proofs.grouping.all_merged.Given as goal

abbrev pub invariant-loop : goal.invariant-loop
invariant-loop l =
    (length l.merged.items ≡ l.counter)
    × All (λ (view : View). view ≡ merged_view (setting_of l.params) 0 []) l.merged.items
    × All (λ (view : View). All (AllUpTo view.weight) view.counters) l.merged.items
    × All (λ (view : View). HaveUpTo 0 view.keys) l.merged.items
