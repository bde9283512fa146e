use Rattle.std.proofs.Common.{◌≡◌, ◌+◌, ◌||◌, ℤ, ℕ, List, Vec, Global, map, sym, ◌∙◌, subst, arith}
use Rattle.std.specs.Cmp.Lexicographic.{slice_cmp}
use Rattle.std.specs.List.{All}
use Rattle.std.specs.List.Sorted.{IsStrictlySortedBy}
use Rattle.std.specs.Ordering.{nat_cmp}
use Rattle.std.specs.Simd.Lanes.{zip2}
use Rattle.std.specs.Vec.{with_items}
use Rattle.std.proofs.lemmas.List.{with_items_is}
use Rattle.hash_family.specs.Setting.{setting_of}
use Rattle.count_sketch.specs.Counters.{plus}
use Rattle.reply_format.specs.Reply.{ReplayReply}
use Rattle.reply_format.specs.declared.heap.Heap.{Heap}
use Rattle.sketch_merge.specs.Merged.{View, united}
use Rattle.sketch_merge.specs.Merging.{MayTake, has_dropped, with_reply}
use Rattle.sketch_merge.specs.Stored.{stored_view}
use Rattle.sketch_merge.proofs.Additions.{IsTaken, if_replay, replay_if, replay_of, reply_ascending, reply_keys}
use Rattle.sketch_merge.proofs.Additions.{taken_stored}
use Rattle.sketch_merge.proofs.merged.Merged.take.Goals as goal

abbrev view : Vec (List ℕ) Global → List (List ℕ)
view level = level.items

pub unions_with_heaps-requires-clause-ascending : goal.unions_with_heaps-requires-clause-ascending
unions_with_heaps-requires-clause-ascending c =
    let r = c.in-Replay in
    let may = if_replay (MayTake c.args.self.now) c.args.reply.now r.job r.params r.items r.weight r.body r.is
    c.requires.reply in
    subst (λ (heaps : List Heap). All (IsStrictlySortedBy (slice_cmp nat_cmp)) (map (λ heap. heap.keys) heaps))
    (sym c.as_slice-heaps.ensures)
    (reply_ascending (replay_of r.job r.params r.items r.weight r.body) may.proper)

-- ---- after all changes

abbrev reply_in : goal.After-self-3-1 → ReplayReply
reply_in c =
    let r = c.in-Replay in
    replay_of r.job r.params r.items r.weight r.body

-- what is stored then
abbrev next_counters : goal.After-self-3-1 → List ℤ
next_counters c = (with_items c.self.inside.counters c.add.new.counters).items

abbrev next_keys : goal.After-self-3-1 → List (List (List ℕ))
next_keys c = map view c.in_ok-keys.keys.items

taken : (c : goal.After-self-3-1)
    → IsTaken c.args.self.now (reply_in c) (setting_of c.self.inside.params) (next_counters c) (next_keys c)
    c.joined_mark-self-inside.result (c.self.inside.weight + c.in-Replay.weight)
taken c =
    let r = c.in-Replay in
    let old = c.self.inside in
    let may = if_replay (MayTake c.args.self.now) c.args.reply.now r.job r.params r.items r.weight r.body r.is
    c.requires.reply in
    let counters_are : next_counters c ≡ plus old.counters.items (reply_in c).counters =
    with_items_is old.counters c.add.new.counters (omega arith)
    ∙ (rw (c.deref_mut.ensures.value, c.as_slice.ensures) at c.add.ensures.value) in
    let keys_are : next_keys c ≡ zip2 united (map view old.keys.items) (reply_keys (reply_in c)) =
    rw (c.deref.ensures.value, c.as_slice-heaps.ensures) at c.in_ok-keys.ensures.value in
    let mark_is : c.joined_mark-self-inside.result ≡ (old.dropped || has_dropped (reply_in c)) =
    rw (c.as_slice-heaps.ensures) at c.joined_mark-self-inside.ensures.value in
    taken_stored (setting_of old.params) old.counters.items (next_counters c) (map view old.keys.items) (next_keys c)
    old.dropped c.joined_mark-self-inside.result old.weight c.args.self.now (reply_in c)
    c.self.invariant c.self.view_is may counters_are keys_are mark_is

pub invariant_of-self : goal.invariant_of-self
invariant_of-self c = (taken c).stored

pub returns-clause-taken : goal.returns-clause-taken
returns-clause-taken c =
    let r = c.in-Replay in
    let next : View = stored_view (setting_of c.self.inside.params) (next_counters c) (next_keys c)
    c.joined_mark-self-inside.result (c.self.inside.weight + c.in-Replay.weight) in
    replay_if (λ (reply : ReplayReply). next ≡ with_reply c.args.self.now reply) c.args.reply.now
    r.job r.params r.items r.weight r.body r.is (taken c).is

pub returns-clause-small : goal.returns-clause-small
returns-clause-small c = (taken c).small

pub returns-clause-few : goal.returns-clause-few
returns-clause-few c = (taken c).few
