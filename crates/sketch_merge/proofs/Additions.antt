-- A reply that is added to what is stored.
use Rattle.std.proofs.Common.{◌≡◌, ◌^◌, ℕ, ℤ, ◌+◌, ◌*◌, ◌≤◌, ◌||◌, Bool, List, length, map, ◌+ℤ◌, unsigned_abs, sym}
use Rattle.std.proofs.Common.{◌∙◌, ap, subst, arith}
use Rattle.std.specs.List.{All}
use Rattle.std.specs.Cmp.Lexicographic.{slice_cmp}
use Rattle.std.specs.List.Sorted.{IsStrictlySortedBy}
use Rattle.std.specs.Ordering.{nat_cmp}
use Rattle.std.specs.Simd.Lanes.{zip2}
use Rattle.std.proofs.lemmas.List.{length-map}
use Rattle.std.proofs.lemmas.List.Elements.{All-map, All-weaker}
use Rattle.std.proofs.lemmas.Simd.{length-zip2}
use Rattle.hash_family.specs.Setting.{Setting, setting_of}
use Rattle.hash_family.specs.declared.params.Params.{Params}
use Rattle.count_sketch.specs.Counters.{AllUpTo, plus}
use Rattle.count_sketch.proofs.Shares.{AllUpTo-more, plus-upto}
use Rattle.reply_format.specs.Reply.{IsCounter, IsHeap, IsReplayReply, ReplayReply, counter_count, head_of}
use Rattle.reply_format.specs.Reply.{level_count, reply_of}
use Rattle.reply_format.specs.declared.body.ReplayBody.{ReplayBody}
use Rattle.reply_format.specs.declared.heap.Heap.{Heap}
use Rattle.reply_format.specs.declared.reply.Reply.{Reply as ReplyEnum}
use Rattle.reply_format.specs.declared.reply.Reply.TheVariants as variants
use Rattle.sketch_merge.specs.Levels.{levels_of}
use Rattle.sketch_merge.specs.Merged.{HaveUpTo, View, united}
use Rattle.sketch_merge.specs.Merging.{IfReplay, MayTake, has_dropped, level_size, with_reply}
use Rattle.sketch_merge.specs.Stored.{IsStored, stored_view}
use Rattle.sketch_merge.proofs.LevelLists.{bound-levels_of, flat_bound-levels_of, zip2-levels_of}
use Rattle.sketch_merge.proofs.Views.{HaveUpTo-united, IsStored-next}

abbrev heap_view : Heap → List (List ℕ)
heap_view heap = heap.keys

-- the reply that a value of the code is
abbrev pub replay_of : ℕ → Params → ℕ → ℕ → ReplayBody → ReplayReply
replay_of job params items weight body =
    record { head = head_of job (setting_of params) items weight; counters = body.counters; heaps = body.heaps }

pub if_replay : (P : ReplayReply → Type 0) (value : ReplyEnum) (job : ℕ) (params : Params) (items weight : ℕ)
    (body : ReplayBody) → value ≡ variants.Replay job params items weight body → IfReplay P (reply_of value)
    → P (replay_of job params items weight body)
if_replay P value job params items weight body is held =
    subst (λ (r : ReplyEnum). IfReplay P (reply_of r)) is held

pub replay_if : (P : ReplayReply → Type 0) (value : ReplyEnum) (job : ℕ) (params : Params) (items weight : ℕ)
    (body : ReplayBody) → value ≡ variants.Replay job params items weight body
    → P (replay_of job params items weight body) → IfReplay P (reply_of value)
replay_if P value job params items weight body is held =
    subst (λ (r : ReplyEnum). IfReplay P (reply_of r)) (sym is) held

-- the keys of each level of a reply
abbrev pub reply_keys : ReplayReply → List (List (List ℕ))
reply_keys reply = map (λ heap. heap.keys) reply.heaps

-- a reply has as many counters as a sketch of its numbers
pub reply_number : (setting : Setting) (reply : ReplayReply) → IsReplayReply reply → reply.head.setting ≡ setting
    → length reply.counters ≡ level_count setting * level_size setting
reply_number setting reply proper same = proper.number ∙ ap counter_count same ∙ grind arith

pub reply_levels : (setting : Setting) (reply : ReplayReply) → IsReplayReply reply → reply.head.setting ≡ setting
    → length reply.heaps ≡ level_count setting
reply_levels setting reply proper same = proper.levels ∙ ap level_count same

pub reply_ascending : (reply : ReplayReply) → IsReplayReply reply
    → All (IsStrictlySortedBy (slice_cmp nat_cmp)) (reply_keys reply)
reply_ascending reply proper =
    let Ascends : List (List ℕ) → Type 0 = IsStrictlySortedBy (slice_cmp nat_cmp) in
    All-map Ascends heap_view reply.heaps
    (All-weaker (IsHeap reply.head.setting.heap) (λ (heap : Heap). Ascends heap.keys) (λ heap is. is.ascending)
    reply.heaps proper.heaps)

reply_few : (setting : Setting) (reply : ReplayReply) → IsReplayReply reply → reply.head.setting ≡ setting
    → HaveUpTo setting.heap (reply_keys reply)
reply_few setting reply proper same =
    subst (λ (s : Setting). HaveUpTo s.heap (reply_keys reply)) same (record {
      each = All-map (λ (level : List (List ℕ)). length level ≤ reply.head.setting.heap) heap_view reply.heaps
          (All-weaker (IsHeap reply.head.setting.heap)
          (λ (heap : Heap). length heap.keys ≤ reply.head.setting.heap) (λ heap is. is.few) reply.heaps proper.heaps);
    })

pub reply_small : (reply : ReplayReply) → IsReplayReply reply → AllUpTo reply.head.weight reply.counters
reply_small reply proper = record {
  each = All-weaker (IsCounter reply.head.weight) (λ (x : ℤ). unsigned_abs x ≤ reply.head.weight) (λ x is. is.light)
      reply.counters proper.counters;
}

-- what a reply leaves behind it
pub record IsTaken (view : View) (reply : ReplayReply) (setting : Setting) (counters : List ℤ)
    (keys : List (List (List ℕ))) (dropped : Bool) (weight : ℕ) : Type 0 where
  pub stored : IsStored setting counters keys
  pub is : stored_view setting counters keys dropped weight ≡ with_reply view reply
  pub small : All (AllUpTo weight) (levels_of (level_count setting) (level_size setting) counters)
  pub few : (n : ℕ) → HaveUpTo n view.keys → HaveUpTo (n + view.setting.heap) keys

module _ (setting : Setting) (counters : List ℤ) (keys : List (List (List ℕ))) (dropped : Bool) (weight : ℕ)
    (stored : IsStored setting counters keys) (reply : ReplayReply)
    (may : MayTake (stored_view setting counters keys dropped weight) reply) where
  number : length counters ≡ length reply.counters
  number = stored.number ∙ sym (reply_number setting reply may.proper may.setting)

  -- no absolute counter is above both weights together
  small : AllUpTo (weight + reply.head.weight) (plus counters reply.counters)
  small = plus-upto weight reply.head.weight counters reply.counters number
      (flat_bound-levels_of weight (level_count setting) (level_size setting) counters stored.number may.small)
      (reply_small reply may.proper)

  IsStored-sum : IsStored setting (plus counters reply.counters) (zip2 united keys (reply_keys reply))
  IsStored-sum =
      IsStored-next setting counters (plus counters reply.counters) keys (reply_keys reply) stored
      (length-zip2 ◌+ℤ◌ counters reply.counters number)
      (AllUpTo-more (weight + reply.head.weight) (2 ^ 45) (plus counters reply.counters)
      (omega (arith, may.light)) small)
      (length-map reply.heaps heap_view ∙ reply_levels setting reply may.proper may.setting)

  sum_view : stored_view setting (plus counters reply.counters) (zip2 united keys (reply_keys reply))
      (dropped || has_dropped reply) (weight + reply.head.weight)
      ≡ with_reply (stored_view setting counters keys dropped weight) reply
  unfolding with_reply
  sum_view = ap
      (λ (all : List (List ℤ)). record {
        setting = setting;
        weight = weight + reply.head.weight;
        counters = all;
        keys = zip2 united keys (reply_keys reply);
        dropped = dropped || has_dropped reply;
      })
      (zip2-levels_of ◌+ℤ◌ (level_count setting) (level_size setting) counters reply.counters)

  sum_taken : IsTaken (stored_view setting counters keys dropped weight) reply setting
      (plus counters reply.counters) (zip2 united keys (reply_keys reply)) (dropped || has_dropped reply)
      (weight + reply.head.weight)
  sum_taken = record {
    stored = IsStored-sum;
    is = sum_view;
    small = bound-levels_of (weight + reply.head.weight) (level_count setting) (level_size setting)
        (plus counters reply.counters) small;
    few = λ n few.
        HaveUpTo-united n setting.heap keys (reply_keys reply) few (reply_few setting reply may.proper may.setting);
  }

-- what was stored, with a reply added to its counters, keys and mark
pub taken_stored : (setting : Setting) (counters next : List ℤ) (keys more : List (List (List ℕ)))
    (dropped mark : Bool) (weight : ℕ) (view : View) (reply : ReplayReply)
    → IsStored setting counters keys → stored_view setting counters keys dropped weight ≡ view → MayTake view reply
    → next ≡ plus counters reply.counters → more ≡ zip2 united keys (reply_keys reply)
    → mark ≡ (dropped || has_dropped reply) → IsTaken view reply setting next more mark (weight + reply.head.weight)
taken_stored setting counters next keys more dropped mark weight view reply stored is may sums unions joined =
    let total : ℕ = weight + reply.head.weight in
    let old : View = stored_view setting counters keys dropped weight in
    let sum : List ℤ = plus counters reply.counters in
    let all : List (List (List ℕ)) = zip2 united keys (reply_keys reply) in
    subst (λ (v : View). IsTaken v reply setting next more mark total) is
    (subst (λ (c : List ℤ). IsTaken old reply setting c more mark total) (sym sums)
    (subst (λ (k : List (List (List ℕ))). IsTaken old reply setting sum k mark total) (sym unions)
    (subst (λ (m : Bool). IsTaken old reply setting sum all m total) (sym joined)
    (sum_taken setting counters keys dropped weight stored reply
    (subst (λ (v : View). MayTake v reply) (sym is) may)))))
