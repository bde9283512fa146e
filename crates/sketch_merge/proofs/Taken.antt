-- One reply more in an empty place.
use Rattle.std.proofs.Common.{◌≡◌, ℕ, ◌+◌, ◌<◌, ◌||◌, zero, suc, Bool, true, false, List, [], ◌∷◌, fold, map, length}
use Rattle.std.proofs.Common.{get_or, set, Option, None, Some, ℤ, pos, ◌+ℤ◌, refl, sym, ◌∙◌, ap, arith}
use Rattle.std.specs.List.{flat_map, list_any, range_with_len}
use Rattle.std.specs.List.Sorted.{IsStrictlySortedBy}
use Rattle.std.specs.Cmp.Lexicographic.{slice_cmp}
use Rattle.std.specs.Ordering.{nat_cmp}
use Rattle.std.specs.Simd.Lanes.{zip2}
use Rattle.std.proofs.lemmas.Int.{ints}
use Rattle.std.proofs.lemmas.List.Folds.{list_any-append}
use Rattle.std.proofs.lemmas.Simd.{map-map, zip2-map}
use Rattle.flow_keys.proofs.KeySets.{same}
use Rattle.hash_family.specs.Setting.{Setting}
use Rattle.count_sketch.specs.Counters.{int_sum_by, plus}
use Rattle.reply_format.specs.Reply.{IsReplayReply, ReplayReply, level_count}
use Rattle.reply_format.specs.declared.heap.Heap.{Heap}
use Rattle.sketch_merge.specs.Levels.{levels_of}
use Rattle.sketch_merge.specs.Merged.{united}
use Rattle.sketch_merge.specs.Merging.{counter_in, has_dropped, heap_in, is_marked, level_size, merged_counters}
use Rattle.sketch_merge.specs.Merging.{merged_view, named_keys, present, with_reply}
use Rattle.sketch_merge.proofs.Additions.{reply_levels, reply_number}
use Rattle.sketch_merge.proofs.LevelLists.{zip2-levels_of}
use Rattle.sketch_merge.proofs.Members.{any-united, same_keys}
use Rattle.sketch_merge.proofs.Replies.{all_size, as_made, sums, sums-levels_of}
use Rattle.sketch_merge.proofs.Unions.{ascending-united}

-- ---- over the places that are not empty

-- a sum that begins with more
sum_moved : {X : Type 0} (f : X → ℤ) (a v : ℤ) (xs : List X)
    → fold (λ total x. total +ℤ f x) (a +ℤ v) xs ≡ fold (λ total x. total +ℤ f x) a xs +ℤ v
sum_moved f a v [] = refl
sum_moved f a v (x ∷ xs) =
    let swapped : (a +ℤ v) +ℤ f x ≡ (a +ℤ f x) +ℤ v = omega (arith, ints) in
    ap (λ (start : ℤ). fold (λ total y. total +ℤ f y) start xs) swapped ∙ sum_moved f (a +ℤ f x) v xs

present_sum : (f : ReplayReply → ℤ) (a : ℤ) (places : List (Option ReplayReply)) (job : ℕ) (reply : ReplayReply)
    → job < length places → get_or places job None ≡ None
    → fold (λ total r. total +ℤ f r) a (present (set places job (Some reply)))
    ≡ fold (λ total r. total +ℤ f r) a (present places) +ℤ f reply
present_sum f a [] job reply within empty = absurd (omega arith)
present_sum f a (None ∷ places) zero reply within empty = sum_moved f a (f reply) (present places)
present_sum f a (Some other ∷ places) zero reply within empty = absurd (let e : Some other ≡ None = empty in cc)
present_sum f a (None ∷ places) (suc job) reply within empty = present_sum f a places job reply (omega arith) empty
present_sum f a (Some other ∷ places) (suc job) reply within empty =
    present_sum f (a +ℤ f other) places job reply (omega arith) empty

or_turn : (a b : Bool) → (a || b) ≡ (b || a)
or_turn true true = refl
or_turn true false = refl
or_turn false true = refl
or_turn false false = refl

or_assoc : (a b c : Bool) → (a || (b || c)) ≡ ((a || b) || c)
or_assoc true b c = refl
or_assoc false b c = refl

present_any : (p : ReplayReply → Bool) (places : List (Option ReplayReply)) (job : ℕ) (reply : ReplayReply)
    → job < length places → get_or places job None ≡ None
    → list_any p (present (set places job (Some reply))) ≡ (list_any p (present places) || p reply)
present_any p [] job reply within empty = absurd (omega arith)
present_any p (None ∷ places) zero reply within empty = or_turn (p reply) (list_any p (present places))
present_any p (Some other ∷ places) zero reply within empty = absurd (let e : Some other ≡ None = empty in cc)
present_any p (None ∷ places) (suc job) reply within empty = present_any p places job reply (omega arith) empty
present_any p (Some other ∷ places) (suc job) reply within empty =
    ap (λ (b : Bool). p other || b) (present_any p places job reply (omega arith) empty)
    ∙ or_assoc (p other) (list_any p (present places)) (p reply)

list_any-flat_map : {X Y : Type 0} (p : Y → Bool) (f : X → List Y) (xs : List X)
    → list_any p (flat_map f xs) ≡ list_any (λ x. list_any p (f x)) xs
list_any-flat_map p f [] = refl
list_any-flat_map p f (x ∷ xs) =
    list_any-append p (f x) (flat_map f xs)
    ∙ ap (λ (b : Bool). list_any p (f x) || b) (list_any-flat_map p f xs)

-- ---- named keys

ascending-named : (replies : List ReplayReply) (level : ℕ)
    → IsStrictlySortedBy (slice_cmp nat_cmp) (named_keys replies level)
unfolding named_keys IsStrictlySortedBy
ascending-named replies level = ascending-united [] (flat_map (λ reply. (heap_in level reply).keys) replies) tt

any-named : (q : List ℕ) (replies : List ReplayReply) (level : ℕ)
    → list_any (same q) (named_keys replies level)
    ≡ list_any (λ reply. list_any (same q) (heap_in level reply).keys) replies
unfolding named_keys
any-named q replies level =
    any-united q [] (flat_map (λ reply. (heap_in level reply).keys) replies)
    ∙ list_any-flat_map (same q) (λ reply. (heap_in level reply).keys) replies

-- ---- the reply is taken

module _ (setting : Setting) (places : List (Option ReplayReply)) (job : ℕ) (reply : ReplayReply)
    (within : job < length places) (empty : get_or places job None ≡ None) (proper : IsReplayReply reply)
    (same_setting : reply.head.setting ≡ setting) where
  now : List (Option ReplayReply)
  now = set places job (Some reply)

  sums_taken : plus (sums setting (present places)) reply.counters ≡ sums setting (present now)
  unfolding counter_in now
  sums_taken =
      let all : List ℕ = range_with_len 0 (all_size setting) in
      let number = reply_number setting reply proper same_setting in
      ap (plus (sums setting (present places))) (as_made reply.counters (all_size setting) (pos 0) number)
      ∙ zip2-map ◌+ℤ◌ (λ place. int_sum_by (counter_in place) (present places)) (λ place. counter_in place reply) all
      ∙ λ i. map (λ place. sym (present_sum (counter_in place) (pos 0) places job reply within empty) i) all

  counters_taken : zip2 plus (map (merged_counters setting (present places)) (range_with_len 0 (level_count setting)))
      (levels_of (level_count setting) (level_size setting) reply.counters)
      ≡ map (merged_counters setting (present now)) (range_with_len 0 (level_count setting))
  counters_taken =
      let levels : ℕ = level_count setting in
      let size : ℕ = level_size setting in
      ap (λ (old : List (List ℤ)). zip2 plus old (levels_of levels size reply.counters))
      (sym (sums-levels_of setting (present places)))
      ∙ sym (zip2-levels_of ◌+ℤ◌ levels size (sums setting (present places)) reply.counters)
      ∙ ap (levels_of levels size) sums_taken
      ∙ sums-levels_of setting (present now)

  level_keys_taken : (level : ℕ) → united (named_keys (present places) level) (heap_in level reply).keys
      ≡ named_keys (present now) level
  unfolding now
  level_keys_taken level =
      let keys : List (List ℕ) = (heap_in level reply).keys in
      same_keys _ _ (ascending-united (named_keys (present places) level) keys (ascending-named (present places) level))
      (ascending-named (present now) level) (λ q.
      any-united q (named_keys (present places) level) keys
      ∙ ap (λ (b : Bool). b || list_any (same q) keys) (any-named q (present places) level)
      ∙ sym (present_any (λ r. list_any (same q) (heap_in level r).keys) places job reply within empty)
      ∙ sym (any-named q (present now) level))

  keys_taken : zip2 united (map (named_keys (present places)) (range_with_len 0 (level_count setting)))
      (map (λ heap. heap.keys) reply.heaps)
      ≡ map (named_keys (present now)) (range_with_len 0 (level_count setting))
  unfolding heap_in
  keys_taken =
      let levels : List ℕ = range_with_len 0 (level_count setting) in
      let heaps = reply_levels setting reply proper same_setting in
      let none : Heap = record { dropped = false; keys = [] } in
      let old : List (List (List ℕ)) = map (named_keys (present places)) levels in
      ap (λ (all : List Heap). zip2 united old (map (λ heap. heap.keys) all))
      (as_made reply.heaps (level_count setting) none heaps)
      ∙ ap (zip2 united old) (map-map (λ (heap : Heap). heap.keys) (λ level. heap_in level reply) levels)
      ∙ zip2-map united (named_keys (present places)) (λ level. (heap_in level reply).keys) levels
      ∙ λ i. map (λ level. level_keys_taken level i) levels

  pub taken : (weight : ℕ) → with_reply (merged_view setting weight (present places)) reply
      ≡ merged_view setting (weight + reply.head.weight) (present (set places job (Some reply)))
  unfolding with_reply merged_view is_marked now
  taken weight i = record {
    setting = setting;
    weight = weight + reply.head.weight;
    counters = counters_taken i;
    keys = keys_taken i;
    dropped = sym (present_any has_dropped places job reply within empty) i;
  }
