-- The fields of the heaps, where they go on, and where they end.
use Rattle.std.proofs.Common.{◌≡◌, ◌<◌, ◌&&◌, ◌%◌, ℕ, zero, suc, ◌+◌, ◌-◌, Bool, true, false, nat_le, List, [], ◌∷◌, ◌++◌, length, ℤ, None, Some, slice_get, refl, sym, ◌∙◌, ap, subst, eq-eqb, ne_eqb, arith, if◌then◌else◌}
use Rattle.std.specs.Cmp.Lexicographic.{slice_cmp}
use Rattle.std.specs.Ordering.{nat_cmp, is_lt}
use Rattle.std.proofs.Math.Bool.{and-false}
use Rattle.byteorder.specs.Endian.{little_number}
use Rattle.byte_format.specs.Keys.{key_words}
use Rattle.flow_keys.specs.Key.{is_valid}
use Rattle.child_replies.specs.Steps.{Moves, Stops}
use Rattle.child_replies.proofs.Moves.{tested_on, tested_stop}
use Rattle.reply_format.specs.Places.{End, HeapKey, Place, behind_heap, behind_key, is_above, is_heap_length, judge_place}
use Rattle.reply_format.specs.Places as places
use Rattle.reply_format.specs.Reply.{ReplayHead, level_count}
use Rattle.reply_format.specs.declared.fault.ReplyFault.TheVariants as faults
use Rattle.reply_format.specs.declared.heap.Heap.{Heap}

none_some : {X : Type 0} (x : X) → None ≡ Some x → ⊥
none_some x e = cc

not_true : (b : Bool) → (b ≡ true → ⊥) → b ≡ false
not_true true wrong = absurd (wrong refl)
not_true false wrong = refl

got_none : (keys : List (List ℕ)) (i : ℕ) → i < length keys → slice_get keys i ≡ None → ⊥
got_none [] i less none = omega (arith, less)
got_none (x ∷ keys) zero less none = cc
got_none (x ∷ keys) (suc i) less none = got_none keys i (omega (arith, less)) none

-- of no keys, and by the last of some
pub above_none : (keys : List (List ℕ)) (key : List ℕ) → slice_get keys (length keys - 1) ≡ None
    → true ≡ is_above keys key
unfolding is_above
above_none [] key none = refl
above_none (x ∷ keys) key none = absurd (got_none (x ∷ keys) (length (x ∷ keys) - 1) (omega arith) none)

above_at : (keys : List (List ℕ)) (key last : List ℕ) (i : ℕ) → i + 1 ≡ length keys → slice_get keys i ≡ Some last
    → is_lt (slice_cmp nat_cmp last key) ≡ is_above keys key
unfolding is_above
above_at [] key last i at got = absurd (omega (arith, at))
above_at (x ∷ []) key last zero at got = let same : x
    ≡ last = cc in ap (λ (l : List ℕ). is_lt (slice_cmp nat_cmp l key)) (sym same)
above_at (x ∷ []) key last (suc i) at got = absurd (omega (arith, at))
above_at (x ∷ y ∷ keys) key last zero at got = absurd (omega (arith, at))
above_at (x ∷ y ∷ keys) key last (suc i) at got = above_at (y ∷ keys) key last i (omega (arith, at)) got

pub above_last : (keys : List (List ℕ)) (key last : List ℕ) → slice_get keys (length keys - 1) ≡ Some last
    → is_lt (slice_cmp nat_cmp last key) ≡ is_above keys key
above_last [] key last got = absurd (none_some last got)
above_last (x ∷ keys) key last got = above_at (x ∷ keys) key last (length (x ∷ keys) - 1) (omega arith) got

module _ (e : ReplayHead) (counters : List ℤ) (heaps : List Heap) where
  pub heap_more : length heaps < level_count e.setting → behind_heap e counters heaps ≡ places.HeapLength counters heaps
  heap_more less =
      ap (λ (b : Bool). if b then End (record { counters = counters; heaps = heaps }) else places.HeapLength counters
      heaps)
      (ne_eqb (length heaps) (level_count e.setting) (λ same. omega (arith, less, same)))

  pub heap_last : length heaps ≡ level_count e.setting
      → behind_heap e counters heaps ≡ End (record { counters = counters; heaps = heaps })
  heap_last all =
      ap (λ (b : Bool). if b then End (record { counters = counters; heaps = heaps }) else places.HeapLength counters
      heaps)
      (eq-eqb (length heaps) (level_count e.setting) all)

  pub key_more : (heap : Heap) (left : ℕ) → 0 < left
      → behind_key e counters heaps heap left ≡ HeapKey counters heaps heap left
  key_more heap left some =
      ap (λ (b : Bool). if b then behind_heap e counters (heaps ++ heap ∷ []) else HeapKey counters heaps heap left)
      (ne_eqb left 0 (λ same. omega (arith, some, same)))

  pub key_last : (heap : Heap) (left : ℕ) → left ≡ 0
      → behind_key e counters heaps heap left ≡ behind_heap e counters (heaps ++ heap ∷ [])
  key_last heap left none =
      ap (λ (b : Bool). if b then behind_heap e counters (heaps ++ heap ∷ []) else HeapKey counters heaps heap left)
      (eq-eqb left 0 none)

  -- the same place, by equal keys and numbers
  pub next_key : (dropped : Bool) (keys more : List (List ℕ)) (left less : ℕ) → keys ≡ more → left ≡ less
      → behind_key e counters heaps (record { dropped = dropped; keys = keys }) left
      ≡ behind_key e counters heaps (record { dropped = dropped; keys = more }) less
  next_key dropped keys more left less same is =
      ap (λ (k : List (List ℕ)). behind_key e counters heaps (record { dropped = dropped; keys = k }) left) same
      ∙ ap (λ (n : ℕ). behind_key e counters heaps (record { dropped = dropped; keys = more }) n) is

  module _ (field after bytes : List ℕ) (parts : bytes ≡ field ++ after) where
    module _ (whole : length field ≡ 2) (number : ℕ) (is : number ≡ little_number 2 field) where
      length_of : ℕ → Place
      length_of n = behind_key e counters heaps (record { dropped = nat_le 32768 n; keys = [] }) (n % 32768)

      pub heap_length_on : is_heap_length e number ≡ true
          → Moves e (places.HeapLength counters heaps) bytes
          (behind_key e counters heaps (record { dropped = nat_le 32768 number; keys = [] }) (number % 32768)) after
      unfolding judge_place length_of
      heap_length_on right =
          subst (λ (n : ℕ). Moves e (places.HeapLength counters heaps) bytes (length_of n) after) (sym is)
          (tested_on e (places.HeapLength counters heaps) (length_of (little_number 2 field)) field after bytes
          (is_heap_length e (little_number 2 field)) faults.HeapLength parts whole refl
          (subst (λ (n : ℕ). is_heap_length e n ≡ true) is right))

      pub heap_length_stop : is_heap_length e number ≡ false
          → Stops e (places.HeapLength counters heaps) bytes faults.HeapLength
      unfolding judge_place length_of
      heap_length_stop wrong =
          tested_stop e (places.HeapLength counters heaps) (length_of (little_number 2 field)) field after bytes
          (is_heap_length e (little_number 2 field)) faults.HeapLength parts whole refl
          (subst (λ (n : ℕ). is_heap_length e n ≡ false) is wrong)

    module _ (whole : length field ≡ 44) (dropped : Bool) (keys : List (List ℕ)) (left : ℕ) where
      pub key_on : (key : List ℕ) → key ≡ key_words field → is_valid (key_words field) ≡ true → is_above keys key ≡ true
          → Moves e (HeapKey counters heaps (record { dropped = dropped; keys = keys }) left) bytes
          (behind_key e counters heaps (record { dropped = dropped; keys = keys ++ key ∷ [] }) (left - 1)) after
      unfolding judge_place
      key_on key same valid above =
          subst (λ (k : List ℕ). Moves e (HeapKey counters heaps (record { dropped = dropped; keys = keys }) left) bytes
          (behind_key e counters heaps (record { dropped = dropped; keys = keys ++ k ∷ [] }) (left - 1)) after)
          (sym same)
          (tested_on e (HeapKey counters heaps (record { dropped = dropped; keys = keys }) left)
          (behind_key e counters heaps (record { dropped = dropped; keys = keys ++ key_words field ∷ [] }) (left - 1))
          field after bytes
          (is_valid (key_words field) && is_above keys (key_words field)) faults.HeapOrder parts whole refl
          (ap (λ (b : Bool). b && is_above keys (key_words field)) valid
          ∙ subst (λ (k : List ℕ). is_above keys k ≡ true) same above))

      key_wrong : (is_valid (key_words field) && is_above keys (key_words field)) ≡ false
          → Stops e (HeapKey counters heaps (record { dropped = dropped; keys = keys }) left) bytes faults.HeapOrder
      unfolding judge_place
      key_wrong wrong =
          tested_stop e (HeapKey counters heaps (record { dropped = dropped; keys = keys }) left)
          (behind_key e counters heaps (record { dropped = dropped; keys = keys ++ key_words field ∷ [] }) (left - 1))
          field after bytes
          (is_valid (key_words field) && is_above keys (key_words field)) faults.HeapOrder parts whole refl wrong

      pub key_none : (is_valid (key_words field) ≡ true → ⊥)
          → Stops e (HeapKey counters heaps (record { dropped = dropped; keys = keys }) left) bytes faults.HeapOrder
      key_none none = key_wrong (ap (λ (b : Bool). b && is_above keys (key_words field))
          (not_true (is_valid (key_words field)) none))

      pub key_below : (key : List ℕ) → key ≡ key_words field → is_above keys key ≡ false
          → Stops e (HeapKey counters heaps (record { dropped = dropped; keys = keys }) left) bytes faults.HeapOrder
      key_below key same below =
          key_wrong (ap (λ (b : Bool). is_valid (key_words field) && b)
          (subst (λ (k : List ℕ). is_above keys k ≡ false) same below)
          ∙ and-false (is_valid (key_words field)))
