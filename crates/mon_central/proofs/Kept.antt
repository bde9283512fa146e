-- The keys that a level keeps, and how many there are.
use Rattle.std.proofs.Common.{ℕ, ◌+◌, ◌≤◌, List, [], ◌∷◌, length, fold, map, max, IsTrue, arith}
use Rattle.std.proofs.lemmas.Bool.Decides.{nat_tests}
use Rattle.std.proofs.lemmas.List.{length-map}
use Rattle.std.specs.Cmp.Lexicographic.{slice_cmp}
use Rattle.std.specs.Ordering.{nat_cmp}
use Rattle.count_sketch.specs.Counters.{Item}
use Rattle.sketch_levels.specs.Items.{distinct, distinct_keys, live_items, with_key}
use Rattle.flow_keys.proofs.KeyOrder.{by_order}
use Rattle.mon_call.specs.Setting.{is_setting}
use Rattle.mon_call.specs.declared.setting.Setting.{Setting}
use Rattle.mon_central.proofs.Packets.{length-live_items-le}

-- a key put in makes one more at most
length-with_key-le : (keys : List (List ℕ)) (key : List ℕ) → length (with_key keys key) ≤ length keys + 1
length-with_key-le [] key = omega arith
length-with_key-le (x ∷ keys) key = by_order (slice_cmp nat_cmp key x)
    (λ less. rw less (omega arith))
    (λ same. rw same (omega arith))
    (λ greater. rw greater (omega (arith, length-with_key-le keys key)))

length-fold-le : (keys more : List (List ℕ)) → length (fold with_key keys more) ≤ length keys + length more
length-fold-le keys [] = omega arith
length-fold-le keys (key ∷ more) = omega (arith, length-fold-le (with_key keys key) more, length-with_key-le keys key)

-- no more distinct keys than items
length-distinct_keys-le : (items : List Item) → length (distinct_keys items) ≤ length items
unfolding distinct
length-distinct_keys-le items =
    let f : Item → List ℕ = λ item. item.key in
    omega (arith, length-fold-le [] (map f items), length-map items f)

-- no more distinct live keys than items
pub few_live : (seed level : ℕ) (items : List Item)
    → length (distinct_keys (live_items seed level items)) ≤ length items
few_live seed level items =
    omega (arith, length-distinct_keys-le (live_items seed level items), length-live_items-le seed level items)

-- the greatest heap has few keys
pub few_heap : (setting : Setting) → IsTrue (is_setting setting) → max setting.heap 1 ≤ 1048576
few_heap setting range = grind (arith, nat_tests)
