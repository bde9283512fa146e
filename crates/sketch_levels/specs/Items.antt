-- The items of a level, and the distinct keys of a list.
use Rattle.std.specs.Prelude.{ℕ, List, [], filter, map, fold, sum_by}
use Rattle.std.specs.BTreeSet.{insert_key}
use Rattle.std.specs.Cmp.Lexicographic.{slice_cmp}
use Rattle.std.specs.Ordering.{nat_cmp}
use Rattle.hash_family.specs.Hash.{is_live}
use Rattle.count_sketch.specs.Counters.{Item}

-- the sum of the weights
abbrev pub weight_of : List Item → ℕ
weight_of items = sum_by (λ item. item.weight) items

-- the items whose key is live at a level
unfoldable pub live_items : ℕ → ℕ → List Item → List Item
live_items seed level items = filter (λ item. is_live seed level item.key) items

-- a key put in its place among ascending keys, unless it is there
abbrev pub with_key : List (List ℕ) → List ℕ → List (List ℕ)
with_key keys key = insert_key (slice_cmp nat_cmp) keys key

-- the distinct ones of a list of keys, in ascending order
unfoldable pub distinct : List (List ℕ) → List (List ℕ)
distinct keys = fold with_key [] keys

-- the distinct keys of items, in ascending order
abbrev pub distinct_keys : List Item → List (List ℕ)
distinct_keys items = distinct (map (λ item. item.key) items)
