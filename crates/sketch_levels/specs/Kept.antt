-- What a level keeps of the items that are live there, and whether its heap dropped a key.
use Rattle.std.specs.Prelude.{◌≡◌, ◌≢◌, ℕ, ℤ, Bool, nat_lt, List, [], ◌∷◌, ◌++◌, length, map, reverse, All}
use Rattle.count_sketch.specs.Counters.{Item, counters_of}
use Rattle.count_sketch.specs.Estimate.{estimate}
use Rattle.topk_heap.specs.Ranking.{best, with_score}
use Rattle.topk_heap.specs.declared.entry.Entry.{Entry}
use Rattle.hash_family.specs.Setting.{Setting}
use Rattle.sketch_levels.specs.Items.{distinct_keys}

-- the estimate of a key at a level, in the counters of the items that are live there
unfoldable pub score : Setting → ℕ → List Item → List ℕ → ℤ
score setting level items key =
    estimate setting.seed level setting.rows setting.width
    (counters_of setting.seed level setting.rows setting.width items) key

-- the entries kept of a list, from its newest item back: the best ones of those kept before and the newest item's
-- key, with the estimate that the key has once the item is counted
unfoldable pub kept_back : Setting → ℕ → List Item → List Entry
kept_back setting level [] = []
kept_back setting level (item ∷ earlier) =
    best setting.heap
    (with_score (kept_back setting level earlier) item.key (score setting level (reverse (item ∷ earlier)) item.key))

-- the entries that a level keeps of the items that are live there
unfoldable pub kept : Setting → ℕ → List Item → List Entry
kept setting level items = kept_back setting level (reverse items)

-- the keys that a level keeps, in ascending order
unfoldable pub kept_keys : Setting → ℕ → List Item → List (List ℕ)
kept_keys setting level items = map (λ entry. entry.key) (kept setting level items)

-- an entry's score is the estimate that its key had once its last item was counted
pub record HasLastScore (setting : Setting) (level : ℕ) (items : List Item) (entry : Entry) : Type 0 where
  pub before : List Item
  pub last : Item
  pub after : List Item
  pub parts : items ≡ before ++ last ∷ after
  pub its_key : last.key ≡ entry.key
  pub is_last : All (λ item. item.key ≢ entry.key) after
  pub its_score : entry.score ≡ score setting level (before ++ last ∷ []) entry.key

-- the items have more distinct keys than a heap holds
unfoldable pub is_dropped : Setting → List Item → Bool
is_dropped setting items = nat_lt setting.heap (length (distinct_keys items))
