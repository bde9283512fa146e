-- Which entries of a list are the best.
use Rattle.std.specs.Prelude.{ℕ, ℤ, Bool, nat_lt, nat_le, List, ◌∷◌, ◌++◌, map, filter, count_by}
use Rattle.std.specs.List.{list_any}
use Rattle.std.specs.Cmp.Lexicographic.{slice_cmp}
use Rattle.std.specs.List.Sorted.{IsStrictlySortedBy}
use Rattle.std.specs.declared.cmp.Ordering.{Ordering}
use Rattle.std.specs.Ordering.{is_eq, is_lt, int_cmp, nat_cmp, ordering_then}
use Rattle.topk_heap.specs.declared.entry.Entry.{Entry}

-- a greater score comes first, and of equal scores the lesser key
abbrev pub rank_cmp : Entry → Entry → Ordering
rank_cmp d e = ordering_then (int_cmp e.score d.score) (slice_cmp nat_cmp d.key e.key)

-- whether the first entry comes before the second
abbrev pub ranks_before : Entry → Entry → Bool
ranks_before d e = is_lt (rank_cmp d e)

-- how many of the entries rank before this one
abbrev pub rank : List Entry → Entry → ℕ
rank entries e = count_by (λ d. ranks_before d e) entries

-- the entries that rank among the first `size`
unfoldable pub best : ℕ → List Entry → List Entry
best size entries = filter (λ e. nat_lt (rank entries e) size) entries

-- the keys of the entries that don't rank among them
unfoldable pub dropped_keys : ℕ → List Entry → List (List ℕ)
dropped_keys size entries = map (λ e. e.key) (filter (λ e. nat_le size (rank entries e)) entries)

-- keys are ordered by their words, the first ones first
abbrev pub is_below : List ℕ → List ℕ → Bool
is_below key other = is_lt (slice_cmp nat_cmp key other)

-- a key with a score
abbrev pub entry : List ℕ → ℤ → Entry
entry key score = record { key = key; score = score }

-- the entries of lesser keys, the key with its score, and the entries of greater keys
unfoldable pub with_score : List Entry → List ℕ → ℤ → List Entry
with_score entries key score =
    filter (λ e. is_below e.key key) entries ++ (entry key score ∷ filter (λ e. is_below key e.key) entries)

-- whether the key is among the entries
unfoldable pub holds : List Entry → List ℕ → Bool
holds entries key = list_any (λ e. is_eq (slice_cmp nat_cmp e.key key)) entries

-- entries in the order of their keys
abbrev pub key_cmp : Entry → Entry → Ordering
key_cmp d e = slice_cmp nat_cmp d.key e.key

-- each key is below all later ones
abbrev pub IsAscending : List Entry → Type 0
IsAscending entries = IsStrictlySortedBy key_cmp entries
