-- The search for a key by halves.
use Rattle.std.proofs.Common.{◌≡◌, ℕ, ◌+◌, ◌<◌, ◌≤◌, inl, inr, List, [], length, get_or, take, pos, length-take-le, sym, ◌∙◌, ap, subst, arith}
use Rattle.std.specs.Cmp.Lexicographic.{slice_cmp}
use Rattle.std.specs.declared.cmp.Ordering.TheVariants.{Less, Equal, Greater}
use Rattle.std.specs.Ordering.{nat_cmp}
use Rattle.std.proofs.lemmas.Bool.{cases_lt}
use Rattle.std.proofs.lemmas.Cmp.{nat_list_cmp_total}
use Rattle.std.proofs.lemmas.List.{get_or-take, get_or_default}
use Rattle.std.proofs.lemmas.List.Elements.{All-from_get_or}
use Rattle.std.proofs.lemmas.Map.Keys.{Less-from_sorted}
use Rattle.std.proofs.lemmas.Map.Lookups.{exact_bytes}
use Rattle.topk_heap.specs.Places.{HasLesserBefore}
use Rattle.topk_heap.specs.Ranking.{IsAscending, key_cmp}
use Rattle.topk_heap.specs.declared.entry.Entry.{Entry}
use Rattle.flow_keys.proofs.KeyOrder.{greater_back, less_back}

-- the keys before `low` are lesser, and those from `high` on greater
pub record IsBetween (entries : List Entry) (key : List ℕ) (low high : ℕ) : Type 0 where
  pub order : low ≤ high
  pub within : high ≤ length entries
  pub lesser : (k : ℕ) (d : Entry) → k < low → slice_cmp nat_cmp (get_or entries k d).key key ≡ Less
  pub greater : (k : ℕ) (d : Entry) → high ≤ k → k < length entries
      → slice_cmp nat_cmp (get_or entries k d).key key ≡ Greater

pub between_all : (entries : List Entry) (key : List ℕ) → IsBetween entries key 0 (length entries)
between_all entries key = record {
  order = omega arith;
  within = omega arith;
  lesser = λ k d below. absurd (omega (arith, below));
  greater = λ k d above within. absurd (omega (arith, above, within));
}

below_middle : (entries : List Entry) (key : List ℕ) (k middle : ℕ) (d : Entry) → IsAscending entries → k ≤ middle
    → middle < length entries → slice_cmp nat_cmp (get_or entries middle d).key key ≡ Less
    → slice_cmp nat_cmp (get_or entries k d).key key ≡ Less
below_middle entries key k middle d ascending under within less = elim (cases_lt k middle) [
  | inl before ↦ nat_list_cmp_total.trans (get_or entries k d).key (get_or entries middle d).key key
      (Less-from_sorted key_cmp entries k middle d ascending before within) less
  | inr same ↦ let is : middle ≡ k = omega arith in subst
      (λ (n : ℕ). slice_cmp nat_cmp (get_or entries n d).key key ≡ Less) is less
]

pub above_middle : (entries : List Entry) (key : List ℕ) (k middle : ℕ) (d : Entry) → IsAscending entries → middle ≤ k
    → k < length entries → slice_cmp nat_cmp (get_or entries middle d).key key ≡ Greater
    → slice_cmp nat_cmp (get_or entries k d).key key ≡ Greater
above_middle entries key k middle d ascending over within greater = elim (cases_lt middle k) [
  | inl before ↦
      greater_back key (get_or entries k d).key
      (nat_list_cmp_total.trans key (get_or entries middle d).key (get_or entries k d).key
      (less_back (get_or entries middle d).key key greater)
      (Less-from_sorted key_cmp entries middle k d ascending before within))
  | inr same ↦ let is : middle ≡ k = omega arith in subst
      (λ (n : ℕ). slice_cmp nat_cmp (get_or entries n d).key key ≡ Greater) is greater
]

pub between_upper : (entries : List Entry) (key : List ℕ) (low high middle : ℕ) → IsAscending entries
    → IsBetween entries key low high → middle < high → ((d : Entry)
    → slice_cmp nat_cmp (get_or entries middle d).key key ≡ Less) → IsBetween entries key (middle + 1) high
between_upper entries key low high middle ascending between under less = record {
  order = omega arith;
  within = between.within;
  lesser = λ k d below. below_middle entries key k middle d ascending (omega arith) (omega (arith, between.within))
      (less d);
  greater = between.greater;
}

pub between_lower : (entries : List Entry) (key : List ℕ) (low high middle : ℕ) → IsAscending entries
    → IsBetween entries key low high → low ≤ middle → middle < high
    → ((d : Entry) → slice_cmp nat_cmp (get_or entries middle d).key key ≡ Greater) → IsBetween entries key low middle
between_lower entries key low high middle ascending between over under greater = record {
  order = over;
  within = omega (arith, between.within);
  lesser = between.lesser;
  greater = λ k d above within. above_middle entries key k middle d ascending above within (greater d);
}

pub lesser_before : (entries : List Entry) (key : List ℕ) (place : ℕ) → place ≤ length entries
    → ((k : ℕ) (d : Entry) → k < place → slice_cmp nat_cmp (get_or entries k d).key key ≡ Less)
    → HasLesserBefore entries key place
lesser_before entries key place within lesser = record {
  within = within;
  lesser = All-from_get_or Lesser (take place entries) nobody (λ k below.
      let under : k < place = omega (arith, below, length-take-le place entries within) in
      subst Lesser (sym (get_or-take place entries k nobody under)) (lesser k nobody under));
}
  where
    Lesser : Entry → Type 0
    Lesser e = slice_cmp nat_cmp e.key key ≡ Less

    nobody : Entry
    nobody = record { key = []; score = pos 0 }

-- at the key itself, the keys before are lesser
pub lesser_at : (entries : List Entry) (key : List ℕ) (place : ℕ) (d : Entry) → IsAscending entries
    → place < length entries → slice_cmp nat_cmp (get_or entries place d).key key ≡ Equal
    → HasLesserBefore entries key place
lesser_at entries key place d ascending within same =
    lesser_before entries key place (omega arith) (λ k c before.
    subst (λ (other : List ℕ). slice_cmp nat_cmp (get_or entries k c).key other ≡ Less)
    (ap (λ (e : Entry). e.key) (get_or_default entries place c d within) ∙ exact_bytes _ key same)
    (Less-from_sorted key_cmp entries k place c ascending before within))
