-- The slots that rank last of their groups.
use Rattle.std.proofs.Common.{◌≡◌, ◌≢◌, ℕ, ◌+◌, ◌*◌, ◌/◌, ◌<◌, ◌≤◌, true, false, inl, inr, List, length, length-set, get_or, set, refl, sym, ◌∙◌, ap, subst, arith}
use Rattle.std.proofs.lemmas.Bool.{cases_eq, cases_lt}
use Rattle.std.proofs.lemmas.List.{get_or-set_other, get_or-set_same, get_or_default}
use Rattle.topk_heap.specs.Places.{HasLasts, RanksLast, RanksLastOfGroup}
use Rattle.topk_heap.specs.Ranking.{ranks_before}
use Rattle.topk_heap.specs.declared.entry.Entry.{Entry}
use Rattle.topk_heap.proofs.Order.{not_before_either, not_before_itself, not_before_more}

-- of the entries from `start` to before `upto` none ranks behind the one at `place`
pub record IsLastFrom (entries : List Entry) (start place upto : ℕ) : Type 0 where
  pub from : start ≤ place
  pub within : place < upto
  pub last : (k : ℕ) (d : Entry) → start ≤ k → k < upto
      → ranks_before (get_or entries place d) (get_or entries k d) ≡ false

-- the first entry is the last one so far
pub from_one : (entries : List Entry) (start : ℕ) → IsLastFrom entries start start (start + 1)
from_one entries start = record {
  from = omega arith;
  within = omega arith;
  last = λ k d over below. let first : k ≡ start = omega arith in rw first (not_before_itself (get_or entries start d));
}

-- one more entry, which the last one doesn't rank before, or does
pub from_stays : (entries : List Entry) (start place upto : ℕ) → IsLastFrom entries start place upto
    → ((d : Entry) → ranks_before (get_or entries place d) (get_or entries upto d) ≡ false)
    → IsLastFrom entries start place (upto + 1)
from_stays entries start place upto so_far next = record {
  from = so_far.from;
  within = omega (arith, so_far.within);
  last = λ k d over below. elim (cases_lt k upto) [
    | inl under ↦ so_far.last k d over under
    | inr rest ↦ let is : k ≡ upto = omega arith in rw is (next d)
  ];
}

pub from_moves : (entries : List Entry) (start place upto : ℕ) → IsLastFrom entries start place upto
    → ((d : Entry) → ranks_before (get_or entries place d) (get_or entries upto d) ≡ true)
    → IsLastFrom entries start upto (upto + 1)
from_moves entries start place upto so_far next = record {
  from = omega (arith, so_far.from, so_far.within);
  within = omega arith;
  last = λ k d over below. elim (cases_lt k upto) [
    | inl under ↦ not_before_more (get_or entries place d) (get_or entries upto d) (get_or entries k d) (next d)
        (so_far.last k d over under)
    | inr rest ↦ let is : k ≡ upto = omega arith in rw is (not_before_itself (get_or entries upto d))
  ];
}

-- the last one of all slots that a group has
pub last_of_group : (slots : List Entry) (group place upto : ℕ) → IsLastFrom slots (group * 32) place upto
    → upto ≤ length slots → upto ≤ group * 32 + 32 → (upto < group * 32 + 32 → upto ≡ length slots)
    → RanksLastOfGroup slots group place
last_of_group slots group place upto so_far within inside whole = record {
  within = omega (arith, so_far.within, within);
  inside = omega (arith, so_far.within, so_far.from, inside);
  last = λ other d under same. so_far.last other d (omega (arith, same)) (elim (cases_lt upto (group * 32 + 32)) [
    | inl part ↦ omega (arith, whole part, under)
    | inr all ↦ omega (arith, same, all)
  ]);
}

-- of the slots in the groups before `group` none ranks behind this one
pub record IsLastBelow (slots : List Entry) (slot group : ℕ) : Type 0 where
  pub within : slot < length slots
  pub last : (other : ℕ) (d : Entry) → other < length slots → other / 32 < group
      → ranks_before (get_or slots slot d) (get_or slots other d) ≡ false

pub below_one : (slots : List Entry) (slot : ℕ) → RanksLastOfGroup slots 0 slot → IsLastBelow slots slot 1
below_one slots slot first = record {
  within = first.within;
  last = λ other d under low. first.last other d under (omega (arith, low));
}

-- one more group, whose last one the last one so far doesn't rank before, or does
pub below_stays : (slots : List Entry) (slot next group : ℕ) → IsLastBelow slots slot group
    → RanksLastOfGroup slots group next
    → ((d : Entry) → ranks_before (get_or slots slot d) (get_or slots next d) ≡ false)
    → IsLastBelow slots slot (group + 1)
below_stays slots slot next group so_far one behind = record {
  within = so_far.within;
  last = λ other d under low. elim (cases_lt (other / 32) group) [
    | inl before ↦ so_far.last other d under before
    | inr rest ↦
        not_before_either (get_or slots slot d) (get_or slots next d) (get_or slots other d) (behind d)
        (one.last other d under (omega (arith, low, rest)))
  ];
}

pub below_moves : (slots : List Entry) (slot next group : ℕ) → IsLastBelow slots slot group
    → RanksLastOfGroup slots group next
    → ((d : Entry) → ranks_before (get_or slots slot d) (get_or slots next d) ≡ true)
    → IsLastBelow slots next (group + 1)
below_moves slots slot next group so_far one before = record {
  within = one.within;
  last = λ other d under low. elim (cases_lt (other / 32) group) [
    | inl less ↦
        not_before_more (get_or slots slot d) (get_or slots next d) (get_or slots other d) (before d)
        (so_far.last other d under less)
    | inr rest ↦ one.last other d under (omega (arith, low, rest))
  ];
}

-- after the last group it is the last one of all
pub last_of_all : (slots : List Entry) (slot group : ℕ) → IsLastBelow slots slot group → length slots ≤ group * 32
    → RanksLast slots slot
last_of_all slots slot group so_far whole = record {
  within = so_far.within;
  last = λ d k c under. subst (λ (e : Entry). ranks_before (get_or slots slot d) e ≡ false)
      (get_or_default slots k d c under) (so_far.last k d under (omega (arith, whole, under)));
}

-- a slot of another group is written
pub other_group : (slots : List Entry) (group last slot : ℕ) (e : Entry) → RanksLastOfGroup slots group last
    → slot / 32 ≢ group → RanksLastOfGroup (set slots slot e) group last
other_group slots group last slot e one apart = record {
  within = omega (arith, one.within, length-set slots slot e);
  inside = one.inside;
  last = λ other d under same.
      rw (
        get_or-set_other slots slot last e d (λ is. apart (ap (λ (n : ℕ). n / 32) (sym is) ∙ one.inside)),
        get_or-set_other slots slot other e d (λ is. apart (ap (λ (n : ℕ). n / 32) (sym is) ∙ same)),
      ) (one.last other d (omega (arith, under, length-set slots slot e)) same);
}

-- another slot of the group is written, by an entry that the last one doesn't rank before
pub other_slot : (slots : List Entry) (group last slot : ℕ) (e : Entry) → RanksLastOfGroup slots group last
    → slot < length slots → slot ≢ last → ((d : Entry) → ranks_before (get_or slots last d) e ≡ false)
    → RanksLastOfGroup (set slots slot e) group last
other_slot slots group last slot e one within apart behind = record {
  within = omega (arith, one.within, length-set slots slot e);
  inside = one.inside;
  last = λ other d under same. rw (get_or-set_other slots slot last e d (λ is. apart (sym is)))
      (elim (cases_eq other slot) [
        | inl is ↦ rw (is, get_or-set_same slots slot e d within) (behind d)
        | inr differs ↦ rw (get_or-set_other slots slot other e d differs)
            (one.last other d (omega (arith, under, length-set slots slot e)) same)
      ]);
}

-- the group of a written slot is searched, and the others stay
pub lasts-searched : (slots : List Entry) (old new : List ℕ) (slot : ℕ) (e : Entry) → HasLasts slots old
    → ((d : ℕ) → RanksLastOfGroup (set slots slot e) (slot / 32) (get_or new (slot / 32) d))
    → ((other d : ℕ) → other ≢ slot / 32 → get_or new other d ≡ get_or old other d) → HasLasts (set slots slot e) new
lasts-searched slots old new slot e lasts one others = λ group d some. elim (cases_eq group (slot / 32)) [
  | inl same ↦ rw same (one d)
  | inr apart ↦ rw (others group d apart)
      (other_group slots group (get_or old group d) slot e
      (lasts group d (omega (arith, some, length-set slots slot e))) (λ is. apart (sym is)))
]

-- the group of a written slot keeps its last one, and so do the others
pub lasts-stay : (slots : List Entry) (lasts : List ℕ) (slot n : ℕ) (e : Entry) → HasLasts slots lasts
    → slot / 32 < length lasts → RanksLastOfGroup (set slots slot e) (slot / 32) (get_or lasts (slot / 32) n)
    → HasLasts (set slots slot e) lasts
lasts-stay slots lasts slot n e all within one =
    lasts-searched slots lasts lasts slot e all
    (λ d. subst (RanksLastOfGroup (set slots slot e) (slot / 32)) (get_or_default lasts (slot / 32) n d within) one)
    (λ other d apart. refl)
