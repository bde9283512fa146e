-- Deeds from the first one that passes.
use Rattle.std.proofs.Common.{◌≡◌, ℕ, zero, suc, ◌+◌, ◌<◌, ◌≤◌, Bool, true, false, cond, inl, inr, List, [], ◌∷◌, None, Some, drop, length, refl, sym, ◌∙◌, ap, arith, add-one}
use Rattle.std.specs.Prelude.{slice_get, slice_index_or}
use Rattle.std.proofs.lemmas.Bool.{cases_Bool}
use Rattle.std.proofs.lemmas.Option.{none-some, same_Some}
use Rattle.std.proofs.lemmas.List.{length-map}
use Rattle.scripted_crew.specs.Script.{Deed, deed_of, deeds_of, from_started, ticket_of}
use Rattle.scripted_crew.specs.declared.act.Act.{Act}

pub deeds_count : (acts : List Act) → length (deeds_of acts) ≡ length acts
unfolding deeds_of
deeds_count acts = length-map acts deed_of

pub drop_deed : (acts : List Act) (place : ℕ) (d : Act) → place < length acts
    → drop place (deeds_of acts) ≡ deed_of (slice_index_or acts place d) ∷ drop (suc place) (deeds_of acts)
unfolding deeds_of
drop_deed [] place d below = absurd (omega (arith, below))
drop_deed (act ∷ acts) zero d below = refl
drop_deed (act ∷ acts) (suc place) d below = drop_deed acts place d (omega (arith, below))

from_here : (test : ℕ → Bool) (deed : Deed) (deeds : List Deed) → test (ticket_of deed) ≡ true
    → from_started test (deed ∷ deeds) ≡ deed ∷ deeds
unfolding from_started
from_here test deed deeds passes = ap (λ (b : Bool). cond b (deed ∷ deeds) (from_started test deeds)) passes

from_later : (test : ℕ → Bool) (deed : Deed) (deeds : List Deed) → test (ticket_of deed) ≡ false
    → from_started test (deed ∷ deeds) ≡ from_started test deeds
unfolding from_started
from_later test deed deeds fails = ap (λ (b : Bool). cond b (deed ∷ deeds) (from_started test deeds)) fails

from_end : (test : ℕ → Bool) (deeds : List Deed) (place : ℕ) → length deeds ≤ place
    → from_started test (drop place deeds) ≡ drop place deeds
unfolding from_started
from_end test [] zero past = refl
from_end test [] (suc place) past = refl
from_end test (deed ∷ deeds) zero past = absurd (omega (arith, past))
from_end test (deed ∷ deeds) (suc place) past = from_end test deeds place (omega (arith, past))

-- at a place whose ticket passes, and at one whose ticket doesn't
pub from_place : (test : ℕ → Bool) (acts : List Act) (place : ℕ) (d : Act) → place < length acts
    → test (ticket_of (deed_of (slice_index_or acts place d))) ≡ true
    → from_started test (drop place (deeds_of acts)) ≡ drop place (deeds_of acts)
from_place test acts place d below passes =
    ap (from_started test) (drop_deed acts place d below)
    ∙ from_here test (deed_of (slice_index_or acts place d)) (drop (suc place) (deeds_of acts)) passes
    ∙ sym (drop_deed acts place d below)

pub from_next : (test : ℕ → Bool) (acts : List Act) (place : ℕ) (d : Act) → place < length acts
    → test (ticket_of (deed_of (slice_index_or acts place d))) ≡ false
    → from_started test (drop place (deeds_of acts)) ≡ from_started test (drop (place + 1) (deeds_of acts))
from_next test acts place d below fails =
    ap (from_started test) (drop_deed acts place d below)
    ∙ from_later test (deed_of (slice_index_or acts place d)) (drop (suc place) (deeds_of acts)) fails
    ∙ ap (λ (k : ℕ). from_started test (drop k (deeds_of acts))) (sym (add-one place))

pub from_past : (test : ℕ → Bool) (acts : List Act) (place : ℕ) → length acts ≤ place
    → from_started test (drop place (deeds_of acts)) ≡ drop place (deeds_of acts)
from_past test acts place past = from_end test (deeds_of acts) place (omega (arith, past, deeds_count acts))

-- the first deed from the first one that passes passes
pub from_passes : (test : ℕ → Bool) (deeds : List Deed) (deed : Deed)
    → slice_get (from_started test deeds) 0 ≡ Some deed → test (ticket_of deed) ≡ true
unfolding from_started
from_passes test [] deed h = absurd (none-some deed h)
from_passes test (first ∷ deeds) deed h = elim (cases_Bool (test (ticket_of first))) [
  | inl passes ↦
      let same : first ≡ deed = same_Some first deed (sym
      (ap (λ (b : Bool). slice_get (cond b (first ∷ deeds) (from_started test deeds)) 0) passes) ∙ h) in
      ap (λ (d : Deed). test (ticket_of d)) (sym same) ∙ passes
  | inr fails ↦ from_passes test deeds deed (sym
      (ap (λ (b : Bool). slice_get (cond b (first ∷ deeds) (from_started test deeds)) 0) fails) ∙ h)
]

-- the deed at a place
pub deed_here : (acts : List Act) (place : ℕ) (act d : Act) → place < length acts → act ≡ slice_index_or acts place d
    → slice_get (drop place (deeds_of acts)) 0 ≡ Some (deed_of act)
deed_here acts place act d below is =
    ap (λ (deeds : List Deed). slice_get deeds 0) (drop_deed acts place d below)
    ∙ ap (λ (a : Act). Some (deed_of a)) (sym is)

pub deed_past : (acts : List Act) (place : ℕ) → length acts ≤ place → slice_get (drop place (deeds_of acts)) 0 ≡ None
unfolding deeds_of
deed_past [] zero past = refl
deed_past [] (suc place) past = refl
deed_past (act ∷ acts) zero past = absurd (omega (arith, past))
deed_past (act ∷ acts) (suc place) past = deed_past acts place (omega (arith, past))

-- behind a place
past_empty : (deeds : List Deed) (place : ℕ) → length deeds ≤ place → drop place deeds ≡ []
past_empty [] zero past = refl
past_empty [] (suc place) past = refl
past_empty (deed ∷ deeds) zero past = absurd (omega (arith, past))
past_empty (deed ∷ deeds) (suc place) past = past_empty deeds place (omega (arith, past))

suc_behind : (deeds : List Deed) (place : ℕ) → drop (suc place) deeds ≡ drop 1 (drop place deeds)
suc_behind [] zero = refl
suc_behind [] (suc place) = refl
suc_behind (deed ∷ deeds) zero = refl
suc_behind (deed ∷ deeds) (suc place) = suc_behind deeds place

pub one_behind : (deeds : List Deed) (place : ℕ) → drop (place + 1) deeds ≡ drop 1 (drop place deeds)
one_behind deeds place = ap (λ (k : ℕ). drop k deeds) (add-one place) ∙ suc_behind deeds place

pub none_behind : (acts : List Act) (place : ℕ) → length acts ≤ place
    → drop place (deeds_of acts) ≡ drop 1 (drop place (deeds_of acts))
none_behind acts place past =
    let empty = past_empty (deeds_of acts) place (omega (arith, past, deeds_count acts)) in
    empty ∙ ap (λ (deeds : List Deed). drop 1 deeds) (sym empty)
