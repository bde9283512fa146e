-- What a scripted crew keeps, at each entry.
use Rattle.std.proofs.Common.{◌≡◌, ℕ, ◌+◌, ◌-◌, ◌^◌, ◌≤◌, ◌<◌, ◌==◌, ◌⊎◌, ◌||◌, Bool, true, false, cond, inl, inr, List, [], ◌∷◌, ◌++◌, drop, length, min, nat_le, refl, sym, ◌∙◌, ap, arith}
use Rattle.std.specs.Prelude.{flat_map}
use Rattle.std.proofs.lemmas.Bool.{cases_Bool, cases_eq, eqb-true, eq-eqb, leb-true, leb-false, ne_eqb, true≢false}
use Rattle.std.proofs.lemmas.List.{append_assoc, append-nil}
use Rattle.std.proofs.lemmas.List.Folds.{list_any-append}
use Rattle.mon_io.specs.Faults.{next_count}
use Rattle.crew.specs.Kept.{LogState}
use Rattle.crew.specs.Log.{Entry, pieces_in, job_bytes}
use Rattle.roster.specs.Roster.{Listed, is_out, tickets}
use Rattle.roster.specs.Fed.{FedState, fed_to}
use Rattle.scripted_crew.specs.Keeps.{Keeps}
use Rattle.scripted_crew.specs.Script.{Deed, deeds_left, failures_in, is_listed, is_started, outs_in}

-- an entry
pub keeps_with : (new : Listed) (after : FedState) (before : List Entry) (noted : LogState) (began : List ℕ)
    (deeds : List Deed) (did raised : ℕ) (entry : Entry) → noted.entries ≡ entry ∷ before
    → length before + 1 + length new.marks ≤ noted.room → length after.jobs ≡ new.issued
    → tickets new.marks ≡ outs_in (entry ∷ before) → ((t : ℕ) → is_out new.marks t ≡ true → t < new.issued)
    → ((t : ℕ) → fed_to after.jobs t ≡ job_bytes (entry ∷ before) t)
    → ((t : ℕ) → is_listed began t ≡ is_started (entry ∷ before) t)
    → ((t : ℕ) → is_started (entry ∷ before) t ≡ true → t < new.issued) → did ≤ length deeds
    → drop did deeds ≡ deeds_left deeds (entry ∷ before) → raised ≡ min (failures_in (entry ∷ before)) (2 ^ 64 - 1)
    → Keeps new after noted began deeds did raised
keeps_with new after before noted began deeds did raised entry is room numbered order known bytes started issued within
    left counted = record {
      sure = omega (arith, ap (λ (xs : List Entry). length xs) is, room);
      numbered = numbered;
      order = order ∙ ap outs_in (sym is);
      known = known;
      bytes = λ t. bytes t ∙ ap (λ (xs : List Entry). job_bytes xs t) (sym is);
      started_is = λ t. started t ∙ ap (λ (xs : List Entry). is_started xs t) (sym is);
      issued = λ t s. issued t (ap (λ (xs : List Entry). is_started xs t) (sym is) ∙ s);
      within = within;
      left = left ∙ ap (deeds_left deeds) (sym is);
      counted = counted ∙ ap (λ (xs : List Entry). min (failures_in xs) (2 ^ 64 - 1)) (sym is);
    }

-- a count that is one on
pub raised_is : (n faults raised : ℕ) → faults ≡ min n (2 ^ 64 - 1) → raised ≡ next_count faults
    → raised ≡ min (n + 1) (2 ^ 64 - 1)
raised_is n faults raised is up = omega (arith, is, up)

-- a ticket more in a list
or_swap : (a b : Bool) → (a || (b || false)) ≡ (b || a)
or_swap true true = refl
or_swap true false = refl
or_swap false true = refl
or_swap false false = refl

pub listed_push : (xs : List ℕ) (x t : ℕ) → is_listed (xs ++ x ∷ []) t ≡ (x == t || is_listed xs t)
unfolding is_listed
listed_push xs x t = list_any-append (λ (y : ℕ). y == t) xs (x ∷ []) ∙ or_swap (is_listed xs t) (x == t)

pub was_or_is : (n t : ℕ) (b : Bool) → (n == t || b) ≡ true → (b ≡ true) ⊎ (n ≡ t)
was_or_is n t b h = elim (cases_Bool (n == t)) [
  | inl here ↦ inr (eqb-true n t here)
  | inr apart ↦ inl (ap (λ (x : Bool). x || b) (sym apart) ∙ h)
]

-- why a start fails, or doesn't
pub full_or_listed : (out : ℕ) (b : Bool) → (nat_le 64 out || b) ≡ true → (b ≡ true) ⊎ (64 ≤ out)
full_or_listed out b h = elim (cases_Bool (nat_le 64 out)) [
  | inl full ↦ inr (leb-true 64 out full)
  | inr room ↦ inl (ap (λ (x : Bool). x || b) (sym room) ∙ h)
]

or_false : (b c : Bool) → (b || c) ≡ false → (b ≡ false) × (c ≡ false)
or_false true c h = absurd (true≢false h)
or_false false c h = (refl, h)

pub room_and_unlisted : (out : ℕ) (b : Bool) → (nat_le 64 out || b) ≡ false → (b ≡ false) × (out < 64)
room_and_unlisted out b h =
    let parts = or_false (nat_le 64 out) b h in
    (parts.1, leb-false 64 out parts.0)

-- the bytes of a ticket, a piece more
joined_more : (pieces : List (List ℕ)) (piece : List ℕ)
    → flat_map (λ (x : List ℕ). x) (pieces ++ piece ∷ []) ≡ flat_map (λ (x : List ℕ). x) pieces ++ piece
joined_more [] piece = append-nil piece
joined_more (first ∷ pieces) piece = ap (λ (xs : List ℕ). first ++ xs) (joined_more pieces piece)
    ∙ sym (append_assoc first (flat_map (λ (x : List ℕ). x) pieces) piece)

pub fed_bytes : (log : List Entry) (ticket t : ℕ) (piece fed : List ℕ) → fed ≡ job_bytes log t
    → cond (t == ticket) (fed ++ piece) fed ≡ job_bytes (Entry.Fed ticket piece ∷ log) t
unfolding pieces_in
fed_bytes log ticket t piece fed is = elim (cases_eq t ticket) [
  | inl same ↦ rw (eq-eqb t ticket same) (ap (λ (xs : List ℕ). xs ++ piece) is
      ∙ sym (joined_more (pieces_in log t) piece)
      ∙ ap (λ (b : Bool). flat_map (λ (x : List ℕ). x) (cond b (pieces_in log t ++ piece ∷ []) (pieces_in log t)))
      (sym (eq-eqb ticket t (sym same))))
  | inr apart ↦ rw (ne_eqb t ticket apart) (is
      ∙ ap (λ (b : Bool). flat_map (λ (x : List ℕ). x) (cond b (pieces_in log t ++ piece ∷ []) (pieces_in log t)))
      (sym (ne_eqb ticket t (λ e. apart (sym e)))))
]

-- more room, and no entry
pub keeps_reserved : (roster : Listed) (fed : FedState) (log reserved : LogState) (started : List ℕ) (deeds : List Deed)
    (done faults : ℕ) → Keeps roster fed log started deeds done faults → reserved.entries ≡ log.entries
    → log.room ≤ reserved.room → Keeps roster fed reserved started deeds done faults
keeps_reserved roster fed log reserved started deeds done faults h is more = record {
  sure = omega (arith, ap (λ (xs : List Entry). length xs) is, h.sure, more);
  numbered = h.numbered;
  order = h.order ∙ ap outs_in (sym is);
  known = h.known;
  bytes = λ t. h.bytes t ∙ ap (λ (xs : List Entry). job_bytes xs t) (sym is);
  started_is = λ t. h.started_is t ∙ ap (λ (xs : List Entry). is_started xs t) (sym is);
  issued = λ t s. h.issued t (ap (λ (xs : List Entry). is_started xs t) (sym is) ∙ s);
  within = h.within;
  left = h.left ∙ ap (deeds_left deeds) (sym is);
  counted = h.counted ∙ ap (λ (xs : List Entry). min (failures_in xs) (2 ^ 64 - 1)) (sym is);
}
