-- What an inline crew keeps, at each entry.
use Rattle.std.proofs.Common.{◌≡◌, ◌≢◌, ℕ, ◌+◌, ◌≤◌, ◌<◌, ◌==◌, ◌⊎◌, ◌||◌, ◌&&◌, not, Bool, true, false, cond, inl, inr, List, [], ◌∷◌, ◌++◌, length, refl, sym, ◌∙◌, ap, arith}
use Rattle.std.specs.Prelude.{flat_map}
use Rattle.std.proofs.lemmas.Bool.{and_parts, cases_Bool, cases_eq, eqb-true, ne_eqb, eq-eqb, true≢false}
use Rattle.std.proofs.lemmas.List.{append_assoc, append-nil, get_or_past}
use Rattle.crew.specs.Kept.{LogState}
use Rattle.crew.specs.Log.{Entry, pieces_in, job_bytes, AreAnswered}
use Rattle.roster.specs.Roster.{Listed, is_out, tickets}
use Rattle.roster.specs.declared.mark.Mark.{Mark}
use Rattle.roster.specs.Fed.{FedState, fed_to}
use Rattle.inline_crew.specs.InOrder.{outs_in}
use Rattle.inline_crew.specs.Keeps.{Keeps}

-- a ticket that was not issued was fed nothing
fed_past : (jobs : List (List ℕ)) (t : ℕ) → length jobs ≤ t → fed_to jobs t ≡ []
unfolding fed_to
fed_past jobs t far = get_or_past jobs t [] far

nothing_fed : (roster : Listed) (fed : FedState) (log : LogState) (t : ℕ) → Keeps roster fed log → roster.issued ≤ t
    → fed_to fed.jobs t ≡ job_bytes log.entries t
nothing_fed roster fed log t h far =
    fed_past fed.jobs t (omega (arith, h.numbered, far))
    ∙ ap (λ (pieces : List (List ℕ)). flat_map (λ piece. piece) pieces) (sym (h.fresh t far))

-- an entry by which nothing is fed
pub keeps_with : (roster new : Listed) (fed after : FedState) (log noted : LogState) (entry : Entry)
    → Keeps roster fed log → noted.entries ≡ entry ∷ log.entries
    → length log.entries + 1 + length new.marks ≤ noted.room → length after.jobs ≡ new.issued
    → roster.issued ≤ new.issued → ((t : ℕ) → is_out new.marks t ≡ true → t < new.issued)
    → ((t : ℕ) → is_out new.marks t ≡ true → (is_out roster.marks t ≡ true) ⊎ (roster.issued ≤ t))
    → ((t : ℕ) → is_out new.marks t ≡ true → fed_to after.jobs t ≡ fed_to fed.jobs t)
    → tickets new.marks ≡ outs_in (entry ∷ log.entries)
    → ((t : ℕ) → pieces_in (entry ∷ log.entries) t ≡ pieces_in log.entries t) → Keeps new after noted
keeps_with roster new fed after log noted entry h is room numbered later known outs bytes order same = record {
  sure = omega (arith, ap (λ (xs : List Entry). length xs) is, room);
  numbered = numbered;
  order = order ∙ ap outs_in (sym is);
  known = known;
  bytes = λ t out.
      let told : job_bytes log.entries t ≡ job_bytes noted.entries t =
      ap (λ (pieces : List (List ℕ)). flat_map (λ piece. piece) pieces) (sym (same t))
      ∙ ap (λ (xs : List Entry). job_bytes xs t) (sym is) in
      bytes t out ∙ (elim (outs t out) [
        | inl before ↦ h.bytes t before
        | inr fresh ↦ nothing_fed roster fed log t h fresh
      ]) ∙ told;
  fresh = λ t far. ap (λ (xs : List Entry). pieces_in xs t) is ∙ same t ∙ h.fresh t (omega (arith, far, later));
}

was_or_is : (t n : ℕ) (b : Bool) → (t == n || b) ≡ true → (b ≡ true) ⊎ (t ≡ n)
was_or_is t n b h = elim (cases_Bool (t == n)) [
  | inl here ↦ inr (eqb-true t n here)
  | inr apart ↦ inl (ap (λ (x : Bool). x || b) (sym apart) ∙ h)
]

out_before : (t x : ℕ) (b : Bool) → (not (t == x) && b) ≡ true → b ≡ true
out_before t x b h = (and_parts _ _ h).1

-- nothing yet
pub keeps_new : (roster : Listed) (fed : FedState) (log : LogState) → roster.issued ≡ 0 → roster.marks ≡ []
    → ((t : ℕ) → is_out roster.marks t ≡ false) → length fed.jobs ≡ 0 → log.entries ≡ [] → Keeps roster fed log
unfolding pieces_in outs_in tickets
keeps_new roster fed log issued marks out none empty = record {
  sure = omega (arith, ap (λ (xs : List Entry). length xs) empty, ap (λ (xs : List Mark). length xs) marks);
  numbered = omega (arith, none, issued);
  order = ap tickets marks ∙ ap outs_in (sym empty);
  known = λ t is. absurd (true≢false (sym is ∙ out t));
  bytes = λ t is. absurd (true≢false (sym is ∙ out t));
  fresh = λ t far. ap (λ (xs : List Entry). pieces_in xs t) empty;
}

-- a ticket that is out no longer
pub keeps_left : (roster left : Listed) (fed after : FedState) (log noted : LogState) (entry : Entry) (x ticket : ℕ)
    → Keeps roster fed log → left.issued ≡ roster.issued → length left.marks + 1 ≡ length roster.marks
    → ((t : ℕ) → is_out left.marks t ≡ (not (t == x) && is_out roster.marks t)) → x ≡ ticket
    → length after.jobs ≡ length fed.jobs → ((t : ℕ) → t ≢ ticket → fed_to after.jobs t ≡ fed_to fed.jobs t)
    → noted.entries ≡ entry ∷ log.entries → noted.room ≡ log.room → tickets left.marks ≡ outs_in (entry ∷ log.entries)
    → ((t : ℕ) → pieces_in (entry ∷ log.entries) t ≡ pieces_in log.entries t) → Keeps left after noted
keeps_left roster left fed after log noted entry x ticket h issued fewer outs named count bytes is room order same =
    let before = λ (t : ℕ) (out : is_out left.marks t ≡ true). out_before t x (is_out roster.marks t)
    (sym (outs t) ∙ out) in
    keeps_with roster left fed after log noted entry h is (omega (arith, h.sure, fewer, room))
    (omega (arith, count, h.numbered, issued)) (omega (arith, issued))
    (λ t out. omega (arith, issued, h.known t (before t out)))
    (λ t out. inl (before t out))
    (λ t out. bytes t (λ e. true≢false (sym (and_parts _ _ (sym (outs t) ∙ out)).0
    ∙ ap (λ (b : Bool). not b) (eq-eqb t x (e ∙ sym named)))))
    order same

-- the next ticket was started
pub keeps_joined : (roster joined : Listed) (fed after : FedState) (log noted : LogState) (entry : Entry)
    → Keeps roster fed log → joined.issued ≡ roster.issued + 1 → length joined.marks ≡ length roster.marks + 1
    → ((t : ℕ) → is_out joined.marks t ≡ (t == roster.issued || is_out roster.marks t))
    → length after.jobs ≡ length fed.jobs + 1 → ((t : ℕ) → fed_to after.jobs t ≡ fed_to fed.jobs t)
    → noted.entries ≡ entry ∷ log.entries → length log.entries + (length roster.marks + 2) ≤ noted.room
    → tickets joined.marks ≡ outs_in (entry ∷ log.entries)
    → ((t : ℕ) → pieces_in (entry ∷ log.entries) t ≡ pieces_in log.entries t) → Keeps joined after noted
keeps_joined roster joined fed after log noted entry h issued more outs count bytes is room order same =
    let old_or_new = λ (t : ℕ) (out : is_out joined.marks t ≡ true). was_or_is t roster.issued (is_out roster.marks t)
    (sym (outs t) ∙ out) in
    keeps_with roster joined fed after log noted entry h is (omega (arith, more, room))
    (omega (arith, count, h.numbered, issued)) (omega (arith, issued))
    (λ t out. elim (old_or_new t out) [
      | inl before ↦ omega (arith, issued, h.known t before)
      | inr next ↦ omega (arith, issued, next)
    ])
    (λ t out. elim (old_or_new t out) [ inl before ↦ inl before | inr next ↦ inr (omega (arith, next)) ])
    (λ t out. bytes t)
    order same

-- the next ticket could not be started
pub keeps_passed : (roster passed : Listed) (fed after : FedState) (log noted : LogState) (entry : Entry)
    → Keeps roster fed log → passed.issued ≡ roster.issued + 1 → passed.marks ≡ roster.marks
    → length after.jobs ≡ length fed.jobs + 1 → ((t : ℕ) → fed_to after.jobs t ≡ fed_to fed.jobs t)
    → noted.entries ≡ entry ∷ log.entries → length log.entries + (length roster.marks + 2) ≤ noted.room
    → tickets passed.marks ≡ outs_in (entry ∷ log.entries)
    → ((t : ℕ) → pieces_in (entry ∷ log.entries) t ≡ pieces_in log.entries t) → Keeps passed after noted
keeps_passed roster passed fed after log noted entry h issued marks count bytes is room order same =
    let before = λ (t : ℕ) (out : is_out passed.marks t ≡ true). ap (λ (ms : List Mark). is_out ms t) (sym marks)
    ∙ out in
    keeps_with roster passed fed after log noted entry h is
    (omega (arith, ap (λ (ms : List Mark). length ms) marks, room)) (omega (arith, count, h.numbered, issued))
    (omega (arith, issued))
    (λ t out. omega (arith, issued, h.known t (before t out)))
    (λ t out. inl (before t out))
    (λ t out. bytes t)
    order same

-- a ticket was sealed
pub keeps_sealed : (roster sealed : Listed) (fed : FedState) (log noted : LogState) (entry : Entry)
    → Keeps roster fed log → sealed.issued ≡ roster.issued → length sealed.marks ≡ length roster.marks
    → ((t : ℕ) → is_out sealed.marks t ≡ is_out roster.marks t) → noted.entries ≡ entry ∷ log.entries
    → length log.entries + (length roster.marks + 1) ≤ noted.room → tickets sealed.marks ≡ outs_in (entry ∷ log.entries)
    → ((t : ℕ) → pieces_in (entry ∷ log.entries) t ≡ pieces_in log.entries t) → Keeps sealed fed noted
keeps_sealed roster sealed fed log noted entry h issued count outs is room order same =
    keeps_with roster sealed fed fed log noted entry h is (omega (arith, count, room))
    (omega (arith, h.numbered, issued)) (omega (arith, issued))
    (λ t out. omega (arith, issued, h.known t (sym (outs t) ∙ out)))
    (λ t out. inl (sym (outs t) ∙ out))
    (λ t out. refl)
    order same

-- a piece was fed
pieces_here : (log : List Entry) (t : ℕ) (piece : List ℕ) → pieces_in (Entry.Fed t piece ∷ log) t ≡ pieces_in log t
    ++ piece ∷ []
unfolding pieces_in
pieces_here log t piece = ap (λ (b : Bool). cond b (pieces_in log t ++ piece ∷ []) (pieces_in log t)) (eq-eqb t t refl)

pieces_other : (log : List Entry) (t s : ℕ) (piece : List ℕ) → s ≢ t
    → pieces_in (Entry.Fed t piece ∷ log) s ≡ pieces_in log s
unfolding pieces_in
pieces_other log t s piece apart = ap (λ (b : Bool). cond b (pieces_in log s ++ piece ∷ []) (pieces_in log s))
    (ne_eqb t s (λ e. apart (sym e)))

joined_more : (pieces : List (List ℕ)) (piece : List ℕ)
    → flat_map (λ (x : List ℕ). x) (pieces ++ piece ∷ []) ≡ flat_map (λ (x : List ℕ). x) pieces ++ piece
joined_more [] piece = append-nil piece
joined_more (first ∷ pieces) piece = ap (λ (xs : List ℕ). first ++ xs) (joined_more pieces piece)
    ∙ sym (append_assoc first (flat_map (λ (x : List ℕ). x) pieces) piece)

pub keeps_fed : (roster : Listed) (fed after : FedState) (log noted : LogState) (ticket : ℕ) (piece : List ℕ)
    → Keeps roster fed log → is_out roster.marks ticket ≡ true → length after.jobs ≡ length fed.jobs
    → ((t : ℕ) → fed_to after.jobs t ≡ cond (t == ticket) (fed_to fed.jobs t ++ piece) (fed_to fed.jobs t))
    → noted.entries ≡ Entry.Fed ticket piece ∷ log.entries → length log.entries + (length roster.marks + 1) ≤ noted.room
    → Keeps roster after noted
unfolding outs_in
keeps_fed roster fed after log noted ticket piece h out count bytes is room = record {
  sure = omega (arith, ap (λ (xs : List Entry). length xs) is, room);
  numbered = omega (arith, count, h.numbered);
  order = h.order ∙ ap outs_in (sym is);
  known = h.known;
  bytes = λ t is_out_t. elim (cases_eq t ticket) [
    | inl same ↦
        bytes t ∙ rw (eq-eqb t ticket same) (ap (λ (xs : List ℕ). xs ++ piece)
        (h.bytes t is_out_t ∙ ap (job_bytes log.entries) same)
        ∙ sym (ap (λ (xs : List Entry). job_bytes xs t) is ∙ ap (job_bytes (Entry.Fed ticket piece ∷ log.entries)) same
        ∙ ap (λ (ps : List (List ℕ)). flat_map (λ (x : List ℕ). x) ps) (pieces_here log.entries ticket piece)
        ∙ joined_more (pieces_in log.entries ticket) piece))
    | inr apart ↦
        bytes t ∙ rw (ne_eqb t ticket apart) (h.bytes t is_out_t
        ∙ sym (ap (λ (xs : List Entry). job_bytes xs t) is
        ∙ ap (λ (ps : List (List ℕ)). flat_map (λ (x : List ℕ). x) ps)
        (pieces_other log.entries ticket t piece apart)))
  ];
  fresh = λ t far. ap (λ (xs : List Entry). pieces_in xs t) is
      ∙ pieces_other log.entries ticket t piece (λ e. absurd (omega (arith, e, far, h.known ticket out)))
      ∙ h.fresh t far;
}

-- the same bytes are answers after a call, and the same jobs have none
pub answered_on : (old new : List ℕ → List ℕ → Type 0) (refused refuses : List ℕ → Type 0)
    → ((job bytes : List ℕ) → old job bytes → new job bytes) → ((job : List ℕ) → refused job → refuses job)
    → (log : List Entry) → AreAnswered old refused log → AreAnswered new refuses log
answered_on old new refused refuses forth none [] h = tt
answered_on old new refused refuses forth none (Entry.Reply t bytes ∷ before)
    h = (forth (job_bytes before t) bytes h.0, answered_on old new refused refuses forth none before h.1)
answered_on old new refused refuses forth none (Entry.Died t ∷ before)
    h = (none (job_bytes before t) h.0, answered_on old new refused refuses forth none before h.1)
answered_on old new refused refuses forth none (Entry.Started t ∷ before) h = answered_on old new refused refuses forth
    none before h
answered_on old new refused refuses forth none (Entry.StartFailed t ∷ before) h = answered_on old new refused refuses
    forth none before h
answered_on old new refused refuses forth none (Entry.Fed t piece ∷ before) h = answered_on old new refused refuses
    forth none before h
answered_on old new refused refuses forth none (Entry.FeedFailed t ∷ before) h = answered_on old new refused refuses
    forth none before h
answered_on old new refused refuses forth none (Entry.Sealed t ∷ before) h = answered_on old new refused refuses forth
    none before h
answered_on old new refused refuses forth none (Entry.Stopped t ∷ before) h = answered_on old new refused refuses forth
    none before h
