-- The marks, one more, one sealed and one fewer.
use Rattle.std.proofs.Common.{◌≡◌, ℕ, zero, suc, ◌+◌, ◌≤◌, ◌<◌, ◌==◌, ◌||◌, ◌&&◌, not, Bool, true, false, inl, inr, List, [], ◌∷◌, ◌++◌, length, refl, sym, ◌∙◌, ap, subst, arith, rules, one-add}
use Rattle.std.specs.Prelude.{filter, slice_get, position, remove, slice_set, Option, IsSome, Some, None, cond}
use Rattle.std.specs.List.{position_or_len}
use Rattle.std.proofs.lemmas.Bool.{cases_Bool, eqb-true, eq-eqb, ne_eqb, lt-ltb, true≢false}
use Rattle.std.proofs.lemmas.List.{length-map, map-append}
use Rattle.std.proofs.lemmas.Option.{same_Some}
use Rattle.roster.specs.Roster.{AreMarks, is_out, is_sealed, mark, ticket_at, tickets}
use Rattle.roster.specs.declared.mark.Mark.{Mark}

or_swap : (a b c : Bool) → (a || (b || c)) ≡ (b || (a || c))
or_swap true true c = refl
or_swap true false c = refl
or_swap false b c = refl

or_true : (a : Bool) → (a || true) ≡ true
or_true true = refl
or_true false = refl

or_false : (b c : Bool) → (b || c) ≡ false → (b ≡ false) × (c ≡ false)
or_false true c h = absurd (true≢false h)
or_false false c h = (refl, h)

and_false : (b : Bool) → (b && false) ≡ false
and_false true = refl
and_false false = refl

new_end : (b : Bool) → ((b && false) || false) ≡ (not b && false)
new_end true = refl
new_end false = refl

covered : (a s r : Bool) → ((a && true) || r) ≡ (a || ((a && s) || r))
covered true s r = refl
covered false s r = refl

pub out_nil : (t : ℕ) → is_out [] t ≡ false
unfolding is_out
out_nil t = refl

sealed_nil : (t : ℕ) → is_sealed [] t ≡ false
unfolding is_sealed
sealed_nil t = refl

out_cons : (m : Mark) (marks : List Mark) (t : ℕ) → is_out (m ∷ marks) t ≡ (t == m.ticket || is_out marks t)
unfolding is_out
out_cons m marks t = refl

sealed_cons : (m : Mark) (marks : List Mark) (t : ℕ)
    → is_sealed (m ∷ marks) t ≡ ((t == m.ticket && m.is_sealed) || is_sealed marks t)
unfolding is_sealed
sealed_cons m marks t = refl

-- some ticket is out, so there is a mark
pub some_out : (marks : List Mark) (t : ℕ) → is_out marks t ≡ true → 0 < length marks
some_out [] t h = absurd (true≢false (sym h ∙ out_nil t))
some_out (m ∷ marks) t h = omega arith

-- a ticket that isn't out isn't sealed
none_sealed : (marks : List Mark) (t : ℕ) → is_out marks t ≡ false → is_sealed marks t ≡ false
none_sealed [] t h = sealed_nil t
none_sealed (m ∷ marks) t h =
    let parts = or_false (t == m.ticket) (is_out marks t) (sym (out_cons m marks t) ∙ h) in
    rw (sealed_cons, parts.0, none_sealed marks t parts.1) refl

-- a ticket that wasn't issued isn't out
none_issued : (next : ℕ) (marks : List Mark) (t : ℕ) → next ≤ t → AreMarks next marks → is_out marks t ≡ false
none_issued next [] t far h = out_nil t
none_issued next (m ∷ marks) t far h =
    let apart : (t == m.ticket) ≡ false = ne_eqb t m.ticket (λ e. absurd (omega (arith, e, far, h.0))) in
    rw (out_cons, apart) (none_issued next marks t far h.2)

pub marks_more : (next : ℕ) (marks : List Mark) → AreMarks next marks → AreMarks (next + 1) marks
marks_more next [] h = tt
marks_more next (m ∷ marks) h = (omega (arith, h.0), h.1, marks_more next marks h.2)

-- the next ticket is out
pub out_push : (next : ℕ) (marks : List Mark) (t : ℕ)
    → is_out (marks ++ mark next false ∷ []) t ≡ (t == next || is_out marks t)
out_push next [] t = out_cons (mark next false) [] t
out_push next (m ∷ marks) t = rw (out_cons, out_cons, out_push next marks t)
    (or_swap (t == m.ticket) (t == next) (is_out marks t))

pub sealed_push : (next : ℕ) (marks : List Mark) (t : ℕ) → AreMarks next marks
    → is_sealed (marks ++ mark next false ∷ []) t ≡ (not (t == next) && is_sealed marks t)
sealed_push next [] t h = rw (sealed_cons, sealed_nil) (new_end (t == next))
sealed_push next (m ∷ marks) t h = rw (sealed_cons, sealed_cons, sealed_push next marks t h.2)
    (elim (cases_Bool (t == next)) [
      | inl here ↦
          let apart : (t == m.ticket) ≡ false = ne_eqb t m.ticket
          (λ e. absurd (omega (arith, e, eqb-true t next here, h.0))) in
          rw (here, apart) refl
      | inr apart ↦ rw apart refl
    ])

out_push_other : (next : ℕ) (marks : List Mark) (t : ℕ) → t < next → is_out marks t ≡ false
    → is_out (marks ++ mark next false ∷ []) t ≡ false
out_push_other next marks t less h =
    let apart : (t == next) ≡ false = ne_eqb t next (λ e. absurd (omega (arith, e, less))) in
    rw (out_push, apart) h

pub marks_push : (next : ℕ) (marks : List Mark) → AreMarks next marks
    → AreMarks (next + 1) (marks ++ mark next false ∷ [])
marks_push next [] h = (omega arith, out_nil next, tt)
marks_push next (m ∷ marks) h = (
  omega (arith, h.0),
  out_push_other next marks m.ticket h.0 h.1,
  marks_push next marks
      h.2,
)

-- a mark of the same ticket at a place
pub out_set : (marks : List Mark) (i : ℕ) (x : Mark) (t : ℕ) → i < length marks → x.ticket ≡ ticket_at marks i
    → is_out (slice_set marks i x) t ≡ is_out marks t
out_set [] i x t below same = absurd (omega (arith, below))
out_set (m ∷ marks) zero x t below same = rw (out_cons, out_cons, same) refl
out_set (m ∷ marks) (suc i) x t below same = rw (out_cons, out_cons, out_set marks i x t (omega (arith, below)) same)
    refl

pub sealed_set : (marks : List Mark) (i : ℕ) (x : Mark) (t : ℕ) → i < length marks → x.ticket ≡ ticket_at marks i
    → x.is_sealed ≡ true → is_sealed (slice_set marks i x) t ≡ (t == ticket_at marks i || is_sealed marks t)
sealed_set [] i x t below same whole = absurd (omega (arith, below))
sealed_set (m ∷ marks) zero x t below same whole = rw (sealed_cons, sealed_cons, same, whole)
    (covered (t == m.ticket) m.is_sealed (is_sealed marks t))
sealed_set (m ∷ marks) (suc i) x t below same whole = rw
    (sealed_cons, sealed_cons, sealed_set marks i x t (omega (arith, below)) same whole)
    (or_swap (t == m.ticket && m.is_sealed) (t == ticket_at marks i) (is_sealed marks t))

pub marks_set : (next : ℕ) (marks : List Mark) (i : ℕ) (x : Mark) → i < length marks → x.ticket ≡ ticket_at marks i
    → AreMarks next marks → AreMarks next (slice_set marks i x)
marks_set next [] i x below same h = absurd (omega (arith, below))
marks_set next (m ∷ marks) zero x below same h = (omega (arith, same, h.0), ap (λ k. is_out marks k) same ∙ h.1, h.2)
marks_set next (m ∷ marks) (suc i) x below same h = (
  h.0,
  out_set marks i x m.ticket (omega (arith, below)) same
      ∙ h.1,
  marks_set next marks i x (omega (arith, below)) same h.2,
)

-- the ticket at a place is out
out_at : (marks : List Mark) (i : ℕ) → i < length marks → is_out marks (ticket_at marks i) ≡ true
out_at [] i below = absurd (omega (arith, below))
out_at (m ∷ marks) zero below = rw (out_cons, eq-eqb m.ticket m.ticket refl) refl
out_at (m ∷ marks) (suc i) below = rw (out_cons, out_at marks i (omega (arith, below)))
    (or_true (ticket_at marks i == m.ticket))

-- the first mark's ticket is no later one's
front_apart : (next : ℕ) (m : Mark) (marks : List Mark) (i t : ℕ) → i < length marks → AreMarks next (m ∷ marks)
    → (t == ticket_at marks i) ≡ true → (t == m.ticket) ≡ false
front_apart next m marks i t below h here = ne_eqb t m.ticket (λ e. true≢false (
    sym (out_at marks i below) ∙ ap (λ k. is_out marks k) (sym (eqb-true t (ticket_at marks i) here) ∙ e) ∙ h.1))

-- the mark at a place taken out
pub out_remove : (next : ℕ) (marks : List Mark) (i t : ℕ) → i < length marks → AreMarks next marks
    → is_out (remove marks i) t ≡ (not (t == ticket_at marks i) && is_out marks t)
out_remove next [] i t below h = absurd (omega (arith, below))
out_remove next (m ∷ marks) zero t below h = rw out_cons (elim (cases_Bool (t == m.ticket)) [
  | inl here ↦ rw here (ap (λ k. is_out marks k) (eqb-true t m.ticket here) ∙ h.1)
  | inr apart ↦ rw apart refl
])
out_remove next (m ∷ marks) (suc i) t below h =
    let less : i < length marks = omega (arith, below) in
    out_cons m (remove marks i) t ∙ rw (out_cons, out_remove next marks i t less h.2) (elim
    (cases_Bool (t == ticket_at marks i)) [
      | inl here ↦ rw (here, front_apart next m marks i t less h here) refl
      | inr apart ↦ rw apart refl
    ])

pub sealed_remove : (next : ℕ) (marks : List Mark) (i t : ℕ) → i < length marks → AreMarks next marks
    → is_sealed (remove marks i) t ≡ (not (t == ticket_at marks i) && is_sealed marks t)
sealed_remove next [] i t below h = absurd (omega (arith, below))
sealed_remove next (m ∷ marks) zero t below h = rw sealed_cons (elim (cases_Bool (t == m.ticket)) [
  | inl here ↦ rw here (none_sealed marks t (ap (λ k. is_out marks k) (eqb-true t m.ticket here) ∙ h.1))
  | inr apart ↦ rw apart refl
])
sealed_remove next (m ∷ marks) (suc i) t below h =
    let less : i < length marks = omega (arith, below) in
    sealed_cons m (remove marks i) t ∙ rw (sealed_cons, sealed_remove next marks i t less h.2) (elim
    (cases_Bool (t == ticket_at marks i)) [
      | inl here ↦ rw (here, front_apart next m marks i t less h here) refl
      | inr apart ↦ rw apart refl
    ])

none_left : (next : ℕ) (marks : List Mark) (i t : ℕ) → i < length marks → AreMarks next marks → is_out marks t ≡ false
    → is_out (remove marks i) t ≡ false
none_left next marks i t below h none = rw (out_remove next marks i t below h, none)
    (and_false (not (t == ticket_at marks i)))

pub marks_remove : (next : ℕ) (marks : List Mark) (i : ℕ) → i < length marks → AreMarks next marks
    → AreMarks next (remove marks i)
marks_remove next [] i below h = absurd (omega (arith, below))
marks_remove next (m ∷ marks) zero below h = h.2
marks_remove next (m ∷ marks) (suc i) below h =
    let less : i < length marks = omega (arith, below) in
    (h.0, none_left next marks i m.ticket less h.2 h.1, marks_remove next marks i less h.2)

-- where a ticket that is out is found
place_apart : (m : Mark) (marks : List Mark) (t : ℕ) → (t == m.ticket) ≡ false
    → position_or_len (λ (x : Mark). t == x.ticket) (m ∷ marks) ≡ suc
    (position_or_len (λ (x : Mark). t == x.ticket) marks)
place_apart m marks t apart = ap (λ (b : Bool). cond {A = ℕ} (not b)
    (1 + position_or_len (λ (x : Mark). t == x.ticket) marks) 0) apart ∙ one-add _

place_here : (m : Mark) (marks : List Mark) (t : ℕ) → (t == m.ticket) ≡ true
    → position_or_len (λ (x : Mark). t == x.ticket) (m ∷ marks) ≡ 0
place_here m marks t here = ap (λ (b : Bool). cond {A = ℕ} (not b)
    (1 + position_or_len (λ (x : Mark). t == x.ticket) marks) 0) here

place_below : (marks : List Mark) (t : ℕ) → is_out marks t ≡ true
    → position_or_len (λ (x : Mark). t == x.ticket) marks < length marks
place_below [] t h = absurd (true≢false (sym h ∙ out_nil t))
place_below (m ∷ marks) t h = elim (cases_Bool (t == m.ticket)) [
  | inl here ↦ omega (arith, place_here m marks t here)
  | inr apart ↦
      let rest : is_out marks t ≡ true = sym (ap (λ (b : Bool). b || is_out marks t) apart) ∙ sym (out_cons m marks t)
      ∙ h in
      omega (arith, place_apart m marks t apart, place_below marks t rest)
]

place_ticket : (marks : List Mark) (t : ℕ) → is_out marks t ≡ true
    → ticket_at marks (position_or_len (λ (x : Mark). t == x.ticket) marks) ≡ t
place_ticket [] t h = absurd (true≢false (sym h ∙ out_nil t))
place_ticket (m ∷ marks) t h = elim (cases_Bool (t == m.ticket)) [
  | inl here ↦ ap (λ k. ticket_at (m ∷ marks) k) (place_here m marks t here) ∙ sym (eqb-true t m.ticket here)
  | inr apart ↦
      let rest : is_out marks t ≡ true = sym (ap (λ (b : Bool). b || is_out marks t) apart) ∙ sym (out_cons m marks t)
      ∙ h in
      ap (λ k. ticket_at (m ∷ marks) k) (place_apart m marks t apart) ∙ place_ticket marks t rest
]

pub place_found : (marks : List Mark) (t : ℕ) → is_out marks t ≡ true
    → position (λ m. t == m.ticket) marks ≡ Some (position_or_len (λ (x : Mark). t == x.ticket) marks)
place_found marks t h = ap (λ (b : Bool). cond b (Some (position_or_len (λ (x : Mark). t == x.ticket) marks)) None)
    (lt-ltb _ _ (place_below marks t h))

-- the answer of a search for a ticket that is out
pub place_some : (marks : List Mark) (t : ℕ) (answer : Option ℕ) → answer ≡ position (λ m. t == m.ticket) marks
    → is_out marks t ≡ true → IsSome answer
place_some marks t answer e h = subst (λ (r : Option ℕ). IsSome r) (sym (e ∙ place_found marks t h)) (search rules)

pub place_ticket_at : (marks : List Mark) (t place : ℕ) (answer : Option ℕ)
    → answer ≡ position (λ m. t == m.ticket) marks → answer ≡ Some place → is_out marks t ≡ true
    → ticket_at marks place ≡ t
place_ticket_at marks t place answer e found h = ap (λ k. ticket_at marks k)
    (same_Some _ _ (sym found ∙ e ∙ place_found marks t h)) ∙ place_ticket marks t h

-- a ticket that is out was issued
pub out_issued : (next : ℕ) (marks : List Mark) (t : ℕ) → AreMarks next marks → is_out marks t ≡ true → t < next
out_issued next [] t h out = absurd (true≢false (sym out ∙ out_nil t))
out_issued next (m ∷ marks) t h out = elim (cases_Bool (t == m.ticket)) [
  | inl here ↦ omega (arith, eqb-true t m.ticket here, h.0)
  | inr apart ↦ out_issued next marks t h.2 (sym (ap (λ (b : Bool). b || is_out marks t) apart)
      ∙ sym (out_cons m marks t) ∙ out)
]

-- the first ticket is out
pub out_first : (marks : List Mark) → 0 < length marks → is_out marks (ticket_at marks 0) ≡ true
out_first marks some = out_at marks 0 some

pub first_issued : (next : ℕ) (marks : List Mark) → 0 < length marks → AreMarks next marks → ticket_at marks 0 < next
first_issued next [] some h = absurd (omega (arith, some))
first_issued next (m ∷ marks) some h = h.0

-- the tickets in the order of their starts
pub tickets_count : (marks : List Mark) → length (tickets marks) ≡ length marks
unfolding tickets
tickets_count marks = length-map marks (λ (m : Mark). m.ticket)

pub tickets_push : (next : ℕ) (marks : List Mark) → tickets (marks ++ mark next false ∷ []) ≡ tickets marks ++ next ∷ []
unfolding tickets
tickets_push next marks = map-append (λ (m : Mark). m.ticket) marks (mark next false ∷ [])

pub tickets_first : (marks : List Mark) → 0 < length marks → slice_get (tickets marks) 0 ≡ Some (ticket_at marks 0)
unfolding tickets
tickets_first [] some = absurd (omega (arith, some))
tickets_first (m ∷ marks) some = refl

pub tickets_set : (marks : List Mark) (i : ℕ) (x : Mark) → i < length marks → x.ticket ≡ ticket_at marks i
    → tickets (slice_set marks i x) ≡ tickets marks
unfolding tickets
tickets_set [] i x below same = absurd (omega (arith, below))
tickets_set (m ∷ marks) zero x below same = ap (λ (t : ℕ). t ∷ tickets marks) same
tickets_set (m ∷ marks) (suc i) x below same = ap (λ (ts : List ℕ). m.ticket ∷ ts)
    (tickets_set marks i x (omega (arith, below)) same)

-- a ticket that isn't out is none of them
pub none_filtered : (marks : List Mark) (t : ℕ) → is_out marks t ≡ false
    → filter (λ s. not (s == t)) (tickets marks) ≡ tickets marks
unfolding tickets
none_filtered [] t h = refl
none_filtered (m ∷ marks) t h =
    let parts = or_false (t == m.ticket) (is_out marks t) (sym (out_cons m marks t) ∙ h) in
    let apart : (m.ticket == t) ≡ false = ne_eqb m.ticket t
    (λ e. true≢false (sym (eq-eqb t m.ticket (sym e)) ∙ parts.0)) in
    ap (λ (b : Bool). cond (not b) (m.ticket ∷ filter (λ s. not (s == t)) (tickets marks))
    (filter (λ s. not (s == t)) (tickets marks))) apart
    ∙ ap (λ (ts : List ℕ). m.ticket ∷ ts) (none_filtered marks t parts.1)

pub tickets_remove : (next : ℕ) (marks : List Mark) (i : ℕ) → i < length marks → AreMarks next marks
    → tickets (remove marks i) ≡ filter (λ t. not (t == ticket_at marks i)) (tickets marks)
unfolding tickets
tickets_remove next [] i below h = absurd (omega (arith, below))
tickets_remove next (m ∷ marks) zero below h =
    sym (ap (λ (b : Bool). cond (not b) (m.ticket ∷ filter (λ s. not (s == m.ticket)) (tickets marks))
    (filter (λ s. not (s == m.ticket)) (tickets marks))) (eq-eqb m.ticket m.ticket refl)
    ∙ none_filtered marks m.ticket h.1)
tickets_remove next (m ∷ marks) (suc i) below h =
    let less : i < length marks = omega (arith, below) in
    let apart : (m.ticket == ticket_at marks i) ≡ false = elim (cases_Bool (m.ticket == ticket_at marks i)) [
      | inl here ↦ absurd (true≢false (sym (eq-eqb m.ticket m.ticket refl)
          ∙ front_apart next m marks i m.ticket less h here))
      | inr apart ↦ apart
    ] in
    ap (λ (ts : List ℕ). m.ticket ∷ ts) (tickets_remove next marks i less h.2)
    ∙ sym (ap (λ (b : Bool). cond (not b) (m.ticket ∷ filter (λ s. not (s == ticket_at marks i)) (tickets marks))
    (filter (λ s. not (s == ticket_at marks i)) (tickets marks))) apart)

-- without a ticket that isn't out all is as it is
without_none : (a b : Bool) → (a ≡ true → b ≡ false) → b ≡ (not a && b)
without_none true b h = h refl
without_none false b h = refl

pub none_left_out : (marks : List Mark) (ticket t : ℕ) → is_out marks ticket ≡ false
    → is_out marks t ≡ (not (t == ticket) && is_out marks t)
none_left_out marks ticket t h = without_none (t == ticket) (is_out marks t)
    (λ same. ap (is_out marks) (eqb-true t ticket same) ∙ h)

pub none_left_sealed : (marks : List Mark) (ticket t : ℕ) → is_out marks ticket ≡ false
    → is_sealed marks t ≡ (not (t == ticket) && is_sealed marks t)
none_left_sealed marks ticket t h = without_none (t == ticket) (is_sealed marks t)
    (λ same. ap (is_sealed marks) (eqb-true t ticket same) ∙ none_sealed marks ticket h)
