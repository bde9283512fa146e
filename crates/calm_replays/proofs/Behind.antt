-- What holds of a log holds of its later part alone, where no ticket was out at the end of the earlier part.
use Rattle.std.proofs.Common.{◌≡◌, ℕ, ◌+◌, ◌<◌, ◌≤◌, ◌==◌, not, Bool, false, cond, List, [], ◌∷◌, ◌++◌, length, All, Some, inl, inr, refl, sym, ◌∙◌, ap, subst, arith}
use Rattle.std.specs.Prelude.{filter, flat_map, slice_get}
use Rattle.std.proofs.lemmas.Bool.{cases_Bool, eqb-true, ne_eqb}
use Rattle.std.proofs.lemmas.List.Elements.{All-append, All-cons, All-filter, All-get_or, All-nil}
use Rattle.std.proofs.lemmas.Option.{none-some, same_Some}
use Rattle.calm_logs.proofs.Fed.{order_before}
use Rattle.calm_logs.proofs.Supervised.{answered_before}
use Rattle.crew.specs.Log.{AreAnswered, Entry, pieces_in, with_piece}
use Rattle.crew.specs.Log.Entry.{Started, StartFailed, Fed, FeedFailed, Sealed, Reply, Died, Stopped}
use Rattle.honest_logs.proofs.Fed.{fed_all}
use Rattle.inline_crew.specs.InOrder.{InOrder, outs_in}
use Rattle.replay_core.proofs.Attempts.{job-cons, job-nil}
use Rattle.replay_core.specs.Attempts.{job_of}
use Rattle.replay_core.specs.Kept.{AreAttempts}
use Rattle.replay_core.specs.declared.attempt.Attempt.{Attempt}
use Rattle.replay_supervisor.specs.Reading.{drawn_in, read}
use Rattle.replay_supervisor.specs.Steps.{AreSteps, Plan, with_stops}

-- the tickets that are out
outs-behind : (later earlier : List Entry) → outs_in earlier ≡ [] → outs_in (later ++ earlier) ≡ outs_in later
unfolding outs_in
outs-behind [] earlier none = none
outs-behind (Started t ∷ later) earlier none = ap (λ (ts : List ℕ). ts ++ t ∷ []) (outs-behind later earlier none)
outs-behind (StartFailed t ∷ later) earlier none = outs-behind later earlier none
outs-behind (Fed t piece ∷ later) earlier none = outs-behind later earlier none
outs-behind (FeedFailed t ∷ later) earlier none = outs-behind later earlier none
outs-behind (Sealed t ∷ later) earlier none = outs-behind later earlier none
outs-behind (Reply t bytes ∷ later) earlier none =
    ap (λ (ts : List ℕ). filter (λ s. not (s == t)) ts) (outs-behind later earlier none)
outs-behind (Died t ∷ later) earlier none =
    ap (λ (ts : List ℕ). filter (λ s. not (s == t)) ts) (outs-behind later earlier none)
outs-behind (Stopped t ∷ later) earlier none =
    ap (λ (ts : List ℕ). filter (λ s. not (s == t)) ts) (outs-behind later earlier none)

module _ (earlier : List Entry) (none : outs_in earlier ≡ []) where
  -- the later part is in order
  pub order_later : (later : List Entry) → InOrder (later ++ earlier) → InOrder later
  order_later [] order = tt
  order_later (Started t ∷ later) order = (
    subst (λ (ts : List ℕ). length ts < 64) (outs-behind later earlier none) order.0,
    order_later later order.1,
  )
  order_later (StartFailed t ∷ later) order = (
    subst (λ (ts : List ℕ). 64 ≤ length ts) (outs-behind later earlier none) order.0,
    order_later later order.1,
  )
  order_later (Fed t piece ∷ later) order = order_later later order
  order_later (FeedFailed t ∷ later) order = absurd order
  order_later (Sealed t ∷ later) order = order_later later order
  order_later (Reply t bytes ∷ later) order = (
    subst (λ (ts : List ℕ). slice_get ts 0 ≡ Some t) (outs-behind later earlier none) order.0,
    order_later later order.1,
  )
  order_later (Died t ∷ later) order = (
    subst (λ (ts : List ℕ). slice_get ts 0 ≡ Some t) (outs-behind later earlier none) order.0,
    order_later later order.1,
  )
  order_later (Stopped t ∷ later) order = order_later later order

-- and so is the earlier one
pub order_earlier : (later earlier : List Entry) → InOrder (later ++ earlier) → InOrder earlier
order_earlier [] earlier order = order
order_earlier (entry ∷ later) earlier order = order_earlier later earlier (order_before entry (later ++ earlier) order)

pub answered_earlier : (answers : List ℕ → List ℕ → Type 0) (refuses : List ℕ → Type 0) (later earlier : List Entry)
    → AreAnswered answers refuses (later ++ earlier) → AreAnswered answers refuses earlier
answered_earlier answers refuses [] earlier answered = answered
answered_earlier answers refuses (entry ∷ later) earlier answered =
    answered_earlier answers refuses later earlier
    (answered_before answers refuses entry (later ++ earlier) answered)

-- a ticket that was fed nothing in the earlier part was fed what it was in the later one
pub pieces-behind : (later earlier : List Entry) (t : ℕ) → pieces_in earlier t ≡ []
    → pieces_in (later ++ earlier) t ≡ pieces_in later t
unfolding pieces_in
pieces-behind [] earlier t none = none
pieces-behind (entry ∷ later) earlier t none =
    ap (λ (pieces : List (List ℕ)). with_piece pieces t entry) (pieces-behind later earlier t none)

-- a ticket that is out was drawn
drawn_ticket : (n m : ℕ) (outs : List Attempt) (t job : ℕ) → AreAttempts n m outs → job_of outs t ≡ Some job → t < n
drawn_ticket n m [] t job are is = absurd (none-some job (sym (job-nil t) ∙ is))
drawn_ticket n m (a ∷ outs) t job are is = elim (cases_Bool (a.ticket == t)) [
  | inl here ↦ let same : a.ticket ≡ t = eqb-true a.ticket t here in omega (arith, same, are.0)
  | inr other ↦ drawn_ticket n m outs t job are.3
      (sym (job-cons a outs t ∙ ap (λ (b : Bool). cond b (Some a.job) (job_of outs t)) other) ∙ is)
]

-- what was not drawn yet was fed nothing
pub unfed : (p : Plan) (log : List Entry) (t : ℕ) → AreSteps p log → p.first + drawn_in log ≤ t → pieces_in log t ≡ []
unfolding pieces_in drawn_in
unfed p [] t steps past = refl
unfed p (Started s ∷ before) t steps past = unfed p before t steps.1 (omega (arith, past))
unfed p (StartFailed s ∷ before) t steps past = unfed p before t steps.1 (omega (arith, past))
unfed p (Fed s piece ∷ before) t steps past =
    let drawn = drawn_ticket (p.first + drawn_in before) p.work.count (read p.work before).outs s steps.0.job
    (fed_all p before steps.1).drawn steps.0.is_job in
    let apart : (s == t) ≡ false = ne_eqb s t (λ same. omega (arith, same, drawn, past)) in
    ap (λ (b : Bool). cond b (pieces_in before t ++ piece ∷ []) (pieces_in before t)) apart
    ∙ unfed p before t steps.1 (omega (arith, past))
unfed p (FeedFailed s ∷ before) t steps past = unfed p before t steps.1 (omega (arith, past))
unfed p (Sealed s ∷ before) t steps past = unfed p before t steps.1 (omega (arith, past))
unfed p (Reply s bytes ∷ before) t steps past = unfed p before t steps.1 (omega (arith, past))
unfed p (Died s ∷ before) t steps past = unfed p before t steps.1 (omega (arith, past))
unfed p (Stopped s ∷ before) t steps past = unfed p before t steps.1 (omega (arith, past))

-- no ticket that is out comes before the plan's first
outs_from : (p : Plan) (log : List Entry) → AreSteps p log → All (λ t. p.first ≤ t) (outs_in log)
unfolding outs_in
outs_from p [] steps = All-nil (λ t. p.first ≤ t)
outs_from p (Started t ∷ before) steps =
    All-append (λ s. p.first ≤ s) (outs_in before) (t ∷ []) (outs_from p before steps.1)
    (All-cons (λ s. p.first ≤ s) t [] (omega (arith, steps.0.ticket)) (All-nil (λ s. p.first ≤ s)))
outs_from p (StartFailed t ∷ before) steps = outs_from p before steps.1
outs_from p (Fed t piece ∷ before) steps = outs_from p before steps.1
outs_from p (FeedFailed t ∷ before) steps = outs_from p before steps.1
outs_from p (Sealed t ∷ before) steps = outs_from p before steps.1
outs_from p (Reply t bytes ∷ before) steps =
    All-filter (λ s. not (s == t)) (λ s. p.first ≤ s) (outs_in before) (outs_from p before steps.1)
outs_from p (Died t ∷ before) steps =
    All-filter (λ s. not (s == t)) (λ s. p.first ≤ s) (outs_in before) (outs_from p before steps.1)
outs_from p (Stopped t ∷ before) steps =
    All-filter (λ s. not (s == t)) (λ s. p.first ≤ s) (outs_in before) (outs_from p before steps.1)

first_from : (n : ℕ) (ts : List ℕ) (t : ℕ) → All (λ s. n ≤ s) ts → slice_get ts 0 ≡ Some t → n ≤ t
first_from n [] t all is = absurd (none-some t is)
first_from n (s ∷ ts) t all is =
    let here : n ≤ s = All-get_or (λ (u : ℕ). n ≤ u) (s ∷ ts) 0 0 (omega arith) all in
    omega (arith, here, same_Some s t is)

module _ (answers : List ℕ → List ℕ → Type 0) (refuses : List ℕ → Type 0) (p : Plan) (earlier : List Entry)
    (fresh : (t : ℕ) → p.first ≤ t → pieces_in earlier t ≡ [])
  where
    -- each event of the later part is of a ticket that was fed there
    fed_behind : (later : List Entry) (t : ℕ) → AreSteps p later → slice_get (outs_in later) 0 ≡ Some t
        → pieces_in (later ++ earlier) t ≡ pieces_in later t
    fed_behind later t steps is =
        pieces-behind later earlier t (fresh t (first_from p.first (outs_in later) t (outs_from p later steps) is))

    pub answered_later : (later : List Entry) → AreSteps p later → InOrder later
        → AreAnswered answers refuses (later ++ earlier) → AreAnswered answers refuses later
    answered_later [] steps order answered = tt
    answered_later (Started t ∷ later) steps order answered = answered_later later steps.1 order.1 answered
    answered_later (StartFailed t ∷ later) steps order answered = answered_later later steps.1 order.1 answered
    answered_later (Fed t piece ∷ later) steps order answered = answered_later later steps.1 order answered
    answered_later (FeedFailed t ∷ later) steps order answered = absurd order
    answered_later (Sealed t ∷ later) steps order answered = answered_later later steps.1 order answered
    answered_later (Reply t bytes ∷ later) steps order answered = (
      subst (λ (pieces : List (List ℕ)). answers (flat_map (λ piece. piece) pieces) bytes)
          (fed_behind later t steps.1 order.0) answered.0,
      answered_later later steps.1 order.1 answered.1,
    )
    answered_later (Died t ∷ later) steps order answered = (
      subst (λ (pieces : List (List ℕ)). refuses (flat_map (λ piece. piece) pieces))
          (fed_behind later t steps.1 order.0) answered.0,
      answered_later later steps.1 order.1 answered.1,
    )
    answered_later (Stopped t ∷ later) steps order answered = answered_later later steps.1 order answered

-- the stops of what is out stand in front of the whole
pub stops-behind : (outs : List Attempt) (log earlier : List Entry)
    → with_stops outs log ++ earlier ≡ with_stops outs (log ++ earlier)
stops-behind [] log earlier = refl
stops-behind (a ∷ outs) log earlier = stops-behind outs (Stopped a.ticket ∷ log) earlier
