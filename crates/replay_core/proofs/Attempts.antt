-- The tickets that are out, one more and one fewer.
use Rattle.std.proofs.Common.{◌≡◌, ℕ, suc, ◌+◌, ◌≤◌, ◌<◌, ◌==◌, ◌||◌, ◌&&◌, not, Bool, true, false, cond, inl, inr, List, [], ◌∷◌, ◌++◌, Option, None, Some, option_map, length, is_some, IsSome, refl, sym, ◌∙◌, ap, subst, arith, one-add}
use Rattle.std.specs.Prelude.{find, remove}
use Rattle.std.specs.List.{position_or_len}
use Rattle.std.proofs.lemmas.Bool.{cases_Bool, eqb-true, eqb-false, eq-eqb, ne_eqb, true≢false}
use Rattle.std.proofs.lemmas.List.Folds.{list_any-append}
use Rattle.std.proofs.lemmas.List.Sums.{sum_by_push, sum_by-cons}
use Rattle.std.proofs.lemmas.Option.{none-some, same_Some}
use Rattle.replay_core.specs.Attempts.{attempt, is_out, job_of, without, tickets_of, ticket_of, least_out, IsLeastOut}
use Rattle.replay_core.specs.Kept.{AreAttempts, AreAscending}
use Rattle.replay_core.specs.declared.attempt.Attempt.{Attempt}

-- each word at a list with one attempt more in front
pub out-cons : (a : Attempt) (outs : List Attempt) (t : ℕ) → is_out (a ∷ outs) t ≡ (a.ticket == t || is_out outs t)
unfolding is_out
out-cons a outs t = refl

pub tickets-cons : (a : Attempt) (outs : List Attempt) (job : ℕ)
    → tickets_of (a ∷ outs) job ≡ cond (a.job == job) 1 0 + tickets_of outs job
unfolding tickets_of
tickets-cons a outs job = sum_by-cons (λ (x : Attempt). cond (x.job == job) 1 0) a outs

map_cond : {A B : Type 0} (f : A → B) (b : Bool) (x : A) (rest : Option A)
    → option_map f (cond b (Some x) rest) ≡ cond b (Some (f x)) (option_map f rest)
map_cond f true x rest = refl
map_cond f false x rest = refl

pub job-cons : (a : Attempt) (outs : List Attempt) (t : ℕ)
    → job_of (a ∷ outs) t ≡ cond (a.ticket == t) (Some a.job) (job_of outs t)
unfolding job_of
job-cons a outs t = map_cond (λ (x : Attempt). x.job) (a.ticket == t) a (find (λ (x : Attempt). x.ticket == t) outs)

pub ticket-cons : (a : Attempt) (outs : List Attempt) (job : ℕ)
    → ticket_of (a ∷ outs) job ≡ cond (a.job == job) (Some a.ticket) (ticket_of outs job)
unfolding ticket_of
ticket-cons a outs job = map_cond (λ (x : Attempt). x.ticket) (a.job == job) a
    (find (λ (x : Attempt). x.job == job) outs)

pub without-cons : (t : ℕ) (a : Attempt) (outs : List Attempt)
    → without t (a ∷ outs) ≡ cond (a.ticket == t) outs (a ∷ without t outs)
unfolding without
without-cons t a outs = refl

pub job-nil : (t : ℕ) → job_of [] t ≡ None
unfolding job_of
job-nil t = refl

pub out-nil : (t : ℕ) → is_out [] t ≡ false
unfolding is_out
out-nil t = refl

pub tickets-nil : (job : ℕ) → tickets_of [] job ≡ 0
unfolding tickets_of
tickets-nil job = refl

pub ticket-nil : (job : ℕ) → ticket_of [] job ≡ None
unfolding ticket_of
ticket-nil job = refl

pub without-nil : (t : ℕ) → without t [] ≡ []
unfolding without
without-nil t = refl

-- one attempt more at the end
pub out-push : (outs : List Attempt) (t job s : ℕ) → is_out (outs ++ attempt t job ∷ []) s ≡ (is_out outs s || t == s)
unfolding is_out
out-push outs t job s = list_any-append (λ (a : Attempt). a.ticket == s) outs (attempt t job ∷ [])
    ∙ ap (λ (b : Bool). is_out outs s || b) (elim (t == s) as (λ b. (b || false) ≡ b) [ true ↦ refl | false ↦ refl ])

pub tickets-push : (outs : List Attempt) (t job j : ℕ)
    → tickets_of (outs ++ attempt t job ∷ []) j ≡ tickets_of outs j + cond (job == j) 1 0
unfolding tickets_of
tickets-push outs t job j = sum_by_push (λ (a : Attempt). cond (a.job == j) 1 0) outs (attempt t job)

-- whether a ticket is out, by its job
pub out-job : (outs : List Attempt) (t : ℕ) → is_out outs t ≡ is_some (job_of outs t)
out-job [] t = rw (out-nil, job-nil) refl
out-job (a ∷ outs) t = rw (out-cons, job-cons, out-job outs t)
    (elim (a.ticket == t) as (λ b. (b || is_some (job_of outs t)) ≡ is_some (cond b (Some a.job) (job_of outs t)))
    [ true ↦ refl | false ↦ refl ])

-- one attempt fewer
pub tickets-without : (outs : List Attempt) (t job j : ℕ) → job_of outs t ≡ Some job
    → tickets_of (without t outs) j + cond (job == j) 1 0 ≡ tickets_of outs j
tickets-without [] t job j h = absurd (none-some job (sym (job-nil t) ∙ h))
tickets-without (a ∷ outs) t job j h = elim (cases_Bool (a.ticket == t)) [
  | inl here ↦
      let same : a.job ≡ job = same_Some a.job job (sym
      (job-cons a outs t ∙ ap (λ (b : Bool). cond b (Some a.job) (job_of outs t)) here) ∙ h) in
      rw (without-cons, here, tickets-cons, same) (omega arith)
  | inr apart ↦
      let rest : job_of outs t ≡ Some job = sym (job-cons a outs t
      ∙ ap (λ (b : Bool). cond b (Some a.job) (job_of outs t)) apart) ∙ h in
      let more = tickets-without outs t job j rest in
      let step : tickets_of (without t (a ∷ outs)) j ≡ cond {A = ℕ} (a.job == j) 1 0 + tickets_of (without t outs) j =
      ap (λ xs. tickets_of xs j) (without-cons t a outs ∙ ap (λ (b : Bool). cond b outs (a ∷ without t outs)) apart)
      ∙ tickets-cons a (without t outs) j in
      omega (arith, step, more, tickets-cons a outs j)
]

pub length-without : (outs : List Attempt) (t job : ℕ) → job_of outs t ≡ Some job
    → length (without t outs) + 1 ≡ length outs
length-without [] t job h = absurd (none-some job (sym (job-nil t) ∙ h))
length-without (a ∷ outs) t job h = elim (cases_Bool (a.ticket == t)) [
  | inl here ↦ rw (without-cons, here) (omega arith)
  | inr apart ↦
      let rest : job_of outs t ≡ Some job = sym (job-cons a outs t
      ∙ ap (λ (b : Bool). cond b (Some a.job) (job_of outs t)) apart) ∙ h in
      let more = length-without outs t job rest in
      rw (without-cons, apart) (omega (arith, more))
]

-- a ticket that is not out is none of them
pub without-none : (outs : List Attempt) (t : ℕ) → job_of outs t ≡ None → without t outs ≡ outs
without-none [] t h = without-nil t
without-none (a ∷ outs) t h = elim (cases_Bool (a.ticket == t)) [
  | inl here ↦ absurd (none-some a.job (sym h ∙ job-cons a outs t
      ∙ ap (λ (b : Bool). cond b (Some a.job) (job_of outs t)) here))
  | inr apart ↦
      let rest : job_of outs t ≡ None = sym (job-cons a outs t
      ∙ ap (λ (b : Bool). cond b (Some a.job) (job_of outs t)) apart) ∙ h in
      rw (without-cons, apart) (ap (λ xs. a ∷ xs) (without-none outs t rest))
]

or_false : (b c : Bool) → (b || c) ≡ false → (b ≡ false) × (c ≡ false)
or_false true c h = absurd (true≢false h)
or_false false c h = (refl, h)

-- without a ticket fewer are out
pub out-without_other : (outs : List Attempt) (t s : ℕ) → is_out outs s ≡ false → is_out (without t outs) s ≡ false
out-without_other [] t s h = rw without-nil h
out-without_other (a ∷ outs) t s h =
    let parts = or_false (a.ticket == s) (is_out outs s) (sym (out-cons a outs s) ∙ h) in
    elim (cases_Bool (a.ticket == t)) [
      | inl here ↦ rw (without-cons, here) parts.1
      | inr apart ↦ rw (without-cons, apart, out-cons, parts.0) (out-without_other outs t s parts.1)
    ]

pub attempts-without : (n m : ℕ) (outs : List Attempt) (t : ℕ) → AreAttempts n m outs → AreAttempts n m (without t outs)
attempts-without n m [] t h = rw without-nil h
attempts-without n m (a ∷ outs) t h = elim (cases_Bool (a.ticket == t)) [
  | inl here ↦ rw (without-cons, here) h.3
  | inr apart ↦ rw (without-cons, apart) (
    h.0,
    h.1,
    out-without_other outs t a.ticket h.2,
    attempts-without n m outs t
        h.3,
  )
]

-- exactly the ticket is out no longer
pub out-without : (n m : ℕ) (outs : List Attempt) (t s : ℕ) → AreAttempts n m outs
    → is_out (without t outs) s ≡ (not (s == t) && is_out outs s)
out-without n m [] t s h = rw (without-nil, out-nil)
    (elim (s == t) as (λ b. false ≡ (not b && false)) [ true ↦ refl | false ↦ refl ])
out-without n m (a ∷ outs) t s h = elim (cases_Bool (a.ticket == t)) [
  | inl here ↦ rw (without-cons, here, out-cons) (elim (cases_Bool (s == t)) [
    | inl same ↦
        let e : s ≡ a.ticket = eqb-true s t same ∙ sym (eqb-true a.ticket t here) in
        rw same (ap (λ k. is_out outs k) e ∙ h.2)
    | inr differs ↦
        let other : (a.ticket == s) ≡ false = ne_eqb a.ticket s
        (λ e. eqb-false s t differs (sym e ∙ eqb-true a.ticket t here)) in
        rw (differs, other) refl
  ])
  | inr apart ↦ rw (without-cons, apart, out-cons, out-cons, out-without n m outs t s h.3) (elim (cases_Bool (s == t)) [
    | inl same ↦
        let other : (a.ticket == s) ≡ false = ne_eqb a.ticket s
        (λ e. eqb-false a.ticket t apart (e ∙ eqb-true s t same)) in
        rw (same, other) refl
    | inr differs ↦ rw differs refl
  ])
]

-- a ticket drawn next
pub attempts-more : (n m : ℕ) (outs : List Attempt) → AreAttempts n m outs → AreAttempts (n + 1) m outs
attempts-more n m [] h = tt
attempts-more n m (a ∷ outs) h = (omega (arith, h.0), h.1, h.2, attempts-more n m outs h.3)

pub out-below : (n m : ℕ) (outs : List Attempt) → AreAttempts n m outs → is_out outs n ≡ false
out-below n m [] h = out-nil n
out-below n m (a ∷ outs) h =
    let apart : (a.ticket == n) ≡ false = ne_eqb a.ticket n (λ e. omega (arith, e, h.0)) in
    rw (out-cons, apart) (out-below n m outs h.3)

pub attempts-push : (n m : ℕ) (outs : List Attempt) (job : ℕ) → job < m → AreAttempts n m outs
    → AreAttempts (n + 1) m (outs ++ attempt n job ∷ [])
attempts-push n m [] job known h = (omega arith, known, out-nil n, tt)
attempts-push n m (a ∷ outs) job known h =
    let apart : (n == a.ticket) ≡ false = ne_eqb n a.ticket (λ e. omega (arith, e, h.0)) in
    (omega (arith, h.0), h.1, rw (out-push outs n job a.ticket, h.2, apart) refl, attempts-push n m outs job known h.3)

pub job-known : (n m : ℕ) (outs : List Attempt) (t job : ℕ) → AreAttempts n m outs → job_of outs t ≡ Some job → job < m
job-known n m [] t job h is = absurd (none-some job (sym (job-nil t) ∙ is))
job-known n m (a ∷ outs) t job h is = elim (cases_Bool (a.ticket == t)) [
  | inl here ↦
      let same : a.job ≡ job = same_Some a.job job (sym
      (job-cons a outs t ∙ ap (λ (b : Bool). cond b (Some a.job) (job_of outs t)) here) ∙ is) in
      subst (λ (k : ℕ). k < m) same h.1
  | inr apart ↦ job-known n m outs t job h.3 (sym
      (job-cons a outs t ∙ ap (λ (b : Bool). cond b (Some a.job) (job_of outs t)) apart) ∙ is)
]

-- the first ticket of a job
pub ticket-none : (outs : List Attempt) (job : ℕ) → ticket_of outs job ≡ None → tickets_of outs job ≡ 0
ticket-none [] job h = tickets-nil job
ticket-none (a ∷ outs) job h = elim (cases_Bool (a.job == job)) [
  | inl here ↦ absurd (none-some a.ticket (sym h ∙ ticket-cons a outs job
      ∙ ap (λ (b : Bool). cond b (Some a.ticket) (ticket_of outs job)) here))
  | inr apart ↦
      let rest = ticket-none outs job (sym
      (ticket-cons a outs job ∙ ap (λ (b : Bool). cond b (Some a.ticket) (ticket_of outs job)) apart) ∙ h) in
      rw (tickets-cons, apart) (omega (arith, rest))
]

pub ticket-job : (n m : ℕ) (outs : List Attempt) (job t : ℕ) → AreAttempts n m outs → ticket_of outs job ≡ Some t
    → job_of outs t ≡ Some job
ticket-job n m [] job t h is = absurd (none-some t (sym (ticket-nil job) ∙ is))
ticket-job n m (a ∷ outs) job t h is = elim (cases_Bool (a.job == job)) [
  | inl here ↦
      let same : a.ticket ≡ t = same_Some a.ticket t (sym
      (ticket-cons a outs job ∙ ap (λ (b : Bool). cond b (Some a.ticket) (ticket_of outs job)) here) ∙ is) in
      let found : (a.ticket == t) ≡ true = eq-eqb a.ticket t same in
      rw (job-cons, found) (ap (λ (k : ℕ). Some k) (eqb-true a.job job here))
  | inr apart ↦
      let rest : job_of outs t ≡ Some job = ticket-job n m outs job t h.3
      (sym (ticket-cons a outs job ∙ ap (λ (b : Bool). cond b (Some a.ticket) (ticket_of outs job)) apart) ∙ is) in
      elim (cases_Bool (a.ticket == t)) [
        | inl found ↦
            let out : is_out outs t ≡ true = out-job outs t ∙ ap (λ o. is_some o) rest in
            absurd (true≢false (sym out ∙ ap (λ k. is_out outs k) (sym (eqb-true a.ticket t found)) ∙ h.2))
        | inr other ↦ rw (job-cons, other) rest
      ]
]

-- what is left once the first place of a ticket is removed
place-apart : (a : Attempt) (outs : List Attempt) (t : ℕ) → (a.ticket == t) ≡ false
    → position_or_len (λ (a : Attempt). a.ticket == t) (a ∷ outs) ≡ suc
    (position_or_len (λ (a : Attempt). a.ticket == t) outs)
place-apart a outs t apart = ap (λ (b : Bool). cond {A = ℕ} (not b)
    (1 + position_or_len (λ (a : Attempt). a.ticket == t) outs) 0) apart ∙ one-add _

pub without-at : (outs : List Attempt) (t : ℕ) → position_or_len (λ (a : Attempt). a.ticket == t) outs < length outs
    → remove outs (position_or_len (λ (a : Attempt). a.ticket == t) outs) ≡ without t outs
without-at [] t below = absurd (omega arith)
without-at (a ∷ outs) t below = elim (cases_Bool (a.ticket == t)) [
  | inl here ↦ rw (without-cons, here) refl
  | inr apart ↦
      let step = place-apart a outs t apart in
      let rest : position_or_len (λ (x : Attempt). x.ticket == t) outs < length outs = omega (arith, step, below) in
      ap (λ k. remove (a ∷ outs) k) step ∙ ap (λ xs. a ∷ xs) (without-at outs t rest)
      ∙ sym (without-cons t a outs ∙ ap (λ (b : Bool). cond b outs (a ∷ without t outs)) apart)
]

pub without-nowhere : (outs : List Attempt) (t : ℕ)
    → length outs ≤ position_or_len (λ (a : Attempt). a.ticket == t) outs → outs ≡ without t outs
without-nowhere [] t far = sym (without-nil t)
without-nowhere (a ∷ outs) t far = elim (cases_Bool (a.ticket == t)) [
  | inl here ↦ absurd (omega (
    arith,
    far,
    ap (λ (b : Bool). cond {A = ℕ} (not b) (1 + position_or_len (λ (a : Attempt). a.ticket == t) outs) 0) here,
  ))
  | inr apart ↦
      let step = place-apart a outs t apart in
      ap (λ xs. a ∷ xs) (without-nowhere outs t (omega (arith, step, far)))
      ∙ sym (without-cons t a outs ∙ ap (λ (b : Bool). cond b outs (a ∷ without t outs)) apart)
]

-- a choice that gave nothing
pub cond_none : (b : Bool) (x : ℕ) (o : Option ℕ) → o ≡ cond b (Some x) None → ((y : ℕ) → o ≡ Some y → ⊥) → b ≡ false
cond_none true x o is other = absurd (other x is)
cond_none false x o is other = refl

-- a ticket that is out has a job
pub some-known : (o : Option ℕ) → IsSome o → (x : ℕ) × (o ≡ Some x)
some-known None h = absurd (true≢false (sym h))
some-known (Some x) h = (x, refl)

pub out-known : (outs : List Attempt) (t : ℕ) → IsSome (job_of outs t) → (job : ℕ) × (job_of outs t ≡ Some job)
out-known outs t h = some-known (job_of outs t) h

-- the job of a ticket that was just started
pub job-push : (outs : List Attempt) (t job : ℕ) → is_out outs t ≡ false
    → job_of (outs ++ attempt t job ∷ []) t ≡ Some job
job-push [] t job h = job-cons (attempt t job) [] t
    ∙ ap (λ (b : Bool). cond b (Some job) (job_of [] t)) (eq-eqb t t refl)
job-push (a ∷ outs) t job h =
    let parts = or_false (a.ticket == t) (is_out outs t) (sym (out-cons a outs t) ∙ h) in
    job-cons a (outs ++ attempt t job ∷ []) t ∙ ap (λ (b : Bool). cond b (Some a.job)
    (job_of (outs ++ attempt t job ∷ []) t)) parts.0 ∙ job-push outs t job parts.1

-- the tickets ascend, one more and one fewer
out-with-other : (outs : List Attempt) (t s : ℕ) → is_out (without t outs) s ≡ true → is_out outs s ≡ true
out-with-other outs t s h = elim (cases_Bool (is_out outs s)) [
  | inl out ↦ out
  | inr gone ↦ absurd (true≢false (sym h ∙ out-without_other outs t s gone))
]

pub ascending-without : (outs : List Attempt) (t : ℕ) → AreAscending outs → AreAscending (without t outs)
ascending-without [] t h = rw without-nil h
ascending-without (a ∷ outs) t h = elim (cases_Bool (a.ticket == t)) [
  | inl here ↦ rw (without-cons, here) h.1
  | inr apart ↦ rw (without-cons, apart) (λ s out. h.0 s (out-with-other outs t s out), ascending-without outs t h.1)
]

after-all : (n : ℕ) (a : Attempt) (outs : List Attempt) (job : ℕ) → a.ticket < n
    → ((t : ℕ) → is_out outs t ≡ true → a.ticket < t) → (t : ℕ) → is_out (outs ++ attempt n job ∷ []) t ≡ true
    → a.ticket < t
after-all n a outs job below above t out = elim (cases_Bool (is_out outs t)) [
  | inl held ↦ above t held
  | inr new ↦
      let last : (n == t) ≡ true = ap (λ (b : Bool). b || n == t) (sym new) ∙ sym (out-push outs n job t) ∙ out in
      omega (arith, eqb-true n t last, below)
]

pub ascending-push : (n m : ℕ) (outs : List Attempt) (job : ℕ) → AreAttempts n m outs → AreAscending outs
    → AreAscending (outs ++ attempt n job ∷ [])
ascending-push n m [] job known h = (λ t out. absurd (true≢false (sym out ∙ out-nil t)), tt)
ascending-push n m (a ∷ outs) job known h = (
  after-all n a outs job known.0 h.0,
  ascending-push n m outs job known.3
      h.1,
)

-- the first of them is the least
pub least-is : (outs : List Attempt) → AreAscending outs → IsLeastOut outs (least_out outs)
least-is [] h = out-nil
least-is (a ∷ outs) h = (
  out-cons a outs a.ticket ∙ ap (λ (b : Bool). b || is_out outs a.ticket) (eq-eqb a.ticket a.ticket refl),
  λ t out. elim (cases_Bool (a.ticket == t)) [
    | inl here ↦ omega (arith, eqb-true a.ticket t here)
    | inr apart ↦
        let later : is_out outs t ≡ true = ap (λ (b : Bool). b || is_out outs t) (sym apart) ∙ sym (out-cons a outs t)
        ∙ out in
        omega (arith, h.0 t later)
  ],
)
