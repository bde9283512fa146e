-- Each ticket that is out is stopped.
use Rattle.std.proofs.Common.{◌≡◌, ℕ, ◌+◌, ◌≤◌, ◌==◌, ◌&&◌, ◌||◌, not, Bool, true, false, cond, List, [], ◌∷◌, Option, None, Some, IsSome, length, refl, sym, ◌∙◌, ap, arith}
use Rattle.std.proofs.lemmas.Bool.{eq-eqb}
use Rattle.std.proofs.lemmas.Option.{none-some, same_Some}
use Rattle.crew.specs.Log.{Entry, told}
use Rattle.crew.specs.Log.Entry.{Stopped}
use Rattle.crew.specs.Crew.{CrewState, Leaves}
use Rattle.replay_core.specs.Attempts.{least_out, is_out, job_of, without}
use Rattle.replay_core.specs.Book.{Book, after_stopped}
use Rattle.replay_core.specs.Kept.{IsBook}
use Rattle.replay_core.specs.declared.attempt.Attempt.{Attempt}
use Rattle.replay_core.proofs.Attempts.{out-cons, out-nil, out-job, out-without, out-known, length-without, without-cons}
use Rattle.replay_supervisor.specs.Steps.{with_stops}
use Rattle.replay_supervisor.specs.Stopping.{StopsRest}
use Rattle.replay_supervisor.proofs.Follows.{told-more}

pub first-is-out : (outs : List Attempt) (t : ℕ) → least_out outs ≡ Some t → is_out outs t ≡ true
first-is-out [] t is = absurd (none-some t is)
first-is-out (a ∷ outs) t is =
    let same = same_Some a.ticket t is in
    out-cons a outs t ∙ ap (λ (x : Bool). x || is_out outs t) (eq-eqb a.ticket t same)

pub first-has-job : (outs : List Attempt) (t : ℕ) → least_out outs ≡ Some t → IsSome (job_of outs t)
first-has-job outs t is = sym (out-job outs t) ∙ first-is-out outs t is

pub none-is-out : (outs : List Attempt) → least_out outs ≡ None → outs ≡ []
none-is-out [] is = refl
none-is-out (a ∷ outs) is = absurd (none-some a.ticket (sym is))

pub empty-is-out : (outs : List Attempt) → length outs ≤ 0 → outs ≡ []
empty-is-out [] few = refl
empty-is-out (a ∷ outs) few = absurd (omega arith)

-- the first ticket is stopped, and the rest after it
first-stopped : (outs : List Attempt) (t : ℕ) (log : List Entry) → least_out outs ≡ Some t
    → with_stops (without t outs) (Stopped t ∷ log) ≡ with_stops outs log
first-stopped [] t log is = absurd (none-some t is)
first-stopped (a ∷ outs) t log is =
    let same = same_Some a.ticket t is in
    ap (λ xs. with_stops xs (Stopped t ∷ log)) (without-cons t a outs
    ∙ ap (λ (x : Bool). cond x outs (a ∷ without t outs)) (eq-eqb a.ticket t same))
    ∙ ap (λ (k : ℕ). with_stops outs (Stopped k ∷ log)) (sym same)

pub stops-more : (turns : ℕ) (old now later : CrewState) (was b after : Book) (t : ℕ) → StopsRest turns old now was b
    → least_out b.outs ≡ Some t → Leaves t (Stopped t) now later → after ≡ after_stopped b t → IsBook after
    → StopsRest (turns + 1) old later was after
stops-more turns old now later was b after t h is left same kept =
    let known = out-known b.outs t (first-has-job b.outs t is) in
    let fewer = length-without b.outs t known.0 known.1 in
    let outs = ap (λ (x : Book). x.outs) same in
    record {
      few = omega (arith, h.few, fewer, ap (λ (xs : List Attempt). length xs) outs);
      outs = λ s. left.out s ∙ ap (λ (x : Bool). not (s == t) && x) (h.outs s)
          ∙ sym (out-without (b.first + b.drawn) (length b.accounts) b.outs t s h.is_book.outs)
          ∙ ap (λ xs. is_out xs s) (sym outs);
      is_book = kept;
      issued = left.issued ∙ h.issued;
      faults = omega (arith, h.faults, left.faults);
      tells = λ start log is_told.
          let before = h.tells start log is_told in (
            Stopped t ∷ before.0,
            left.log ∙ ap (λ l. told l (Stopped t ∷ [])) before.1 ∙ told-more start (Stopped t) before.0,
            ap (λ xs. with_stops xs (Stopped t ∷ before.0)) outs ∙ first-stopped b.outs t before.0 is ∙ before.2,
          );
    }

-- no ticket is left
pub stops-none : (turns : ℕ) (old now : CrewState) (was b : Book) → StopsRest turns old now was b → b.outs ≡ []
    → (t : ℕ) → now.is_out t ≡ false
stops-none turns old now was b h none t = h.outs t ∙ ap (λ xs. is_out xs t) none ∙ out-nil t

pub stops-log : (turns : ℕ) (old now : CrewState) (was b : Book) → StopsRest turns old now was b → b.outs ≡ []
    → (start : Option (List Entry)) (log : List Entry) → old.log ≡ told start log
    → now.log ≡ told start (with_stops was.outs log)
stops-log turns old now was b h none start log is =
    let end = h.tells start log is in
    end.1 ∙ ap (λ l. told start l) (ap (λ xs. with_stops xs end.0) (sym none) ∙ end.2)
