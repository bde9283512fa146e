-- Stopped tickets behind a log, and the oldest entry of one.
use Rattle.std.proofs.Common.{◌≡◌, ◌⊎◌, ℕ, ◌<◌, true, false, List, [], ◌∷◌, ◌++◌, length, length-append, refl, sym, ◌∙◌, ap, subst, arith, inl, inr, append_assoc}
use Rattle.std.specs.Prelude.{is_some}
use Rattle.crew.specs.Log.{Entry}
use Rattle.crew.specs.Log.Entry.{Stopped}
use Rattle.replay_core.specs.declared.attempt.Attempt.{Attempt}
use Rattle.replay_supervisor.specs.Jobs.{Work}
use Rattle.replay_supervisor.specs.Reading.{accepted, read}
use Rattle.replay_supervisor.specs.Steps.{AreSteps, IsStep, Plan, moment, open_jobs, with_stops}
use Rattle.replay_supervisor.specs.Steps.Moment.{Idle, Stopping}
use Rattle.measure_told.proofs.Cut.{not_open, oldest, steps_of}
use Rattle.measure_told.specs.Told.{is_stop}

-- the oldest entry is no stopped ticket
first_goes : (p : Plan) (entry : Entry) → IsStep p [] entry → is_stop entry ≡ false
unfolding moment
first_goes p (Stopped t) step = absurd (let e : Idle ≡ Stopping t = step in cc)
first_goes p _ step = refl

pub oldest_goes : (p : Plan) (log later : List Entry) (entry : Entry) → AreSteps p log → log ≡ later ++ entry ∷ []
    → is_stop entry ≡ false
oldest_goes p log later entry steps is =
    let parts : AreSteps p (entry ∷ []) = steps_of p later (entry ∷ []) (subst (AreSteps p) is steps) in
    first_goes p entry parts.0

-- an empty list has no entry
pub no_entry : (later : List Entry) (entry : Entry) → [] ≡ later ++ entry ∷ [] → is_stop entry ≡ false
no_entry later entry e = absurd (omega (arith, ap length e, length-append later (entry ∷ [])))

-- the stopped tickets stand in front of the log
stops_front : (outs : List Attempt) (log : List Entry) → (stops : List Entry) × (with_stops outs log ≡ stops ++ log)
stops_front [] log = ([], refl)
stops_front (a ∷ outs) log =
    let rest = stops_front outs (Stopped a.ticket ∷ log) in
    (rest.0 ++ Stopped a.ticket ∷ [], rest.1 ∙ sym (append_assoc rest.0 (Stopped a.ticket ∷ []) log))

-- and change no accepted reply
accepted-stops : (work : Work) (outs : List Attempt) (log : List Entry) (job : ℕ)
    → accepted (read work (with_stops outs log)) job ≡ accepted (read work log) job
unfolding read
accepted-stops work [] log job = refl
accepted-stops work (a ∷ outs) log job = accepted-stops work outs (Stopped a.ticket ∷ log) job

last_same : {X : Type 0} (xs ys : List X) (x y : X) → xs ++ x ∷ [] ≡ ys ++ y ∷ [] → x ≡ y
last_same [] [] x y e = cc
last_same [] (z ∷ ys) x y e = absurd (let n = ap length e in omega (arith, n, length-append ys (y ∷ [])))
last_same (z ∷ xs) [] x y e = absurd (let n = ap length e in omega (arith, n, length-append xs (x ∷ [])))
last_same (z ∷ xs) (w ∷ ys) x y e = let rest : xs ++ x ∷ [] ≡ ys ++ y ∷ [] = cc in last_same xs ys x y rest

-- behind an empty log nothing is stopped
empty_stops : (p : Plan) (log : List Entry) → log ≡ [] → with_stops (read p.work log).outs log ≡ []
unfolding read
empty_stops p log none = ap (λ (xs : List Entry). with_stops (read p.work xs).outs xs) none

module _ (p : Plan) (part log : List Entry) (whole : part ≡ with_stops (read p.work log).outs log) where
  goes_by : (later : List Entry) (entry : Entry) → part ≡ later ++ entry ∷ [] → AreSteps p log
      → (log ≡ []) ⊎ ((front : List Entry) × (x : Entry) × (log ≡ front ++ x ∷ [])) → is_stop entry ≡ false
  goes_by later entry is steps (inl none) =
      let size : length part ≡ 0 = ap length (whole ∙ empty_stops p log none) in
      absurd (omega (arith, size, ap length is, length-append later (entry ∷ [])))
  goes_by later entry is steps (inr last) =
      let front = stops_front (read p.work log).outs log in
      let there : later ++ entry ∷ [] ≡ (front.0 ++ last.0) ++ last.1 ∷ [] =
      sym is ∙ whole ∙ front.1 ∙ ap (λ (xs : List Entry). front.0 ++ xs) last.2
      ∙ sym (append_assoc front.0 last.0 (last.1 ∷ [])) in
      ap is_stop (last_same later (front.0 ++ last.0) entry last.1 there)
      ∙ oldest_goes p log last.0 last.1 steps last.2

  -- so is the oldest entry of a log that was given up
  pub given_up_goes : AreSteps p log → (later : List Entry) (entry : Entry) → part ≡ later ++ entry ∷ []
      → is_stop entry ≡ false
  given_up_goes steps later entry is = goes_by later entry is steps (oldest log)

  -- where its one job was open, no reply is accepted in it
  pub none_accepted : p.work.count ≡ 1 → 0 < open_jobs (read p.work log)
      → is_some (accepted (read p.work part) 0) ≡ true → ⊥
  none_accepted one some_open some =
      not_open p one log
      (ap is_some (sym (accepted-stops p.work (read p.work log).outs log 0))
      ∙ ap (λ (xs : List Entry). is_some (accepted (read p.work xs) 0)) (sym whole) ∙ some) some_open
