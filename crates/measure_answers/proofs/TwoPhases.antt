-- Two phases one after the other.
use Rattle.std.proofs.Common.{◌≡◌, ℕ, ◌+◌, ◌≤◌, List, [], ◌∷◌, ◌++◌, Option, None, Some, if◌then◌else◌, refl, sym, ◌∙◌, ap, arith, append_assoc}
use Rattle.crew.specs.Crew.{CrewState}
use Rattle.crew.specs.Log.{Entry, told}
use Rattle.replay_core.specs.declared.bad.Bad.{Bad}
use Rattle.replay_supervisor.specs.Counted.{RoseBy, crew_faults}
use Rattle.replay_supervisor.specs.Outcome.{IsSpent}
use Rattle.replay_supervisor.specs.Reading.{drawn_in, is_drawing}
use Rattle.replay_supervisor.specs.Steps.{Plan}
use Rattle.solve_phase.specs.Phase.{Grows}

-- the tickets that were drawn in both
drawn-append : (replay solve : List Entry) → drawn_in (replay ++ solve) ≡ drawn_in replay + drawn_in solve
unfolding drawn_in
drawn-append [] solve = omega arith
drawn-append (entry ∷ replay) solve =
    let more = drawn-append replay solve in
    omega (arith, ap (λ (n : ℕ). (if is_drawing entry then 1 else 0) + n) more)

-- the logs of both
logs_join : (old : Option (List Entry)) (replay solve : List Entry) → told (told old solve) replay
    ≡ told old (replay ++ solve)
logs_join None replay solve = refl
logs_join (Some log) replay solve = ap Some (sym (append_assoc replay solve log))

pub grows_twice : (before mid after : CrewState) (solve replay : List Entry) → Grows before mid solve
    → Grows mid after replay → Grows before after (replay ++ solve)
grows_twice before mid after solve replay first second = record {
  log = second.log ∙ ap (λ (log : Option (List Entry)). told log replay) first.log ∙ logs_join before.log replay solve;
  issued = omega (arith, first.issued, second.issued, drawn-append replay solve);
  faults = omega (arith, first.faults, second.faults);
  none_out = second.none_out;
}

-- a rise since a moment is one since an earlier moment
rose_since : (n old mid now : ℕ) → old ≤ mid → RoseBy n mid now → RoseBy n old now
rose_since n old mid now earlier rose = grind (arith, earlier, rose)

pub spent_since : (plan : Plan) (old mid new : CrewState) (log : List Entry) (job : ℕ) (bad : Bad)
    → old.faults ≤ mid.faults → IsSpent plan mid new log job bad → IsSpent plan old new log job bad
spent_since plan old mid new log job bad earlier spent = record {
  moment = spent.moment;
  known = spent.known;
  counts = spent.counts;
  spent = spent.spent;
  others = spent.others;
  fresh = spent.fresh;
  some_open = spent.some_open;
  faults = rose_since (crew_faults bad) old.faults mid.faults new.faults earlier spent.faults;
}
