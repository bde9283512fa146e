-- No act so far passes.
use Rattle.std.proofs.Common.{◌≡◌, drop}
use Rattle.scripted_crew.specs.Script.{deeds_of, from_started, is_listed}
use Rattle.scripted_crew.proofs.act.next_act.Given as goal

abbrev pub invariant-loop-place : goal.invariant-loop-place
invariant-loop-place l = from_started (is_listed l.started) (drop l.done (deeds_of l.acts)) ≡ from_started
    (is_listed l.started) (drop l.place (deeds_of l.acts))
