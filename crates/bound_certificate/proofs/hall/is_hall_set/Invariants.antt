-- The names so far are such needs.
use Rattle.std.proofs.Common.{◌≡◌, ◌<◌, ℕ, true, get_or}
use Rattle.bound_certificate.specs.Sums.{all_below}
use Rattle.bound_certificate.specs.Node.{is_next_name}
use Rattle.bound_certificate.specs.Problem.{need_count}
use Rattle.bound_certificate.proofs.hall.is_hall_set.Given as goal

abbrev pub invariant-loop-k : goal.invariant-loop-k
invariant-loop-k l =
    (all_below (is_next_name l.problem l.depth l.names) l.k ≡ true) ×
    ((k d : ℕ) → k < l.k → get_or l.names k d < need_count l.problem)
