-- The site is sought among those that are left.
use Rattle.std.proofs.Common.{◌≡◌, drop}
use Rattle.std.specs.Prelude.{find}
use Rattle.bound_certificate.specs.Placement.{first_with_room, has_room}
use Rattle.bound_certificate.proofs.completion.first_with_room.Given as goal

abbrev pub invariant-loop-site : goal.invariant-loop-site
invariant-loop-site l =
    find (has_room l.problem l.choices) (drop l.site-index l.via) ≡ first_with_room l.problem l.choices
