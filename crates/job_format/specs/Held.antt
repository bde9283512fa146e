-- A need, as it is held without memory.
use Rattle.bound_certificate.specs.declared.need.Need.{Need}
use Rattle.job_format.specs.declared.held_need.HeldNeed.{HeldNeed}

-- the need that is held
abbrev pub need_of : HeldNeed → Need
need_of held = record { load = held.load; via = held.via }
