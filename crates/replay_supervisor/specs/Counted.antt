-- Counts of faults.
use Rattle.std.specs.Prelude.{ℕ, ◌+◌, ◌-◌, ◌^◌, ◌≤◌, min}
use Rattle.replay_core.specs.declared.bad.Bad.{Bad}

-- a count of 64 bits rose by so many at least, or stands at its greatest value
abbrev pub RoseBy : ℕ → ℕ → ℕ → Type 0
RoseBy n before now = min (before + n) (2 ^ 64 - 1) ≤ now

-- the failures of the crew among bad attempts
abbrev pub crew_faults : Bad → ℕ
crew_faults bad = bad.start + bad.feed + bad.died
