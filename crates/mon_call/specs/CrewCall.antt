-- A call that may start children.
use Rattle.std.specs.Prelude.{◌≡◌, ◌≤◌, ℕ, false}
use Rattle.crew.specs.Crew.{CrewState}
use Rattle.mon_io.specs.Inputs.{InputState}
use Rattle.mon_io.specs.Sink.{SinkState}
use Rattle.mon_call.specs.Call.{Call, Keeps, call_of}

-- the inputs and the sink, and the crew before and after
pub record CrewCall : Type 0 where
  pub call : Call
  pub crew : CrewState
  pub crew_after : CrewState

abbrev pub crew_call_of : InputState → InputState → CrewState → CrewState → SinkState → SinkState → CrewCall
crew_call_of inputs inputs_after crew crew_after sink sink_after =
    record { call = call_of inputs inputs_after sink sink_after; crew = crew; crew_after = crew_after }

-- the crew is as it was
abbrev pub IsIdle : CrewCall → Type 0
IsIdle c = c.crew_after ≡ c.crew

-- No contents by name changed, no count of faults fell, no ticket was taken back, and none is out.
pub record KeepsCrew (c : CrewCall) : Type 0 where
  pub keeps : Keeps c.call
  pub crew_later : c.crew.faults ≤ c.crew_after.faults
  pub issued_later : c.crew.issued ≤ c.crew_after.issued
  pub none_out : (ticket : ℕ) → c.crew_after.is_out ticket ≡ false
