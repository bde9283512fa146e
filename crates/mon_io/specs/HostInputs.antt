-- What the picked stream of files and standard input has left.
use Rattle.std.specs.Prelude.{ℕ, List, Option, None}
use Rattle.mon_io.specs.Inputs.{InputState}
use Rattle.mon_io.specs.ReadAhead.{bytes_ahead, remaining_behind}
use Rattle.mon_io.specs.Source.{source_remaining}
use Rattle.mon_io.specs.declared.host_inputs.HostInputs.{HostInputs}
use Rattle.mon_io.specs.declared.read_ahead.ReadAhead.{ReadAhead}
use Rattle.mon_io.specs.declared.source.Source.{Source}

-- no byte is told
abbrev pub host_inputs_state : {R F D S : Type 0} → HostInputs R F D S → InputState
host_inputs_state inputs = record { contents = λ _. None; rest = None; faults = inputs.faults.count }

-- the picked stream with what was read ahead of it
abbrev pub host_picked : {R F D S : Type 0} → HostInputs R F D S → ReadAhead (Source F S)
host_picked inputs = inputs.picked

-- the bytes that were read of it and not yet taken
abbrev pub host_ahead : {R F D S : Type 0} → HostInputs R F D S → List ℕ
host_ahead inputs = bytes_ahead inputs.picked

-- what is ahead, and then what the stream will give from here on, where it tells that
abbrev pub host_remaining : {R F D S : Type 0} → (F → Option (List ℕ)) → (S → Option (List ℕ)) → HostInputs R F D S
    → Option (List ℕ)
host_remaining of_file of_input inputs = remaining_behind (source_remaining of_file of_input) inputs.picked
