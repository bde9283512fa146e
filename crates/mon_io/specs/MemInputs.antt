-- What clauses see of inputs in memory.
use Rattle.std.specs.Prelude.{ℕ, List, Some}
use Rattle.mon_io.specs.Files.{contents_of}
use Rattle.mon_io.specs.Inputs.{InputState}
use Rattle.mon_io.specs.Shelf.{shelf_rest}
use Rattle.mon_io.specs.declared.mem_inputs.MemInputs.{MemInputs}

abbrev pub mem_inputs_state : MemInputs → InputState
mem_inputs_state inputs = record {
  contents = contents_of inputs.shelf.files.items;
  rest = Some (shelf_rest inputs.shelf);
  faults = inputs.faults.count;
}

abbrev pub mem_inputs_rest : MemInputs → List ℕ
mem_inputs_rest inputs = shelf_rest inputs.shelf

-- the numbers of the calls that are to fail
abbrev pub failing_calls : MemInputs → List ℕ
failing_calls inputs = inputs.script.fails.items

-- how many calls were made
abbrev pub calls_made : MemInputs → ℕ
calls_made inputs = inputs.script.calls
