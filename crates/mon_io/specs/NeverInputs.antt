-- What clauses see of inputs in memory that never fail.
use Rattle.std.specs.Prelude.{ℕ, List, Some}
use Rattle.mon_io.specs.Files.{contents_or_empty}
use Rattle.mon_io.specs.Inputs.{InputState}
use Rattle.mon_io.specs.Shelf.{shelf_rest}
use Rattle.mon_io.specs.declared.never_inputs.NeverInputs.{NeverInputs}

abbrev pub never_inputs_state : NeverInputs → InputState
never_inputs_state inputs = record {
  contents = contents_or_empty inputs.shelf.files.items;
  rest = Some (shelf_rest inputs.shelf);
  faults = 0;
}

abbrev pub never_inputs_rest : NeverInputs → List ℕ
never_inputs_rest inputs = shelf_rest inputs.shelf
