-- What is read of options that a command doesn't take.
use Rattle.std.proofs.Common.{◌≡◌, List, refl, subst, Option, Some, None, Result, Ok, Err, MatchResult, IfOk, false, rules}
use Rattle.std.specs.Option.{option_map_or}
use Rattle.clap.specs.Words.{Row}
use Rattle.mon_words.specs.Values.{Explains, HasDefaults, HasMadeDefaults, HasSketchDefaults, HasSolveDefaults, IsBare, Values, first_refused, read_of, takes_made_options, takes_sketch_options, takes_solve_options, values_in}
use Rattle.mon_words.specs.declared.command.Command.{Command}
use Rattle.mon_words.specs.declared.opt.Opt.{Opt}
use Rattle.mon_words.specs.declared.usage_fault.UsageFault.TheVariants.{Value}
use Rattle.mon_words.specs.declared.words_fault.WordsFault.{WordsFault}
use Rattle.mon_words.specs.declared.opt.Opt.TheVariants.{Seed, Levels, Rows, Width, Heap, Weight, Epoch, Heavy, Nodes, Window, Restarts, Packets, Flows, Part}

sketch_values : (command : Command) (rows : List Row) → IsBare command rows → takes_sketch_options command ≡ false
    → HasSketchDefaults (values_in command rows)
sketch_values command rows bare none = record {
  levels_are = rw (bare.no_option Levels none) refl;
  rows_are = rw (bare.no_option Rows none) refl;
  width_is = rw (bare.no_option Width none) refl;
  heap_is = rw (bare.no_option Heap none) refl;
  no_bytes = rw (bare.no_option Weight none) refl;
  no_epoch = rw (bare.no_option Epoch none) refl;
  heavy_is = rw (bare.no_option Heavy none) refl;
}

solve_values : (command : Command) (rows : List Row) → IsBare command rows → takes_solve_options command ≡ false
    → HasSolveDefaults (values_in command rows)
solve_values command rows bare none = record {
  nodes_are = rw (bare.no_option Nodes none) refl;
  window_is = rw (bare.no_option Window none) refl;
  restarts_are = rw (bare.no_option Restarts none) refl;
}

made_values : (command : Command) (rows : List Row) → IsBare command rows → takes_made_options command ≡ false
    → HasMadeDefaults (values_in command rows)
made_values command rows bare none =
    record { packets_are = rw (bare.no_option Packets none) refl; flows_are = rw (bare.no_option Flows none) refl }

bare_values : (command : Command) (rows : List Row) → IsBare command rows → HasDefaults (values_in command rows)
bare_values command rows bare = record {
  seed = λ none. rw (bare.no_option Seed none) refl;
  sketch = sketch_values command rows bare;
  topology = bare.no_topology;
  solve = solve_values command rows bare;
  made = made_values command rows bare;
  part = λ none. rw (bare.no_option Part none) refl;
}

-- what is read are the values
pub read_values : (command : Command) (rows : List Row) (values : Values) → read_of command rows ≡ Ok values
    → values_in command rows ≡ values
read_values command rows values = go (first_refused command rows)
  where
    go : (o : Option Opt) → option_map_or (λ option. Err (Value option)) o (Ok (values_in command rows)) ≡ Ok values
        → values_in command rows ≡ values
    go None e = search rules
    go (Some option) e = cc

-- what a command doesn't take has its default
pub bare_holds_defaults : (command : Command) (rows : List Row) (result : Result Values WordsFault)
    → IsBare command rows → MatchResult result (λ read. read_of command rows ≡ Ok read) (Explains (read_of command rows))
    → IfOk result HasDefaults
bare_holds_defaults command rows (Ok values) bare asked =
    subst HasDefaults (read_values command rows values asked) (bare_values command rows bare)
bare_holds_defaults command rows (Err fault) bare asked = tt
