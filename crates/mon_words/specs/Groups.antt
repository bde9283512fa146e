-- The values of the options in groups, in the order of the table.
use Rattle.std.specs.Prelude.{◌≡◌, ◌≤◌, List, find, Option, IfSome, IsTrue}
use Rattle.std.specs.Option.{option_map}
use Rattle.std.specs.Str.Parse.{digits_value}
use Rattle.clap.specs.Words.{Row, first_of}
use Rattle.hash_family.specs.Limits.{is_rows, is_width}
use Rattle.mon_words.specs.Options.{default_heap, id_of, least_heap}
use Rattle.mon_words.specs.Values.{is_refused, number_or, part_in, weighs_bytes}
use Rattle.mon_words.specs.declared.command.Command.{Command}
use Rattle.mon_words.specs.declared.groups.MadeValues.{MadeValues}
use Rattle.mon_words.specs.declared.groups.SearchValues.{SearchValues}
use Rattle.mon_words.specs.declared.groups.SketchValues.{SketchValues}
use Rattle.mon_words.specs.declared.opt.Opt.{Opt}
use Rattle.mon_words.specs.declared.opt.Opt.TheVariants.{Seed, Levels, Rows, Width, Heap, Epoch, Heavy, Nodes, Window, Restarts, Packets, Flows}
use Rattle.mon_words.specs.declared.usage_fault.UsageFault.TheVariants.{Value}
use Rattle.mon_words.specs.declared.words_fault.WordsFault.{WordsFault}
use Rattle.mon_words.specs.declared.words_fault.WordsFault.TheVariants.{Usage}

-- what is told of the first of these options with a value that it doesn't take
abbrev pub told_of : Command → List Row → List Opt → Option WordsFault
told_of command rows some = option_map (λ option. Usage (Value option)) (find (is_refused command rows) some)

-- the values of a sketch and of a trace are those that clap reads or the defaults, and within their limits
pub record IsSketch (command : Command) (rows : List Row) (values : SketchValues) : Type 0 where
  pub seed_is : values.seed ≡ number_or rows Seed 1
  pub levels_are : values.levels ≡ number_or rows Levels 12
  pub rows_are : values.rows ≡ number_or rows Rows 5
  pub width_is : values.width ≡ number_or rows Width 1024
  pub heap_is : values.heap ≡ number_or rows Heap (default_heap command)
  pub bytes_are : values.bytes ≡ weighs_bytes rows
  pub epoch_is : values.epoch ≡ option_map (digits_value 10) (first_of (id_of Epoch) rows)
  pub heavy_is : values.heavy ≡ number_or rows Heavy 10
  pub levels_up_to : values.levels ≤ 16
  pub are_rows : IsTrue (is_rows values.rows)
  pub are_wide : IsTrue (is_width values.width)
  pub heap_from : least_heap command ≤ values.heap
  pub heap_up_to : values.heap ≤ 1024
  pub epoch_from : IfSome values.epoch (λ seconds. 1 ≤ seconds)
  pub heavy_from : 1 ≤ values.heavy
  pub heavy_up_to : values.heavy ≤ 1000

-- the values of a search are those that clap reads or the defaults, and within their limits
pub record IsSearch (rows : List Row) (values : SearchValues) : Type 0 where
  pub nodes_are : values.nodes ≡ number_or rows Nodes 1024
  pub window_is : values.window ≡ number_or rows Window 4
  pub restarts_are : values.restarts ≡ number_or rows Restarts 3
  pub nodes_from : 1 ≤ values.nodes
  pub nodes_to : values.nodes ≤ 4096
  pub window_from : 1 ≤ values.window
  pub window_to : values.window ≤ 32
  pub restarts_to : values.restarts ≤ 16

-- the values of what is made are those that clap reads or the defaults, and within their limits
pub record IsMade (rows : List Row) (values : MadeValues) : Type 0 where
  pub packets_are : values.packets ≡ number_or rows Packets 200000
  pub flows_are : values.flows ≡ number_or rows Flows 20000
  pub part_is : values.part ≡ part_in rows
  pub packets_to : values.packets ≤ 1048576
  pub flows_from : 1 ≤ values.flows
  pub flows_to : values.flows ≤ 65536
