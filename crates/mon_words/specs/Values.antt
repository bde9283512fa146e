-- What the words of a call ask for.
use Rattle.std.specs.Prelude.{◌≡◌, ◌≤◌, ◌==◌, ◌&&◌, ℕ, List, [], ◌∷◌, length, find, bytes_eq, codes, Bool, true, false, Option, Some, None, IfSome, not, is_some, Result, Ok, Err, IsTrue, ⊤, if◌then◌else◌}
use Rattle.std.specs.List.{AllByRecursion, flat_map}
use Rattle.std.specs.Option.{option_map, option_map_or}
use Rattle.std.specs.Str.Parse.{digits_value}
use Rattle.clap.specs.Words.{Row, fault_of, first_of, matches_of}
use Rattle.hash_family.specs.Limits.{is_rows, is_width}
use Rattle.mon_words.specs.Apps.{app_for, name_ids, required_ids}
use Rattle.mon_words.specs.Options.{default_heap, id_of, least_heap, options, takes}
use Rattle.mon_words.specs.declared.command.Command.{Command}
use Rattle.mon_words.specs.declared.command.Command.TheVariants.{Total, Central, Measure, Place, Check, Child, Generate, Drill}
use Rattle.mon_words.specs.declared.opt.Opt.{Opt}
use Rattle.mon_words.specs.declared.opt.Opt.TheVariants as opts
use Rattle.mon_words.specs.declared.part.Part.{Part}
use Rattle.mon_words.specs.declared.part.Part.TheVariants.{Trace, Topology}
use Rattle.mon_words.specs.declared.usage_fault.UsageFault.{UsageFault}
use Rattle.mon_words.specs.declared.usage_fault.UsageFault.TheVariants.{NoCommand, UnknownCommand, Refused, Value}
use Rattle.mon_words.specs.declared.words_fault.WordsFault.{WordsFault}
use Rattle.mon_words.specs.declared.words_fault.WordsFault.TheVariants.{Usage, Memory}

-- a command with its names in order, what is made, a topology where one is named, and the values of its options
pub record Values : Type 0 where
  pub command : Command
  pub names : List (List ℕ)
  pub part : Part
  pub topology : Option (List ℕ)
  pub seed : ℕ
  pub levels : ℕ
  pub rows : ℕ
  pub width : ℕ
  pub heap : ℕ
  pub bytes : Bool
  pub epoch : Option ℕ
  pub heavy : ℕ
  pub nodes : ℕ
  pub window : ℕ
  pub restarts : ℕ
  pub packets : ℕ
  pub flows : ℕ

-- how many names a command takes
abbrev pub name_count : Command → ℕ
name_count Total = 1
name_count Central = 1
name_count Measure = 2
name_count Place = 1
name_count Check = 2
name_count Child = 0
name_count Generate = 0
name_count Drill = 0

-- whether a command starts children
abbrev pub starts_children : Command → Bool
starts_children Measure = true
starts_children Place = true
starts_children Drill = true
starts_children _ = false

-- whether a command takes the name of a topology as an option
abbrev pub takes_topology : Command → Bool
takes_topology Central = true
takes_topology _ = false

-- whether a command takes the options of a sketch but the seed, and those of a trace
abbrev pub takes_sketch_options : Command → Bool
takes_sketch_options Central = true
takes_sketch_options Measure = true
takes_sketch_options Drill = true
takes_sketch_options _ = false

-- whether a command takes a seed, of a sketch or of a made trace
abbrev pub takes_seed : Command → Bool
takes_seed Generate = true
takes_seed command = takes_sketch_options command

-- whether a command takes the options of a search
abbrev pub takes_solve_options : Command → Bool
takes_solve_options Measure = true
takes_solve_options Place = true
takes_solve_options Drill = true
takes_solve_options _ = false

-- whether a command takes the numbers of a made trace
abbrev pub takes_made_options : Command → Bool
takes_made_options Generate = true
takes_made_options Drill = true
takes_made_options _ = false

-- whether a command takes what is made
abbrev pub takes_part : Command → Bool
takes_part Generate = true
takes_part _ = false

-- whether a command takes an option
abbrev pub takes_option : Command → Opt → Bool
takes_option command opts.Seed = takes_seed command
takes_option command opts.Levels = takes_sketch_options command
takes_option command opts.Rows = takes_sketch_options command
takes_option command opts.Width = takes_sketch_options command
takes_option command opts.Heap = takes_sketch_options command
takes_option command opts.Weight = takes_sketch_options command
takes_option command opts.Epoch = takes_sketch_options command
takes_option command opts.Heavy = takes_sketch_options command
takes_option command opts.Nodes = takes_solve_options command
takes_option command opts.Window = takes_solve_options command
takes_option command opts.Restarts = takes_solve_options command
takes_option command opts.Packets = takes_made_options command
takes_option command opts.Flows = takes_made_options command
takes_option command opts.Part = takes_part command

-- the numbers are within their limits, where a heap of 0, which `central` alone takes, keeps all live keys, and there
-- are as many names as the command takes
pub record IsInRange (values : Values) : Type 0 where
  pub names : length values.names ≡ name_count values.command
  pub levels_up_to : values.levels ≤ 16
  pub are_rows : IsTrue (is_rows values.rows)
  pub are_wide : IsTrue (is_width values.width)
  pub heap_from : least_heap values.command ≤ values.heap
  pub heap_up_to : values.heap ≤ 1024
  pub epoch_from : IfSome values.epoch (λ seconds. 1 ≤ seconds)
  pub heavy_from : 1 ≤ values.heavy
  pub heavy_up_to : values.heavy ≤ 1000
  pub nodes_from : 1 ≤ values.nodes
  pub nodes_to : values.nodes ≤ 4096
  pub window_from : 1 ≤ values.window
  pub window_to : values.window ≤ 32
  pub restarts_to : values.restarts ≤ 16
  pub packets_to : values.packets ≤ 1048576
  pub flows_from : 1 ≤ values.flows
  pub flows_to : values.flows ≤ 65536

-- each option of a sketch but the seed, and each of a trace, has its default
pub record HasSketchDefaults (values : Values) : Type 0 where
  pub levels_are : values.levels ≡ 12
  pub rows_are : values.rows ≡ 5
  pub width_is : values.width ≡ 1024
  pub heap_is : values.heap ≡ default_heap values.command
  pub no_bytes : values.bytes ≡ false
  pub no_epoch : values.epoch ≡ None
  pub heavy_is : values.heavy ≡ 10

-- each option of a search has its default
pub record HasSolveDefaults (values : Values) : Type 0 where
  pub nodes_are : values.nodes ≡ 1024
  pub window_is : values.window ≡ 4
  pub restarts_are : values.restarts ≡ 3

-- each number of a made trace has its default
pub record HasMadeDefaults (values : Values) : Type 0 where
  pub packets_are : values.packets ≡ 200000
  pub flows_are : values.flows ≡ 20000

-- what the command doesn't take has its default: no topology is named, and a trace is what is made
pub record HasDefaults (values : Values) : Type 0 where
  pub seed : takes_seed values.command ≡ false → values.seed ≡ 1
  pub sketch : takes_sketch_options values.command ≡ false → HasSketchDefaults values
  pub topology : takes_topology values.command ≡ false → values.topology ≡ None
  pub solve : takes_solve_options values.command ≡ false → HasSolveDefaults values
  pub made : takes_made_options values.command ≡ false → HasMadeDefaults values
  pub part : takes_part values.command ≡ false → values.part ≡ Trace

-- the command that a word names, of all or of those that start no children
abbrev pub command_of : Bool → List ℕ → Option Command
command_of all word =
    if bytes_eq word (codes "total") then Some Total
    else if bytes_eq word (codes "central") then Some Central
    else if bytes_eq word (codes "check") then Some Check
    else if bytes_eq word (codes "child") then Some Child
    else if bytes_eq word (codes "generate") then Some Generate
    else if all && bytes_eq word (codes "measure") then Some Measure
    else if all && bytes_eq word (codes "place") then Some Place
    else if all && bytes_eq word (codes "drill") then Some Drill
    else None

-- clap's definition of the command takes the words behind its name
unfoldable pub is_taken : Command → List (List ℕ) → Bool
is_taken command words = length (fault_of (app_for command) words) == 0

-- what clap reads in them
unfoldable pub rows_in : Command → List (List ℕ) → List Row
rows_in command words = matches_of (app_for command) words

-- neither a topology nor an option is given that the command doesn't take
pub record IsBare (command : Command) (rows : List Row) : Type 0 where
  pub no_topology : takes_topology command ≡ false → first_of (codes "topology") rows ≡ None
  pub no_option : (option : Opt) → takes_option command option ≡ false → first_of (id_of option) rows ≡ None

-- each word that the command requires is given
abbrev pub IsNamed : Command → List Row → Type 0
IsNamed command rows = AllByRecursion (λ id. is_some (first_of id rows) ≡ true) (required_ids command)

-- an option is given a value that it doesn't take
abbrev pub is_refused : Command → List Row → Opt → Bool
is_refused command rows option =
    option_map_or (λ value. not (takes command option value)) (first_of (id_of option) rows) false

-- the first option in the order of the table with such a value
abbrev pub first_refused : Command → List Row → Option Opt
first_refused command rows = find (is_refused command rows) options

-- the number of an option that is given one in its range, and else this one
abbrev pub number_or : List Row → Opt → ℕ → ℕ
number_or rows option default = option_map_or (digits_value 10) (first_of (id_of option) rows) default

-- whether packets weigh their bytes
abbrev pub weighs_bytes : List Row → Bool
weighs_bytes rows = option_map_or (λ value. bytes_eq value (codes "bytes")) (first_of (id_of opts.Weight) rows) false

-- what is made: a topology where it is asked for, and else a trace
abbrev pub part_in : List Row → Part
part_in rows =
    if option_map_or (λ value. bytes_eq value (codes "topology")) (first_of (id_of opts.Part) rows) false then Topology
    else Trace

-- the name with this id, where it is given
abbrev pub name_in : List Row → List ℕ → List (List ℕ)
name_in rows id = option_map_or (λ name. name ∷ []) (first_of id rows) []

-- the names that the command takes, in order
abbrev pub names_in : Command → List Row → List (List ℕ)
names_in command rows = flat_map (name_in rows) (name_ids command)

-- the names, the words, the texts and the numbers, each that is not given with its default
abbrev pub values_in : Command → List Row → Values
values_in command rows = record {
  command = command;
  names = names_in command rows;
  part = part_in rows;
  topology = first_of (codes "topology") rows;
  seed = number_or rows opts.Seed 1;
  levels = number_or rows opts.Levels 12;
  rows = number_or rows opts.Rows 5;
  width = number_or rows opts.Width 1024;
  heap = number_or rows opts.Heap (default_heap command);
  bytes = weighs_bytes rows;
  epoch = option_map (digits_value 10) (first_of (id_of opts.Epoch) rows);
  heavy = number_or rows opts.Heavy 10;
  nodes = number_or rows opts.Nodes 1024;
  window = number_or rows opts.Window 4;
  restarts = number_or rows opts.Restarts 3;
  packets = number_or rows opts.Packets 200000;
  flows = number_or rows opts.Flows 20000;
}

-- what is read of a command's words, unless the value of an option is refused
abbrev pub read_of : Command → List Row → Result Values UsageFault
read_of command rows =
    option_map_or (λ option. Err (Value option)) (first_refused command rows) (Ok (values_in command rows))

-- the words behind a command
abbrev pub rest_of : Command → List (List ℕ) → Result Values UsageFault
rest_of command words = if is_taken command words then read_of command (rows_in command words) else Err Refused

-- the words of a call, where all commands are known or those that start no children
abbrev pub words_of : Bool → List (List ℕ) → Result Values UsageFault
words_of all [] = Err NoCommand
words_of all (word ∷ words) =
    option_map_or (λ command. rest_of command words) (command_of all word) (Err UnknownCommand)

-- the words are refused for this cause; want of memory is free
abbrev pub Explains : Result Values UsageFault → WordsFault → Type 0
Explains asked (Usage fault) = asked ≡ Err fault
Explains asked Memory = ⊤
