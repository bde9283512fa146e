-- The options with a value, with the word that says what is made, and the values that they take.
use Rattle.std.specs.Prelude.{ℕ, ◌^◌, ◌&&◌, ◌||◌, ◌++◌, Bool, true, false, bytes_eq, is_some, nat_lt, nat_le, List, [], ◌∷◌, length, codes, Option, Some, None, if◌then◌else◌}
use Rattle.std.specs.List.{list_all}
use Rattle.std.specs.Char.{is_ascii_digit}
use Rattle.std.specs.Str.Parse.{digits_value}
use Rattle.hash_family.specs.Limits.{is_rows, is_width}
use Rattle.mon_words.specs.declared.command.Command.{Command}
use Rattle.mon_words.specs.declared.command.Command.TheVariants.{Central}
use Rattle.mon_words.specs.declared.opt.Opt.{Opt}
use Rattle.mon_words.specs.declared.opt.Opt.TheVariants.{Seed, Levels, Rows, Width, Heap, Weight, Epoch, Heavy, Nodes, Window, Restarts, Packets, Flows, Part}

-- the options in the order of the table: of a sketch, of a search, and of what is made
abbrev pub options : List Opt
options =
    Seed ∷ Levels ∷ Rows ∷ Width ∷ Heap ∷ Weight ∷ Epoch ∷ Heavy ∷ Nodes ∷ Window ∷ Restarts
    ∷ Packets ∷ Flows ∷ Part ∷ []

-- the options of a sketch and of a trace
abbrev pub sketch_options : List Opt
sketch_options = Seed ∷ Levels ∷ Rows ∷ Width ∷ Heap ∷ Weight ∷ Epoch ∷ Heavy ∷ []

-- the options of a search
abbrev pub search_options : List Opt
search_options = Nodes ∷ Window ∷ Restarts ∷ []

-- the options of what is made
abbrev pub made_options : List Opt
made_options = Packets ∷ Flows ∷ Part ∷ []

-- an option's name without the dashes, and the name of the word that says what is made
abbrev pub id_of : Opt → List ℕ
id_of Seed = codes "seed"
id_of Levels = codes "levels"
id_of Rows = codes "rows"
id_of Width = codes "width"
id_of Heap = codes "heap"
id_of Weight = codes "weight"
id_of Epoch = codes "epoch"
id_of Heavy = codes "heavy"
id_of Nodes = codes "nodes"
id_of Window = codes "window"
id_of Restarts = codes "restarts"
id_of Packets = codes "packets"
id_of Flows = codes "flows"
id_of Part = codes "PART"

-- an option as it is written; the word that says what is made has no dashes
abbrev pub name_of : Opt → List ℕ
name_of Part = id_of Part
name_of option = codes "--" ++ id_of option

-- the least heap that a command takes: 0, which keeps all live keys, is for `central` alone
abbrev pub least_heap : Command → ℕ
least_heap Central = 0
least_heap _ = 1

-- the heap of a command where it is not given
abbrev pub default_heap : Command → ℕ
default_heap Central = 0
default_heap _ = 64

-- the numbers that an option of a command takes; a weight is a word, and so is what is made
abbrev pub is_in_range : Command → Opt → ℕ → Bool
is_in_range command Seed number = nat_lt number (2 ^ 64)
is_in_range command Levels number = nat_le number 16
is_in_range command Rows number = is_rows number
is_in_range command Width number = is_width number
is_in_range command Heap number = nat_le (least_heap command) number && nat_le number 1024
is_in_range command Weight number = false
is_in_range command Epoch number = nat_le 1 number && nat_lt number (2 ^ 32)
is_in_range command Heavy number = nat_le 1 number && nat_le number 1000
is_in_range command Nodes number = nat_le 1 number && nat_le number 4096
is_in_range command Window number = nat_le 1 number && nat_le number 32
is_in_range command Restarts number = nat_le number 16
is_in_range command Packets number = nat_le number 1048576
is_in_range command Flows number = nat_le 1 number && nat_le number 65536
is_in_range command Part number = false

-- 1 to 20 digits
abbrev pub is_numeral : List ℕ → Bool
is_numeral value = nat_le 1 (length value) && nat_le (length value) 20 && list_all is_ascii_digit value

-- the number that a value's digits spell, of the numbers that are taken
abbrev pub number_if : (ℕ → Bool) → List ℕ → Option ℕ
number_if is_taken value =
    if is_numeral value && is_taken (digits_value 10 value) then Some (digits_value 10 value) else None

-- what a packet weighs: 1, or its original length in bytes
abbrev pub is_weight : List ℕ → Bool
is_weight value = bytes_eq value (codes "packets") || bytes_eq value (codes "bytes")

-- what is made: a trace or a topology
abbrev pub is_part : List ℕ → Bool
is_part value = bytes_eq value (codes "trace") || bytes_eq value (codes "topology")

-- the words that an option takes whose value is no number
abbrev pub is_word : Opt → List ℕ → Bool
is_word Weight value = is_weight value
is_word Part value = is_part value
is_word _ value = false

-- whether the value of an option is a number
abbrev pub has_number : Opt → Bool
has_number Weight = false
has_number Part = false
has_number _ = true

-- an option of a command takes this value
abbrev pub takes : Command → Opt → List ℕ → Bool
takes command option value =
    if has_number option then is_some (number_if (is_in_range command option) value) else is_word option value
