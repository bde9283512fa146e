-- What the words of a call ask for.
use Rattle.std.specs.Prelude.{Bool, ℕ, List, [], slice_index_or, Option, Result, Ok, Err}
use Rattle.mon_words.specs.Values.{Values, words_of}
use Rattle.mon_words.specs.declared.command.Command.{Command}
use Rattle.mon_words.specs.declared.command.Command.TheVariants as words
use Rattle.mon_words.specs.declared.part.Part.{Part}
use Rattle.mon_words.specs.declared.usage_fault.UsageFault.{UsageFault}
use Rattle.mon_call.specs.Setting.{setting_in}
use Rattle.mon_call.specs.declared.setting.Setting.{Setting}
use Rattle.mon_place.specs.Place.{solving_in}
use Rattle.solve_phase.specs.declared.solving.Solving.{Solving}

-- a command that starts nobody, with the names of what it reads
pub data AloneCommand : Type 0 where
  Total : List ℕ → AloneCommand
  Central : List ℕ → Option (List ℕ) → Setting → AloneCommand
  Check : List ℕ → List ℕ → AloneCommand
  Child : AloneCommand
  Generate : Part → ℕ → ℕ → ℕ → AloneCommand

-- such a command; the placement of the paths of the topology that a name names; the measure of such a topology and of a
-- trace; or that of the made ones, of so many packets and flows
pub data Asked : Type 0 where
  Alone : AloneCommand → Asked
  Place : List ℕ → Solving → Asked
  Measure : List ℕ → List ℕ → Setting → Solving → Asked
  Drill : ℕ → ℕ → Setting → Solving → Asked

-- the command, of the trace that the first name names, of the topology and the tree or trace that both names name, of
-- standard input, of a seed and numbers, or of the topology that the first name names
abbrev pub asked_by : Command → Values → Asked
asked_by words.Total values = Alone (Total (slice_index_or values.names 0 []))
asked_by words.Central values = Alone (Central (slice_index_or values.names 0 []) values.topology (setting_in values))
asked_by words.Check values = Alone (Check (slice_index_or values.names 0 []) (slice_index_or values.names 1 []))
asked_by words.Child values = Alone Child
asked_by words.Generate values = Alone (Generate values.part values.seed values.packets values.flows)
asked_by words.Place values = Place (slice_index_or values.names 0 []) (solving_in values)
asked_by words.Measure values =
    Measure (slice_index_or values.names 0 []) (slice_index_or values.names 1 []) (setting_in values) (solving_in values)
asked_by words.Drill values = Drill values.packets values.flows (setting_in values) (solving_in values)

abbrev pub asked_in : Values → Asked
asked_in values = asked_by values.command values

abbrev pub asked_when : Result Values UsageFault → Result Asked UsageFault
asked_when (Ok values) = Ok (asked_in values)
asked_when (Err fault) = Err fault

-- what the words ask for, or why they are refused; where not all commands are known, those that start nobody are
abbrev pub asked_of : Bool → List (List ℕ) → Result Asked UsageFault
asked_of all words = asked_when (words_of all words)
