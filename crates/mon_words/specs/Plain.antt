-- What plain words ask for.
use Rattle.std.specs.Prelude.{◌≡◌, ◌==◌, ℕ, List, [], false, None, Option, slice_index}
use Rattle.mon_words.specs.Options.{default_heap}
use Rattle.mon_words.specs.Values.{Values}
use Rattle.mon_words.specs.declared.command.Command.{Command}
use Rattle.mon_words.specs.declared.command.Command.TheVariants.{Generate}
use Rattle.mon_words.specs.declared.part.Part.{Part}
use Rattle.mon_words.specs.declared.part.Part.TheVariants.{Trace}

-- a word that doesn't begin with a hyphen
abbrev pub IsPlain : List ℕ → Type 0
IsPlain word = (slice_index word 0 == 45) ≡ false

-- a command with these names, and this epoch where one is given; each other option has its default
abbrev pub plain_values : Command → List (List ℕ) → Option ℕ → Values
plain_values command names epoch = record {
  command = command;
  names = names;
  part = Trace;
  topology = None;
  seed = 1;
  levels = 12;
  rows = 5;
  width = 1024;
  heap = default_heap command;
  bytes = false;
  epoch = epoch;
  heavy = 10;
  nodes = 1024;
  window = 4;
  restarts = 3;
  packets = 200000;
  flows = 20000;
}

-- `generate` with what is made, and each option with its default
abbrev pub plain_part : Part → Values
plain_part part = record (plain_values Generate [] None) { part = part }
