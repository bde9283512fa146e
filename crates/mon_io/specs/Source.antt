-- What is left of the stream that is picked.
use Rattle.std.specs.Prelude.{ℕ, List, [], Option, Some}
use Rattle.mon_io.specs.declared.source.Source.{Source}
use Rattle.mon_io.specs.declared.source.Source.TheVariants.{Nothing, File, Standard}

-- the bytes that a source will give from here on, where its stream tells them
abbrev pub source_remaining : {F S : Type 0} → (F → Option (List ℕ)) → (S → Option (List ℕ)) → Source F S
    → Option (List ℕ)
source_remaining of_file of_input Nothing = Some []
source_remaining of_file of_input (File file) = of_file file
source_remaining of_file of_input (Standard input) = of_input input
