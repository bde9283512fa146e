-- How the values in groups are those of all options.
use Rattle.std.proofs.Common.{◌≡◌, ◌++◌, List, Option, Some, None, Ok, Err, refl, ap, subst, ◌∙◌}
use Rattle.std.specs.Prelude.{find}
use Rattle.std.specs.Option.{option_map, option_map_or, option_or}
use Rattle.std.proofs.lemmas.List.Folds.{find-append}
use Rattle.std.proofs.lemmas.Option.{none-some, same_Some}
use Rattle.clap.specs.Words.{Row}
use Rattle.mon_words.specs.Groups.{told_of}
use Rattle.mon_words.specs.Options.{made_options, search_options, sketch_options}
use Rattle.mon_words.specs.Values.{Explains, first_refused, is_refused, read_of, values_in}
use Rattle.mon_words.specs.declared.command.Command.{Command}
use Rattle.mon_words.specs.declared.opt.Opt.{Opt}
use Rattle.mon_words.specs.declared.usage_fault.UsageFault.TheVariants.{Value}
use Rattle.mon_words.specs.declared.words_fault.WordsFault.{WordsFault}
use Rattle.mon_words.specs.declared.words_fault.WordsFault.TheVariants.{Usage}

-- the first of these options with a value that it doesn't take
abbrev refused_of : Command → List Row → List Opt → Option Opt
refused_of command rows some = find (is_refused command rows) some

-- what is told of an option, where there is one
abbrev told : Option Opt → Option WordsFault
told option = option_map (λ option. Usage (Value option)) option

-- behind options that take their values the first is looked for among the others
past_sketch : (command : Command) (rows : List Row) → refused_of command rows sketch_options ≡ None
    → first_refused command rows ≡ refused_of command rows (search_options ++ made_options)
past_sketch command rows none =
    find-append (is_refused command rows) sketch_options (search_options ++ made_options)
    ∙ ap (λ o. option_or o (refused_of command rows (search_options ++ made_options))) none

past_search : (command : Command) (rows : List Row) → refused_of command rows search_options ≡ None
    → refused_of command rows (search_options ++ made_options) ≡ refused_of command rows made_options
past_search command rows none =
    find-append (is_refused command rows) search_options made_options
    ∙ ap (λ o. option_or o (refused_of command rows made_options)) none

-- the first that is told stands before the others
told_first : (o rest : Option Opt) (fault : WordsFault) → told o ≡ Some fault → told (option_or o rest) ≡ Some fault
told_first None rest fault e = absurd (none-some fault e)
told_first (Some option) rest fault e = e

-- the words are refused for the first option that is told
explains : (command : Command) (rows : List Row) (fault : WordsFault) → told (first_refused command rows) ≡ Some fault
    → Explains (read_of command rows) fault
explains command rows fault = go (first_refused command rows)
  where
    go : (o : Option Opt) → told o ≡ Some fault
        → Explains (option_map_or (λ option. Err (Value option)) o (Ok (values_in command rows))) fault
    go None e = absurd (none-some fault e)
    go (Some option) e = subst (Explains (Err (Value option))) (same_Some _ _ e) refl

pub sketch_told : (command : Command) (rows : List Row) (fault : WordsFault)
    → told_of command rows sketch_options ≡ Some fault → Explains (read_of command rows) fault
sketch_told command rows fault e =
    let rest = search_options ++ made_options in
    explains command rows fault
    (ap told (find-append (is_refused command rows) sketch_options rest)
    ∙ told_first (refused_of command rows sketch_options) (refused_of command rows rest) fault e)

pub search_told : (command : Command) (rows : List Row) (fault : WordsFault)
    → refused_of command rows sketch_options ≡ None → told_of command rows search_options ≡ Some fault
    → Explains (read_of command rows) fault
search_told command rows fault none e =
    explains command rows fault
    (ap told (past_sketch command rows none ∙ find-append (is_refused command rows) search_options made_options)
    ∙ told_first (refused_of command rows search_options) (refused_of command rows made_options) fault e)

pub made_told : (command : Command) (rows : List Row) (fault : WordsFault)
    → refused_of command rows sketch_options ≡ None → refused_of command rows search_options ≡ None
    → told_of command rows made_options ≡ Some fault
    → Explains (read_of command rows) fault
made_told command rows fault none none_of_search e =
    explains command rows fault
    (ap told (past_sketch command rows none ∙ past_search command rows none_of_search) ∙ e)
