-- Where clap takes the words of a command.
use Rattle.std.proofs.Common.{◌≡◌, ◌==◌, ℕ, List, [], ◌∷◌, length, true, false, refl, ap, arith, inl, inr}
use Rattle.std.specs.Prelude.{⊤}
use Rattle.clap.specs.Words.{HasKind, IsAmong, Kinds, fault_of, is_simple, is_simple_and_free, kind_of, matches_of}
use Rattle.clap.specs.declared.error.Error.{Error}
use Rattle.clap.specs.declared.error.kind.ErrorKind.{ErrorKind}
use Rattle.clap.specs.declared.error.kind.ErrorKind.TheVariants as kinds
use Rattle.clap.proofs.OnLiterals.{clap_on_literals}
use Rattle.mon_words.specs.Apps.{app_for, central_app, check_app, child_app, drill_app, generate_app, measure_app, place_app, total_app, with_made_options, with_sketch_options, with_solve_options, with_trace_options}
use Rattle.mon_words.specs.Values.{is_taken, rows_in}
use Rattle.mon_words.specs.declared.command.Command.{Command}
use Rattle.mon_words.specs.declared.command.Command.TheVariants.{Total, Central, Measure, Place, Check, Child, Generate, Drill}

-- unfolds the words of each command
unfoldable pub each_app : ⊤
unfolding total_app central_app measure_app place_app check_app child_app generate_app drill_app with_sketch_options with_trace_options with_solve_options with_made_options
each_app = tt

-- clap's clauses on these commands are exact
pub is_exact : (command : Command) → is_simple_and_free (app_for command) ≡ true
unfolding clap_on_literals each_app
is_exact Total = refl
is_exact Central = refl
is_exact Measure = refl
is_exact Place = refl
is_exact Check = refl
is_exact Child = refl
is_exact Generate = refl
is_exact Drill = refl

pub is_known : (command : Command) → is_simple (app_for command) ≡ true
unfolding clap_on_literals each_app
is_known Total = refl
is_known Central = refl
is_known Measure = refl
is_known Place = refl
is_known Check = refl
is_known Child = refl
is_known Generate = refl
is_known Drill = refl

pub taken : (command : Command) (words : List (List ℕ)) → fault_of (app_for command) words ≡ []
    → is_taken command words ≡ true
unfolding is_taken
taken command words none = ap (λ (faults : Kinds). length faults == 0) none

some_kind : (kind : ErrorKind) (faults : Kinds) → IsAmong kind faults → (length faults == 0) ≡ false
some_kind kind [] among = absurd among
some_kind kind (fault ∷ faults) among = grind arith

pub not_taken : (command : Command) (words : List (List ℕ)) (error : Error)
    → HasKind (fault_of (app_for command) words) error
    → (kind_of error ≡ kinds.OutOfMemory → ⊥) → is_taken command words ≡ false
unfolding is_taken
not_taken command words error (inl memory) other = absurd (other memory)
not_taken command words error (inr among) other = some_kind (kind_of error) (fault_of (app_for command) words) among

pub read : (command : Command) (words : List (List ℕ)) → matches_of (app_for command) words ≡ rows_in command words
unfolding rows_in
read command words = refl
