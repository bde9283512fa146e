-- What a command of clap asks of every call.
use Rattle.std.specs.Prelude.{◌≡◌, ◌<◌, ℕ, List, length, true, false, bytes_eq}
use Rattle.std.specs.List.{AllByRecursion, slice_index_or}
use Rattle.clap.specs.Built.{TakesValue}
use Rattle.clap.specs.Words.{IsPlain, args_of}
use Rattle.clap.specs.declared.builder.arg.Arg.{Arg}
use Rattle.clap.specs.declared.builder.command.Command.{Command}
use Rattle.clap.specs.declared.builder.command.Command.TheViews.{out-Command}

-- nothing lifts the need of an argument
pub record IsStrict (app : Command) : Type 0 where
  pub plain : IsPlain app
  pub local : (out-Command app).has_globals ≡ false
  pub alone : (out-Command app).subcommand_negates_reqs ≡ false

-- no argument of the list has this id
abbrev pub IsFresh : List ℕ → List Arg → Type 0
IsFresh id args = (k : ℕ) (d : Arg) → k < length args → bytes_eq (slice_index_or args k d).id.now id ≡ false

-- none of these ids is this one
abbrev pub AreOther : List (List ℕ) → List ℕ → Type 0
AreOther ids id = AllByRecursion (λ other. bytes_eq other id ≡ false) ids

-- one argument alone has this id, and it has to be given with a value
pub record Needs (id : List ℕ) (app : Command) : Type 0 where
  pub place : ℕ
  pub within : place < length (args_of app)
  pub named : (d : Arg) → (slice_index_or (args_of app) place d).id.now ≡ id
  pub taken : (d : Arg) → TakesValue (slice_index_or (args_of app) place d)
  pub only : (k : ℕ) (d : Arg) → k < length (args_of app)
      → bytes_eq (slice_index_or (args_of app) k d).id.now id ≡ true → k ≡ place

-- each of these ids is needed
abbrev pub NeedsEach : List (List ℕ) → Command → Type 0
NeedsEach ids app = AllByRecursion (λ id. Needs id app) ids
