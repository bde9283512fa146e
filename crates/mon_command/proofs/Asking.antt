-- How want of memory answers whatever words ask for, and how a placement is answered.
use Rattle.std.proofs.Common.{◌≡◌, ℕ, Bool, true, false, List, [], ◌∷◌, append-nil, bytes_eq, codes, Option, None, Some, Result, Ok, Err, slice_index_or, String, Global, length, map, string_bytes, ◌<◌, refl, sym, ◌∙◌, ap, subst, inl, inr, if◌then◌else◌}
use Rattle.std.proofs.lemmas.List.{get_or-map}
use Rattle.std.specs.Option.{option_map_or}
use Rattle.mon_generate.specs.Duty.{generate_duty}
use Rattle.mon_io.specs.Inputs.{InputState, Picked, PickedNothing}
use Rattle.mon_io.specs.Sink.{SinkState}
use Rattle.mon_call.specs.Call.{Answers, Call, IsSilent, Picks, PickedSome, call_of, names_of}
use Rattle.mon_call.specs.CrewCall.{CrewCall, IsIdle}
use Rattle.mon_call.specs.Setting.{setting_in}
use Rattle.mon_call.specs.declared.setting.Setting.{Setting}
use Rattle.mon_call.specs.declared.status.Status.{Status}
use Rattle.mon_call.specs.declared.status.Status.TheVariants.{Memory, Usage}
use Rattle.mon_place.specs.Place.{PlaceAnswers, place_reads, solving_in}
use Rattle.mon_words.specs.Values.{Values, first_refused, is_taken, read_of, rest_of, rows_in, starts_children, values_in}
use Rattle.mon_words.specs.declared.command.Command.{Command}
use Rattle.mon_words.specs.declared.command.Command.TheVariants as commands
use Rattle.mon_words.specs.declared.opt.Opt.{Opt}
use Rattle.mon_words.specs.declared.usage_fault.UsageFault.{UsageFault}
use Rattle.mon_words.specs.declared.usage_fault.UsageFault.TheVariants as faults
use Rattle.solve_phase.specs.Solving.{IsSolving}
use Rattle.solve_phase.specs.declared.solving.Solving.{Solving}
use Rattle.measure_answers.specs.Measure.{measure_reads}
use Rattle.mon_drill.proofs.Wanting.{drill_wanting}
use Rattle.mon_command.specs.Asked.{Asked, Alone, Place, Measure, Drill, asked_by, asked_in, asked_of, asked_when}
use Rattle.mon_command.specs.Outcome.{CrewOutcome, Drilled, Measured, Outcome, reads_of}

-- no command is asked for that starts children
abbrev IsAlone : Result Asked UsageFault → Type 0
IsAlone (Ok (Place topology solving)) = ⊥
IsAlone (Ok (Measure topology trace setting solving)) = ⊥
IsAlone (Ok (Drill packets flows setting solving)) = ⊥
IsAlone _ = Unit {0}

alone_by : (command : Command) (values : Values) → starts_children command ≡ false
    → IsAlone (Ok (asked_by command values))
alone_by commands.Place values starts = absurd (cc)
alone_by commands.Measure values starts = absurd (cc)
alone_by commands.Drill values starts = absurd (cc)
alone_by _ values starts = tt

alone_read : (refused : Option Opt) (values : Values) → starts_children values.command ≡ false
    → IsAlone (asked_when (option_map_or (λ option. Err (faults.Value option)) refused (Ok values)))
alone_read (Some option) values starts = tt
alone_read None values starts = alone_by values.command values starts

alone_rest : (command : Command) → starts_children command ≡ false → (taken : Bool) (words : List (List ℕ))
    → IsAlone (asked_when (if taken then read_of command (rows_in command words) else Err faults.Refused))
alone_rest command starts true words =
    alone_read (first_refused command (rows_in command words)) (values_in command (rows_in command words)) starts
alone_rest command starts false words = tt

-- a command that starts nobody, by the tests of its word
alone_named : (total central check child generate : Bool) (words : List (List ℕ))
    → IsAlone (asked_when (option_map_or (λ command. rest_of command words)
    (if total then Some commands.Total else if central then Some commands.Central else if check then Some commands.Check
    else if child then Some commands.Child else if generate then Some commands.Generate else None)
    (Err faults.UnknownCommand)))
alone_named true central check child generate words =
    alone_rest commands.Total refl (is_taken commands.Total words) words
alone_named false true check child generate words =
    alone_rest commands.Central refl (is_taken commands.Central words) words
alone_named false false true child generate words =
    alone_rest commands.Check refl (is_taken commands.Check words) words
alone_named false false false true generate words =
    alone_rest commands.Child refl (is_taken commands.Child words) words
alone_named false false false false true words =
    alone_rest commands.Generate refl (is_taken commands.Generate words) words
alone_named false false false false false words = tt

alone_asked : (words : List (List ℕ)) → IsAlone (asked_of false words)
alone_asked [] = tt
alone_asked (word ∷ words) =
    alone_named (bytes_eq word (codes "total")) (bytes_eq word (codes "central")) (bytes_eq word (codes "check"))
    (bytes_eq word (codes "child")) (bytes_eq word (codes "generate")) words

-- none of these names was picked
picked_none : (before after : List (List ℕ) → Type 0) (names : List (List ℕ)) → PickedNothing before after
    → PickedSome before after names
picked_none before after names none = record {
  front = [];
  back = names;
  parts = refl;
  picked = λ earlier stood.
      subst (λ (picked : List (List ℕ)). after picked) (sym (append-nil earlier)) (none earlier stood);
}

-- want of memory answers anything but a placement, where no child can be started
wanting : (before after : List (List ℕ) → Type 0) (read : Result Asked UsageFault) (call : Call) → IsAlone read
    → IsSilent call → PickedNothing before after → Outcome before after read call Memory
wanting before after (Ok (Alone asked)) call alone silent none =
    record { answers = silent; picks = picked_none before after (names_of (reads_of asked)) none }
wanting before after (Ok (Place topology solving)) call alone silent none = absurd alone
wanting before after (Ok (Measure topology trace setting solving)) call alone silent none = absurd alone
wanting before after (Ok (Drill packets flows setting solving)) call alone silent none = absurd alone
wanting before after (Err fault) call alone silent none = record { told = inr refl; silent = silent; none = none }

pub alone_wanting : (before after : List (List ℕ) → Type 0) (words : List (List ℕ)) (call : Call) → IsSilent call
    → PickedNothing before after → Outcome before after (asked_of false words) call Memory
alone_wanting before after words call silent none =
    wanting before after (asked_of false words) call (alone_asked words) silent none

-- and anything where the crew is as it was
pub crew_wanting : (before after : List (List ℕ) → Type 0) (read : Result Asked UsageFault) (c : CrewCall) → IsIdle c
    → IsSilent c.call → c.call.inputs_after ≡ c.call.inputs → PickedNothing before after → CrewOutcome before after read c Memory
crew_wanting before after (Ok (Alone asked)) c idle silent unread none =
    (record { answers = silent; picks = picked_none before after (names_of (reads_of asked)) none }, idle)
crew_wanting before after (Ok (Place topology solving)) c idle silent unread none = record {
  limits = inl idle;
  answers = (inl idle, silent);
  picks = picked_none before after (names_of (place_reads topology)) none;
}
crew_wanting before after (Ok (Measure topology trace setting solving)) c idle silent unread none = record {
  limits = inl idle;
  answers = inl (inl idle, silent);
  picks = picked_none before after (names_of (measure_reads topology trace)) none;
}
crew_wanting before after (Ok (Drill packets flows setting solving)) c idle silent unread none = record {
  limits = inl idle;
  drills = drill_wanting packets flows setting solving c.crew c.crew_after c.call.sink c.call.sink_after idle silent;
  none = none;
  stays = unread;
}
crew_wanting before after (Err fault) c idle silent unread none =
    (record { told = inr refl; silent = silent; none = none }, idle)

-- a placement that words ask for
placed_by : (before after : List (List ℕ) → Type 0) (command : Command) (values : Values) (c : CrewCall)
    (status : Status)
    → command ≡ commands.Place → IsSolving (solving_in values)
    → PlaceAnswers (c.call.inputs.contents (slice_index_or values.names 0 [])) (solving_in values) c status
    → Picks before after (place_reads (slice_index_or values.names 0 [])) status
    → CrewOutcome before after (Ok (asked_by command values)) c status
placed_by before after command values c status is limits answers picks =
    subst (λ (k : Command). CrewOutcome before after (Ok (asked_by k values)) c status) (sym is)
    (record { limits = inr limits; answers = answers; picks = picks })

pub placed_in : (before after : List (List ℕ) → Type 0) (values : Values) (c : CrewCall) (status : Status)
    (topology : List ℕ) (solving : Solving)
    → values.command ≡ commands.Place → topology ≡ slice_index_or values.names 0 [] → solving ≡ solving_in values
    → IsSolving solving → PlaceAnswers (c.call.inputs.contents topology) solving c status
    → Picks before after (place_reads topology) status → CrewOutcome before after (Ok (asked_in values)) c status
placed_in before after values c status topology solving is named numbers limits answers picks =
    placed_by before after values.command values c status is (subst (λ (s : Solving). IsSolving s) numbers limits)
    (subst (λ (name : List ℕ). PlaceAnswers (c.call.inputs.contents name) (solving_in values) c status) named
    (subst (λ (s : Solving). PlaceAnswers (c.call.inputs.contents topology) s c status) numbers answers))
    (subst (λ (name : List ℕ). Picks before after (place_reads name) status) named picks)

-- a measure of files that words ask for
pub measured_in : (before after : List (List ℕ) → Type 0) (values : Values) (c : CrewCall) (status : Status)
    (topology trace : List ℕ) (setting : Setting) (solving : Solving)
    → values.command ≡ commands.Measure → topology ≡ slice_index_or values.names 0 []
    → trace ≡ slice_index_or values.names 1 [] → setting ≡ setting_in values → solving ≡ solving_in values
    → Measured before after topology trace setting solving c status
    → CrewOutcome before after (Ok (asked_in values)) c status
measured_in before after values c status topology trace setting solving is named traced settles numbers measured =
    subst (λ (k : Command). CrewOutcome before after (Ok (asked_by k values)) c status) (sym is)
    (subst (λ (s : Solving). Measured before after (slice_index_or values.names 0 []) (slice_index_or values.names 1 [])
    (setting_in values) s c status) numbers
    (subst (λ (s : Setting). Measured before after (slice_index_or values.names 0 []) (slice_index_or values.names 1 [])
    s solving c status) settles
    (subst (λ (name : List ℕ). Measured before after (slice_index_or values.names 0 []) name setting solving c status)
    traced (subst (λ (name : List ℕ). Measured before after name trace setting solving c status) named measured))))

-- a measure of what is made that words ask for
pub drilled_in : (before after : List (List ℕ) → Type 0) (values : Values) (c : CrewCall) (status : Status)
    → values.command ≡ commands.Drill
    → Drilled before after values.packets values.flows (setting_in values) (solving_in values) c status
    → CrewOutcome before after (Ok (asked_in values)) c status
drilled_in before after values c status is drilled =
    subst (λ (k : Command). CrewOutcome before after (Ok (asked_by k values)) c status) (sym is) drilled

-- what reads nothing has picked nothing
picked_nothing : (before : List (List ℕ) → Type 0) → Picked before before []
picked_nothing before = λ earlier stood.
    subst (λ (picked : List (List ℕ)). before picked) (sym (append-nil earlier)) stood

reads_nothing : (before : List (List ℕ) → Type 0) (status : Status) → Picks before before [] status
reads_nothing before (Usage fault) = λ earlier stood. stood
reads_nothing before Memory = picked_none before before [] (λ earlier stood. stood)
reads_nothing before _ = picked_nothing before

-- what is made that words ask for
pub made_in : (before : List (List ℕ) → Type 0) (values : Values) (inputs : InputState) (sink sink_after : SinkState)
    (status : Status) → values.command ≡ commands.Generate
    → Answers (generate_duty values.part values.seed values.packets values.flows) (call_of inputs inputs sink sink_after)
    status → Outcome before before (Ok (asked_in values)) (call_of inputs inputs sink sink_after) status
made_in before values inputs sink sink_after status is answers =
    subst (λ (k : Command). Outcome before before (Ok (asked_by k values)) (call_of inputs inputs sink sink_after) status)
    (sym is) (record { answers = answers; picks = reads_nothing before status })

-- the bytes of a name at a place
pub name_at : (names : List (String Global)) (place : ℕ) (name : String Global) → place < length names
    → name ≡ slice_index_or names place name
    → string_bytes name ≡ slice_index_or (map string_bytes names) place []
name_at names place name within read =
    sym (get_or-map string_bytes names place name [] within ∙ ap string_bytes (sym read))
