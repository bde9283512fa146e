-- What plain words ask for.
use Rattle.std.proofs.Common.{◌≡◌, ◌<◌, ◌≤◌, ◌^◌, ℕ, Bool, List, [], ◌∷◌, length, None, Some, Ok, true, false, codes, refl, ap, subst, ◌∙◌, arith}
use Rattle.std.specs.Prelude.{bytes_eq}
use Rattle.std.specs.Char.{is_ascii_digit}
use Rattle.std.specs.Fmt.{decimal}
use Rattle.std.specs.List.{list_all}
use Rattle.std.specs.Str.Parse.{digits_value}
use Rattle.std.proofs.lemmas.Bool.{false≢true}
use Rattle.std.proofs.lemmas.Bool.Decides.{nat_tests}
use Rattle.std.proofs.lemmas.Fmt.{decimal_nonempty, digits_decimal, digits_value-decimal, length-decimal-le}
use borrow.Author.Tests.{ne_eqb}
use Rattle.clap.specs.Lexer.{long_of, short_of}
use Rattle.clap.specs.Words.{Row, first_of}
use Rattle.clap.proofs.OnLiterals.{clap_on_literals}
use Rattle.mon_words.specs.Apps.{central_app, check_app, child_app, drill_app, generate_app, measure_app, place_app, total_app, with_made_options, with_sketch_options, with_solve_options, with_trace_options}
use Rattle.mon_words.specs.Options.{id_of, takes}
use Rattle.mon_words.specs.Plain.{IsPlain, plain_part, plain_values}
use Rattle.mon_words.specs.Values.{is_taken, read_of, rest_of, rows_in, words_of}
use Rattle.mon_words.specs.declared.command.Command.TheVariants.{Total, Central, Measure, Place, Check, Child, Drill}
use Rattle.mon_words.specs.declared.part.Part.TheVariants.{Trace, Topology}
use Rattle.mon_words.proofs.Numerals.{own}
use Rattle.mon_words.specs.declared.opt.Opt.TheVariants.{Seed, Levels, Rows, Width, Heap, Weight, Epoch, Heavy, Nodes, Window, Restarts, Packets, Flows, Part}

long_none : (byte : ℕ) (word : List ℕ) → IsPlain (byte ∷ word) → long_of (byte ∷ word) ≡ None
long_none byte word plain = rw plain refl

short_none : (byte : ℕ) (word : List ℕ) → IsPlain (byte ∷ word) → short_of (byte ∷ word) ≡ None
short_none byte word plain = rw plain refl

no_escape : (byte : ℕ) (word : List ℕ) → IsPlain (byte ∷ word) → bytes_eq (byte ∷ word) (45 ∷ 45 ∷ []) ≡ false
no_escape byte word plain = rw plain refl

pub total_plain : (all : Bool) (name : List ℕ) → IsPlain name
    → words_of all (codes "total" ∷ name ∷ []) ≡ Ok (plain_values Total (name ∷ []) None)
unfolding is_taken rows_in clap_on_literals total_app
total_plain all [] plain = refl
total_plain all (byte ∷ name) plain =
    rw (no_escape byte name plain, long_none byte name plain, short_none byte name plain) refl

pub central_plain : (all : Bool) (name : List ℕ) → IsPlain name
    → words_of all (codes "central" ∷ name ∷ []) ≡ Ok (plain_values Central (name ∷ []) None)
unfolding is_taken rows_in clap_on_literals central_app with_sketch_options with_trace_options
central_plain all [] plain = refl
central_plain all (byte ∷ name) plain =
    rw (no_escape byte name plain, long_none byte name plain, short_none byte name plain) refl

pub check_plain : (all : Bool) (topology tree : List ℕ) → IsPlain topology → IsPlain tree
    → words_of all (codes "check" ∷ topology ∷ tree ∷ []) ≡ Ok (plain_values Check (topology ∷ tree ∷ []) None)
unfolding is_taken rows_in clap_on_literals check_app
check_plain all [] [] p q = refl
check_plain all [] (b ∷ tree) p q = rw (no_escape b tree q, long_none b tree q, short_none b tree q) refl
check_plain all (a ∷ topology) [] p q = rw (no_escape a topology p, long_none a topology p, short_none a topology p) refl
check_plain all (a ∷ topology) (b ∷ tree) p q =
    rw (
      no_escape a topology p,
      long_none a topology p,
      short_none a topology p,
      no_escape b tree q,
      long_none b tree q,
      short_none b tree q,
    ) refl

-- what clap reads in a name and a value of the epoch
record HasEpoch (rows : List Row) (name value : List ℕ) : Type 0 where
  name_is : first_of (codes "TRACE") rows ≡ Some name
  value_is : first_of (id_of Epoch) rows ≡ Some value
  no_topology : first_of (codes "topology") rows ≡ None
  no_seed : first_of (id_of Seed) rows ≡ None
  no_levels : first_of (id_of Levels) rows ≡ None
  no_rows : first_of (id_of Rows) rows ≡ None
  no_width : first_of (id_of Width) rows ≡ None
  no_heap : first_of (id_of Heap) rows ≡ None
  no_weight : first_of (id_of Weight) rows ≡ None
  no_heavy : first_of (id_of Heavy) rows ≡ None
  no_nodes : first_of (id_of Nodes) rows ≡ None
  no_window : first_of (id_of Window) rows ≡ None
  no_restarts : first_of (id_of Restarts) rows ≡ None
  no_packets : first_of (id_of Packets) rows ≡ None
  no_flows : first_of (id_of Flows) rows ≡ None
  no_part : first_of (id_of Part) rows ≡ None

abbrev epoch_words : List ℕ → List ℕ → List (List ℕ)
epoch_words name value = name ∷ codes "--epoch" ∷ value ∷ []

has_epoch : (a : ℕ) (name : List ℕ) (b : ℕ) (value : List ℕ) → IsPlain (a ∷ name) → IsPlain (b ∷ value)
    → HasEpoch (rows_in Central (epoch_words (a ∷ name) (b ∷ value))) (a ∷ name) (b ∷ value)
unfolding rows_in clap_on_literals central_app with_sketch_options with_trace_options
has_epoch a name b value p q =
    rw (
      no_escape a name p,
      long_none a name p,
      short_none a name p,
      no_escape b value q,
      long_none b value q,
      short_none b value q,
    )
    (record {
      name_is = refl;
      value_is = refl;
      no_topology = refl;
      no_seed = refl;
      no_levels = refl;
      no_rows = refl;
      no_width = refl;
      no_heap = refl;
      no_weight = refl;
      no_heavy = refl;
      no_nodes = refl;
      no_window = refl;
      no_restarts = refl;
      no_packets = refl;
      no_flows = refl;
      no_part = refl;
    })

has_epoch_nameless : (b : ℕ) (value : List ℕ) → IsPlain (b ∷ value)
    → HasEpoch (rows_in Central (epoch_words [] (b ∷ value))) [] (b ∷ value)
unfolding rows_in clap_on_literals central_app with_sketch_options with_trace_options
has_epoch_nameless b value q =
    rw (no_escape b value q, long_none b value q, short_none b value q)
    (record {
      name_is = refl;
      value_is = refl;
      no_topology = refl;
      no_seed = refl;
      no_levels = refl;
      no_rows = refl;
      no_width = refl;
      no_heap = refl;
      no_weight = refl;
      no_heavy = refl;
      no_nodes = refl;
      no_window = refl;
      no_restarts = refl;
      no_packets = refl;
      no_flows = refl;
      no_part = refl;
    })

taken_epoch : (a : ℕ) (name : List ℕ) (b : ℕ) (value : List ℕ) → IsPlain (a ∷ name) → IsPlain (b ∷ value)
    → is_taken Central (epoch_words (a ∷ name) (b ∷ value)) ≡ true
unfolding is_taken clap_on_literals central_app with_sketch_options with_trace_options
taken_epoch a name b value p q =
    rw (
      no_escape a name p,
      long_none a name p,
      short_none a name p,
      no_escape b value q,
      long_none b value q,
      short_none b value q,
    ) refl

taken_nameless : (b : ℕ) (value : List ℕ) → IsPlain (b ∷ value) → is_taken Central (epoch_words [] (b ∷ value)) ≡ true
unfolding is_taken clap_on_literals central_app with_sketch_options with_trace_options
taken_nameless b value q = rw (no_escape b value q, long_none b value q, short_none b value q) refl

read_epoch : (rows : List Row) (name value : List ℕ) → HasEpoch rows name value → takes Central Epoch value ≡ true
    → read_of Central rows ≡ Ok (plain_values Central (name ∷ []) (Some (digits_value 10 value)))
read_epoch rows name value has taken =
    rw (
      has.name_is,
      has.value_is,
      has.no_topology,
      has.no_seed,
      has.no_levels,
      has.no_rows,
      has.no_width,
      has.no_heap,
      has.no_weight,
      has.no_heavy,
      has.no_nodes,
      has.no_window,
      has.no_restarts,
      has.no_packets,
      has.no_flows,
      has.no_part,
    )
    (rw taken refl)

rest_epoch : (words : List (List ℕ)) (name value : List ℕ) → is_taken Central words ≡ true
    → HasEpoch (rows_in Central words) name value
    → takes Central Epoch value ≡ true
    → rest_of Central words ≡ Ok (plain_values Central (name ∷ []) (Some (digits_value 10 value)))
rest_epoch words name value taken has right = rw taken (read_epoch (rows_in Central words) name value has right)

-- a name, and a value of the epoch that is taken
epoch_value : (all : Bool) (name value : List ℕ) → IsPlain name → IsPlain value → 0 < length value → takes Central Epoch value ≡ true
    → words_of all (codes "central" ∷ epoch_words name value)
    ≡ Ok (plain_values Central (name ∷ []) (Some (digits_value 10 value)))
epoch_value all name [] p q some right = absurd (omega (arith, some))
epoch_value all [] (b ∷ value) p q some right =
    rest_epoch _ _ _ (taken_nameless b value q) (has_epoch_nameless b value q) right
epoch_value all (a ∷ name) (b ∷ value) p q some right =
    rest_epoch _ _ _ (taken_epoch a name b value p q) (has_epoch a name b value p q) right

-- seconds as digits
plain_digits : (digits : List ℕ) → list_all is_ascii_digit digits ≡ true → IsPlain digits
plain_digits [] all = refl
plain_digits (d ∷ digits) all =
    ne_eqb d 45
    (λ same. let bad : is_ascii_digit 45 ≡ true = subst (λ n. is_ascii_digit n ≡ true) same
    (grind (arith, nat_tests)) in false≢true bad)

seconds_taken : (seconds : ℕ) → 1 ≤ seconds → seconds < 2 ^ 32 → takes Central Epoch (decimal seconds) ≡ true
seconds_taken seconds some fits =
    let all = digits_decimal own seconds (omega (arith, fits)) in
    let value = digits_value-decimal own seconds (omega (arith, fits)) in
    let short = length-decimal-le 20 seconds (omega arith) (omega (arith, fits)) (omega (arith, fits)) in
    let long = decimal_nonempty seconds (omega (arith, fits)) in
    grind (arith, nat_tests)

pub epoch_plain : (all : Bool) (name : List ℕ) (seconds : ℕ) → IsPlain name → 1 ≤ seconds → seconds < 2 ^ 32
    → words_of all (codes "central" ∷ name ∷ codes "--epoch" ∷ decimal seconds ∷ [])
    ≡ Ok (plain_values Central (name ∷ []) (Some seconds))
epoch_plain all name seconds plain some fits =
    let small : seconds < 2 ^ 64 = omega (arith, fits) in
    epoch_value all name (decimal seconds) plain (plain_digits (decimal seconds) (digits_decimal own seconds small))
    (decimal_nonempty seconds small) (seconds_taken seconds some fits)
    ∙ ap (λ n. Ok (plain_values Central (name ∷ []) (Some n))) (digits_value-decimal own seconds small)

pub child_plain : (all : Bool) → words_of all (codes "child" ∷ []) ≡ Ok (plain_values Child [] None)
unfolding is_taken rows_in clap_on_literals child_app
child_plain all = refl

pub place_plain : (name : List ℕ) → IsPlain name
    → words_of true (codes "place" ∷ name ∷ []) ≡ Ok (plain_values Place (name ∷ []) None)
unfolding is_taken rows_in clap_on_literals place_app with_solve_options
place_plain [] plain = refl
place_plain (byte ∷ name) plain =
    rw (no_escape byte name plain, long_none byte name plain, short_none byte name plain) refl

pub measure_plain : (topology trace : List ℕ) → IsPlain topology → IsPlain trace
    → words_of true (codes "measure" ∷ topology ∷ trace ∷ []) ≡ Ok (plain_values Measure (topology ∷ trace ∷ []) None)
unfolding is_taken rows_in clap_on_literals measure_app with_sketch_options with_trace_options with_solve_options
measure_plain [] [] p q = refl
measure_plain [] (b ∷ trace) p q = rw (no_escape b trace q, long_none b trace q, short_none b trace q) refl
measure_plain (a ∷ topology) [] p q = rw (no_escape a topology p, long_none a topology p, short_none a topology p) refl
measure_plain (a ∷ topology) (b ∷ trace) p q =
    rw (
      no_escape a topology p,
      long_none a topology p,
      short_none a topology p,
      no_escape b trace q,
      long_none b trace q,
      short_none b trace q,
    ) refl

pub drill_plain : words_of true (codes "drill" ∷ []) ≡ Ok (plain_values Drill [] None)
unfolding is_taken rows_in clap_on_literals drill_app with_sketch_options with_trace_options with_solve_options with_made_options
drill_plain = refl

pub trace_plain : (all : Bool) → words_of all (codes "generate" ∷ codes "trace" ∷ []) ≡ Ok (plain_part Trace)
unfolding is_taken rows_in clap_on_literals generate_app with_made_options
trace_plain all = refl

pub topology_plain : (all : Bool) → words_of all (codes "generate" ∷ codes "topology" ∷ []) ≡ Ok (plain_part Topology)
unfolding is_taken rows_in clap_on_literals generate_app with_made_options
topology_plain all = refl
