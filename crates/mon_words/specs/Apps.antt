-- The words that each command takes, as a definition of the crate clap.
use Rattle.std.specs.Prelude.{true, List, [], ◌∷◌, Some, ℕ, codes}
use Rattle.clap.specs.Words.{App, Rule, new_app, new_rule, with_rule}
use Rattle.clap.specs.declared.builder.action.ArgAction.TheVariants.{Set}
use Rattle.mon_words.specs.declared.command.Command.{Command}
use Rattle.mon_words.specs.declared.command.Command.TheVariants.{Total, Central, Measure, Place, Check, Child, Generate, Drill}

-- a word that has to stand in its place
abbrev pub name_rule : List ℕ → Rule
name_rule id = record (new_rule id) { action = Some Set; required = true }

-- a value that may be given behind two dashes and this id
abbrev pub option_rule : List ℕ → Rule
option_rule id = record (new_rule id) { long = Some id; action = Some Set }

-- a command without a program's name before its words and without a flag of help
abbrev pub bare_app : List ℕ → App
bare_app name =
    let app = new_app name in record app { top = record app.top { no_binary_name = true; disable_help_flag = true } }

abbrev pub with_name : List ℕ → App → App
with_name id app = with_rule app (name_rule id)

abbrev pub with_option : List ℕ → App → App
with_option id app = with_rule app (option_rule id)

-- `total` takes the name of a trace alone
unfoldable pub total_app : App
total_app = with_name (codes "TRACE") (bare_app (codes "total"))

-- the ids of the options of a sketch
abbrev pub sketch_ids : List (List ℕ)
sketch_ids =
    codes "seed" ∷ codes "levels" ∷ codes "rows" ∷ codes "width" ∷ codes "heap" ∷ codes "weight" ∷ []

-- the ids of the options of epochs and of heavy keys
abbrev pub trace_ids : List (List ℕ)
trace_ids = codes "epoch" ∷ codes "heavy" ∷ []

-- the ids of the options of a search
abbrev pub solve_ids : List (List ℕ)
solve_ids = codes "nodes" ∷ codes "window" ∷ codes "restarts" ∷ []

-- the ids of the options of a made trace
abbrev pub made_ids : List (List ℕ)
made_ids = codes "packets" ∷ codes "flows" ∷ []

-- the options of a sketch
unfoldable pub with_sketch_options : App → App
with_sketch_options app =
    with_option (codes "weight") (with_option (codes "heap") (with_option (codes "width")
    (with_option (codes "rows") (with_option (codes "levels") (with_option (codes "seed") app)))))

-- the options of epochs and of heavy keys
unfoldable pub with_trace_options : App → App
with_trace_options app = with_option (codes "heavy") (with_option (codes "epoch") app)

-- the options of a search
unfoldable pub with_solve_options : App → App
with_solve_options app = with_option (codes "restarts") (with_option (codes "window") (with_option (codes "nodes") app))

-- the options of a made trace
unfoldable pub with_made_options : App → App
with_made_options app = with_option (codes "flows") (with_option (codes "packets") app)

-- `central` takes the name of a trace, and the options of a sketch, of a trace and of a topology
unfoldable pub central_app : App
central_app =
    with_option (codes "topology")
    (with_trace_options (with_sketch_options (with_name (codes "TRACE") (bare_app (codes "central")))))

-- `measure` takes the names of a topology and of a trace, and the options of a sketch, of a trace and of a search
unfoldable pub measure_app : App
measure_app =
    with_solve_options (with_trace_options (with_sketch_options
    (with_name (codes "TRACE") (with_name (codes "TOPOLOGY") (bare_app (codes "measure"))))))

-- `check` takes the names of a topology and of a tree
unfoldable pub check_app : App
check_app = with_name (codes "TREE") (with_name (codes "TOPOLOGY") (bare_app (codes "check")))

-- `child` takes no word
unfoldable pub child_app : App
child_app = bare_app (codes "child")

-- `place` takes the name of a topology, and options of a search
unfoldable pub place_app : App
place_app = with_solve_options (with_name (codes "TOPOLOGY") (bare_app (codes "place")))

-- `generate` takes what is made, a seed, and the options of a made trace
unfoldable pub generate_app : App
generate_app =
    with_made_options (with_option (codes "seed") (with_name (codes "PART") (bare_app (codes "generate"))))

-- `drill` takes the options of `measure` and of a made trace
unfoldable pub drill_app : App
drill_app =
    with_made_options (with_solve_options (with_trace_options (with_sketch_options (bare_app (codes "drill")))))

-- the ids of the names that a command takes, in order
abbrev pub name_ids : Command → List (List ℕ)
name_ids Total = codes "TRACE" ∷ []
name_ids Central = codes "TRACE" ∷ []
name_ids Measure = codes "TOPOLOGY" ∷ codes "TRACE" ∷ []
name_ids Place = codes "TOPOLOGY" ∷ []
name_ids Check = codes "TOPOLOGY" ∷ codes "TREE" ∷ []
name_ids Child = []
name_ids Generate = []
name_ids Drill = []

-- the ids of the words that have to be given: the names, and for `generate` what is made
abbrev pub required_ids : Command → List (List ℕ)
required_ids Generate = codes "PART" ∷ []
required_ids command = name_ids command

-- the words behind each command
abbrev pub app_for : Command → App
app_for Total = total_app
app_for Central = central_app
app_for Measure = measure_app
app_for Place = place_app
app_for Check = check_app
app_for Child = child_app
app_for Generate = generate_app
app_for Drill = drill_app
