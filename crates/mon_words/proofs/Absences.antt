-- What a parse does not give.
use Rattle.std.proofs.Common.{◌≡◌, ◌<◌, ℕ, zero, suc, List, [], ◌∷◌, length, map, Bool, true, false, not, ◌&&◌, ◌||◌, true≢false, refl, sym, ap, subst, ◌∙◌, arith, inl, inr, codes, Option, Some, None}
use Rattle.std.specs.Borrow.{Bor}
use Rattle.std.specs.Prelude.{bytes_eq, option_map, slice_get}
use Rattle.std.specs.List.{list_all, slice_index_or}
use Rattle.std.proofs.lemmas.Bool.{cases_lt}
use Rattle.std.proofs.lemmas.List.Sums.{AllPass-from_list_all}
use Rattle.std.proofs.lemmas.Slice.Eq.{bytes_eq-Decides}
use Rattle.clap.specs.Built.{IsAuto, IsParsedFrom}
use Rattle.clap.specs.Facts.{EntryPasses}
use Rattle.clap.specs.Words.{App, Rule, app_of, args_of, first_of, first_value, found_of, groups_of, matched_of, rows_of, rule_of}
use Rattle.clap.specs.declared.builder.arg.Arg.{Arg}
use Rattle.clap.specs.declared.builder.command.Command.{Command}
use Rattle.clap.specs.declared.parser.matches.ArgMatches.{ArgMatches}
use Rattle.clap.specs.declared.parser.matches.MatchedArg.{MatchedArg}
use Rattle.clap.proofs.CallerLemmas.{entry_by_id}
use Rattle.clap.proofs.WalkLemmas.{first_value-rows}
use Rattle.mon_words.specs.Apps.{app_for}
use Rattle.mon_words.specs.Needs.{IsFresh, IsStrict}
use Rattle.mon_words.specs.Options.{id_of, options}
use Rattle.mon_words.specs.Values.{IsBare, takes_option, takes_topology}
use Rattle.mon_words.specs.declared.command.Command as words
use Rattle.mon_words.specs.declared.command.Command.TheVariants.{Total, Central, Measure, Place, Check, Child, Generate, Drill}
use Rattle.mon_words.specs.declared.opt.Opt.{Opt}
use Rattle.mon_words.proofs.Arguments.{differs}
use Rattle.mon_words.proofs.Refusals.{each_app}
use Rattle.mon_words.specs.declared.opt.Opt.TheVariants.{Seed, Levels, Rows, Width, Heap, Weight, Epoch, Heavy, Nodes, Window, Restarts, Packets, Flows, Part}

no_first : (xs : List (Bor (List ℕ))) → ((y : Bor (List ℕ)) → 0 < length xs → ⊥)
    → option_map (λ s. s.now) (slice_get xs 0) ≡ None
no_first [] none = refl
no_first (x ∷ xs) none = absurd (none x (omega arith))

-- an id that no argument has, and neither flag of clap's own, has no value
pub no_value : (app : Command) (m : ArgMatches) (id : List ℕ) → IsStrict app → IsParsedFrom app m
    → IsFresh id (args_of app)
    → (id ≡ [] → ⊥) → (id ≡ codes "help" → ⊥) → (id ≡ codes "version" → ⊥) → first_value (found_of m) id ≡ None
no_value app m id strict p fresh named help version = go (matched_of (found_of m) id) refl
  where
    go : (o : Option MatchedArg) → matched_of (found_of m) id ≡ o → first_value (found_of m) id ≡ None
    go None e = rw e refl
    go (Some x) e =
        let parsed = p.parsed (p.from.globals ∙ strict.local) in
        let got = entry_by_id (EntryPasses p.built) (found_of m).entries.items id x parsed.values e in
        let key : got.0.0.now ≡ id = (bytes_eq-Decides got.0.0.now id).0 got.2 in
        let no_groups : groups_of p.built ≡ [] = (p.from.plain strict.plain).1 in
        let none : (y : Bor (List ℕ)) → 0 < length x.vals.items → ⊥ = λ y lt. elim got.3.0 [
          | inl group ↦ elim (got.3.3 group) [
            | inl empty ↦ named (sym key ∙ empty)
            | inr has ↦
                let bad : 0 < 0 = rw no_groups at has in
                absurd (omega arith)
          ]
          | inr all ↦
              let any = all 0 y (subst (λ (a : MatchedArg). 0 < length a.vals.items) (sym got.1) lt) in
              let is : any.1.id.now ≡ id = (bytes_eq-Decides any.1.id.now got.0.0.now).0 any.4.0 ∙ key in
              elim (cases_lt any.0 (length (args_of app))) [
                | inl under ↦
                    let same : any.1.id.now ≡ (slice_index_or (args_of app) any.0 any.1).id.now =
                    ap (λ (a : Arg). a.id.now) (sym any.3)
                    ∙ ap (λ (i : Bor (List ℕ)). i.now) (p.from.kept any.0 any.1 under).1.id in
                    let hit : bytes_eq (slice_index_or (args_of app) any.0 any.1).id.now id ≡ true =
                    (bytes_eq-Decides (slice_index_or (args_of app) any.0 any.1).id.now id).1 (sym same ∙ is) in
                    absurd (true≢false (sym hit ∙ fresh any.0 any.1 under))
                | inr over ↦ elim (subst (λ (a : Arg). IsAuto a) any.3 (p.from.extra any.0 any.1 over any.2)) [
                  | inl h ↦ help (sym is ∙ h)
                  | inr h ↦ version (sym is ∙ h)
                ]
              ]
        ] in
        rw e (no_first x.vals.items none)

-- no rule has this id
abbrev is_free : List ℕ → List Rule → Bool
is_free id rules = list_all (λ rule. not (bytes_eq rule.id id)) rules

both : (a b : Bool) → (not a && b) ≡ true → (a ≡ false) × (b ≡ true)
both true b e = absurd (true≢false (sym e))
both false b e = (refl, e)

-- no argument with these rules has an id that no rule has
fresh_by_rules : (args : List Arg) (id : List ℕ) → is_free id (map rule_of args) ≡ true → IsFresh id args
fresh_by_rules [] id free k d lt = absurd (omega arith)
fresh_by_rules (arg ∷ args) id free zero d lt = (both _ _ free).0
fresh_by_rules (arg ∷ args) id free (suc k) d lt = fresh_by_rules args id (both _ _ free).1 k d (omega arith)

-- neither a rule nor a flag of clap's own has this id
abbrev is_absent : List ℕ → List Rule → Bool
is_absent id rules =
    not (bytes_eq id []) && (not (bytes_eq id (codes "help")) && (not (bytes_eq id (codes "version")) && is_free id rules))

no_text : (app : Command) (m : ArgMatches) (id : List ℕ) → IsStrict app → IsParsedFrom app m
    → is_absent id (app_of app).top.rules ≡ true → first_of id (rows_of (found_of m)) ≡ None
no_text app m id strict p absent =
    let some = both _ _ absent in
    let help = both _ _ some.1 in
    let version = both _ _ help.1 in
    sym (first_value-rows (found_of m) id)
    ∙ no_value app m id strict p (fresh_by_rules (args_of app) id version.1)
    (differs id [] some.0) (differs id (codes "help") help.0) (differs id (codes "version") version.0)

-- what passes throughout the table passes
of_each : (p : Opt → Bool) (option : Opt) → list_all p options ≡ true → p option ≡ true
of_each p Seed each = AllPass-from_list_all p options each 0 Seed (omega arith)
of_each p Levels each = AllPass-from_list_all p options each 1 Seed (omega arith)
of_each p Rows each = AllPass-from_list_all p options each 2 Seed (omega arith)
of_each p Width each = AllPass-from_list_all p options each 3 Seed (omega arith)
of_each p Heap each = AllPass-from_list_all p options each 4 Seed (omega arith)
of_each p Weight each = AllPass-from_list_all p options each 5 Seed (omega arith)
of_each p Epoch each = AllPass-from_list_all p options each 6 Seed (omega arith)
of_each p Heavy each = AllPass-from_list_all p options each 7 Seed (omega arith)
of_each p Nodes each = AllPass-from_list_all p options each 8 Seed (omega arith)
of_each p Window each = AllPass-from_list_all p options each 9 Seed (omega arith)
of_each p Restarts each = AllPass-from_list_all p options each 10 Seed (omega arith)
of_each p Packets each = AllPass-from_list_all p options each 11 Seed (omega arith)
of_each p Flows each = AllPass-from_list_all p options each 12 Seed (omega arith)
of_each p Part each = AllPass-from_list_all p options each 13 Seed (omega arith)

-- a command takes an option, or no rule of it has the option's id
abbrev takes_or_lacks : words.Command → Opt → Bool
takes_or_lacks command option = takes_option command option || is_absent (id_of option) (app_for command).top.rules

takes_or_lacks_each : (command : words.Command) → list_all (takes_or_lacks command) options ≡ true
unfolding each_app
takes_or_lacks_each Total = refl
takes_or_lacks_each Central = refl
takes_or_lacks_each Measure = refl
takes_or_lacks_each Place = refl
takes_or_lacks_each Check = refl
takes_or_lacks_each Child = refl
takes_or_lacks_each Generate = refl
takes_or_lacks_each Drill = refl

lacks_option : (command : words.Command) (option : Opt) → takes_option command option ≡ false
    → is_absent (id_of option) (app_for command).top.rules ≡ true
lacks_option command option none =
    sym (ap (λ takes. takes || is_absent (id_of option) (app_for command).top.rules) none)
    ∙ of_each (takes_or_lacks command) option (takes_or_lacks_each command)

lacks_topology : (command : words.Command) → takes_topology command ≡ false
    → is_absent (codes "topology") (app_for command).top.rules ≡ true
unfolding each_app
lacks_topology Total none = refl
lacks_topology Central none = absurd (true≢false none)
lacks_topology Measure none = refl
lacks_topology Place none = refl
lacks_topology Check none = refl
lacks_topology Child none = refl
lacks_topology Generate none = refl
lacks_topology Drill none = refl

-- the words of a command give nothing that it doesn't take
pub bare_words : (command : words.Command) (app : Command) (m : ArgMatches) → IsStrict app → IsParsedFrom app m
    → app_of app ≡ app_for command → IsBare command (rows_of (found_of m))
bare_words command app m strict p is =
    let none : (id : List ℕ) → is_absent id (app_for command).top.rules ≡ true
    → first_of id (rows_of (found_of m)) ≡ None =
    λ id absent. no_text app m id strict p (subst (λ (a : App). is_absent id a.top.rules ≡ true) (sym is) absent) in
    record {
      no_topology = λ lacks. none (codes "topology") (lacks_topology command lacks);
      no_option = λ option lacks. none (id_of option) (lacks_option command option lacks);
    }
