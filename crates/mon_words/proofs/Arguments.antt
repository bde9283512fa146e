-- What an argument more keeps of a command of clap, and what a parse gives.
use Rattle.std.proofs.Common.{◌≡◌, ◌+◌, ◌<◌, ◌≤◌, ℕ, List, [], ◌∷◌, ◌++◌, length, true, false, true≢false, sym, ap, subst, ◌∙◌, arith, inl, inr, codes, ◌||◌, length-append, is_some, refl}
use Rattle.std.specs.Borrow.{Bor}
use Rattle.std.specs.Prelude.{bytes_eq}
use Rattle.std.specs.List.{AllByRecursion, slice_index_or}
use Rattle.std.proofs.Math.Seq.{get_or-append_seam}
use Rattle.std.proofs.lemmas.Bool.{cases_lt}
use Rattle.std.proofs.lemmas.List.{get_or_append_left}
use Rattle.clap.specs.Built.{AddsArg, IsParsedFrom, IsPlainArg, SameRules, TakesValue}
use Rattle.clap.specs.Words.{args_of, first_of, first_value, found_of, rows_of}
use Rattle.clap.specs.declared.builder.action.ArgAction.TheVariants.{Set}
use Rattle.clap.specs.declared.builder.arg.Arg.{Arg}
use Rattle.clap.specs.declared.builder.command.Command.{Command}
use Rattle.clap.specs.declared.parser.matches.ArgMatches.{ArgMatches}
use Rattle.clap.proofs.CallerLemmas.{added_plain, required_has_value}
use Rattle.clap.proofs.WalkLemmas.{first_value-rows}
use Rattle.std.proofs.lemmas.Slice.Eq.{bytes_eq-Decides}
use Rattle.mon_words.specs.Apps.{required_ids}
use Rattle.mon_words.specs.Values.{IsNamed}
use Rattle.mon_words.specs.declared.command.Command as words
use Rattle.mon_words.specs.declared.command.Command.TheVariants.{Total, Central, Measure, Place, Check, Child, Generate, Drill}
use Rattle.mon_words.specs.Needs.{IsFresh, IsStrict, Needs, NeedsEach}

-- an argument that is plain lifts no need
pub strict_with : (old new : Command) (a : Arg) → AddsArg old a new → IsPlainArg a → a.global ≡ false → IsStrict old
    → IsStrict new
strict_with old new a added plain local strict = record {
  plain = added_plain old new a added strict.plain plain;
  local = added.globals ∙ (ap (λ b. b || a.global) strict.local ∙ ap (λ b. false || b) local);
  alone = added.negates ∙ strict.alone;
}

-- the places of a list, and the one behind them
left : (xs : List Arg) (y : Arg) (k : ℕ) (d : Arg) → k < length xs
    → slice_index_or (xs ++ y ∷ []) k d ≡ slice_index_or xs k d
left xs y k d lt = get_or_append_left xs (y ∷ []) d k lt

right : (xs : List Arg) (y : Arg) (k : ℕ) (d : Arg) → length xs ≤ k → k < length (xs ++ y ∷ [])
    → (k ≡ length xs) × (slice_index_or (xs ++ y ∷ []) k d ≡ y)
right xs y k d from lt =
    let sum : length (xs ++ y ∷ []) ≡ length xs + 1 = length-append xs (y ∷ []) in
    let is : k ≡ length xs = omega arith in
    (is, subst (λ (n : ℕ). slice_index_or (xs ++ y ∷ []) n d ≡ y) (sym is) (get_or-append_seam xs y [] d))

-- an argument that has to be given with a value still has
still_taken : (a b : Arg) → SameRules a b → TakesValue a → TakesValue b
still_taken a b rules taken =
    (rules.required ∙ taken.0, rules.action Set taken.1, rules.val_delim ∙ taken.2, rules.least taken.1 taken.3)

-- an argument of another id leaves a need
pub needs_with : (old new : Command) (a : Arg) (name : List ℕ) → AddsArg old a new → bytes_eq a.id.now name ≡ false
    → Needs name old → Needs name new
needs_with old new a name added other needs =
    let old_args = args_of old in
    let longer : length (old_args ++ added.arg ∷ []) ≡ length old_args + 1 = length-append old_args (added.arg ∷ []) in
    let here : (d : Arg) → slice_index_or (args_of new) needs.place d ≡ slice_index_or old_args needs.place d =
    λ d. ap (λ (l : List Arg). slice_index_or l needs.place d) added.args
    ∙ left old_args added.arg needs.place d needs.within in
    record {
      place = needs.place;
      within =
          subst (λ (l : List Arg). needs.place < length l) (sym added.args) (let within = needs.within in omega arith);
      named = λ d. ap (λ (x : Arg). x.id.now) (here d) ∙ needs.named d;
      taken = λ d. subst TakesValue (sym (here d)) (needs.taken d);
      only = λ k d lt same.
          let in_both : k < length (old_args ++ added.arg ∷ []) = subst
          (λ (l : List Arg). k < length l) added.args lt in
          let found : bytes_eq (slice_index_or (old_args ++ added.arg ∷ []) k d).id.now name ≡ true =
          subst (λ (l : List Arg). bytes_eq (slice_index_or l k d).id.now name ≡ true) added.args same in
          elim (cases_lt k (length old_args)) [
            | inl under ↦ needs.only k d under
                (subst (λ (x : Arg). bytes_eq x.id.now name ≡ true) (left old_args added.arg k d under) found)
            | inr over ↦
                let at_end = right old_args added.arg k d over in_both in
                let bad : bytes_eq a.id.now name ≡ true = subst
                (λ (x : Bor (List ℕ)). bytes_eq x.now name ≡ true) added.rules.id
                (subst (λ (x : Arg). bytes_eq x.id.now name ≡ true) (at_end.1) found) in
                absurd (true≢false (sym bad ∙ other))
          ];
    }

-- and leaves an id free
pub fresh_with : (old new : Command) (a : Arg) (name : List ℕ) → AddsArg old a new → bytes_eq a.id.now name ≡ false
    → IsFresh name (args_of old) → IsFresh name (args_of new)
fresh_with old new a name added other fresh k d lt =
    let old_args = args_of old in
    let in_both : k < length (old_args ++ added.arg ∷ []) = subst (λ (l : List Arg). k < length l) added.args lt in
    let free : bytes_eq (slice_index_or (old_args ++ added.arg ∷ []) k d).id.now name ≡ false = elim
    (cases_lt k (length old_args)) [
      | inl under ↦ ap (λ (x : Arg). bytes_eq x.id.now name) (left old_args added.arg k d under) ∙ fresh k d under
      | inr over ↦
          ap (λ (x : Arg). bytes_eq x.id.now name) (right old_args added.arg k d over in_both).1
          ∙ (ap (λ (x : Bor (List ℕ)). bytes_eq x.now name) added.rules.id ∙ other)
    ] in
    ap (λ (l : List Arg). bytes_eq (slice_index_or l k d).id.now name) added.args ∙ free

-- a new argument is needed
pub needs_new : (old new : Command) (a : Arg) → AddsArg old a new → IsFresh a.id.now (args_of old) → TakesValue a
    → Needs a.id.now new
needs_new old new a added fresh taken =
    let old_args = args_of old in
    let longer : length (old_args ++ added.arg ∷ []) ≡ length old_args + 1 = length-append old_args (added.arg ∷ []) in
    let here : (d : Arg) → slice_index_or (args_of new) (length old_args) d ≡ added.arg =
    λ d. ap (λ (l : List Arg). slice_index_or l (length old_args) d) added.args
    ∙ get_or-append_seam old_args added.arg [] d in
    record {
      place = length old_args;
      within = subst (λ (l : List Arg). length old_args < length l) (sym added.args) (omega arith);
      named = λ d. ap (λ (x : Arg). x.id.now) (here d) ∙ ap (λ (x : Bor (List ℕ)). x.now) added.rules.id;
      taken = λ d. subst TakesValue (sym (here d)) (still_taken a added.arg added.rules taken);
      only = λ k d lt same.
          let in_both : k < length (old_args ++ added.arg ∷ []) = subst
          (λ (l : List Arg). k < length l) added.args lt in
          elim (cases_lt k (length old_args)) [
            | inl under ↦
                let found : bytes_eq (slice_index_or (old_args ++ added.arg ∷ []) k d).id.now a.id.now ≡ true =
                subst (λ (l : List Arg). bytes_eq (slice_index_or l k d).id.now a.id.now ≡ true) added.args same in
                let bad : bytes_eq (slice_index_or old_args k d).id.now a.id.now ≡ true =
                subst (λ (x : Arg). bytes_eq x.id.now a.id.now ≡ true) (left old_args added.arg k d under) found in
                absurd (true≢false (sym bad ∙ fresh k d under))
            | inr over ↦ (right old_args added.arg k d over in_both).0
          ];
    }

-- some argument of a list that has one
some_of : (xs : List Arg) (k : ℕ) → k < length xs → Arg
some_of [] k lt = absurd (omega arith)
some_of (x ∷ xs) k lt = x

-- what is needed, with an id that is not of clap's own, has a value where the words are taken
name_is_given : (id : List ℕ) (app : Command) (m : ArgMatches) → IsStrict app → Needs id app → IsParsedFrom app m
    → (id ≡ [] → ⊥) → (id ≡ codes "help" → ⊥) → (id ≡ codes "version" → ⊥)
    → is_some (first_of id (rows_of (found_of m))) ≡ true
name_is_given id app m strict needs parsed named help version =
    let d = some_of (args_of app) needs.place needs.within in
    let taken = needs.taken d in
    let is = needs.named d in
    let has = required_has_value app m parsed strict.plain strict.local strict.alone
    needs.place d needs.within taken.0 taken.1 taken.2 taken.3
    (λ k e lt same. needs.only k e lt
    (subst (λ (own : List ℕ). bytes_eq (slice_index_or (args_of app) k e).id.now own ≡ true) is same))
    (λ none. named (sym is ∙ none))
    (λ auto. elim auto [
      | inl h ↦ help (sym is ∙ h)
      | inr h ↦ version (sym is ∙ h)
    ]) in
    ap is_some (sym (first_value-rows (found_of m) id))
    ∙ subst (λ (own : List ℕ). is_some (first_value (found_of m) own) ≡ true) is has

-- two texts that don't compare equal
pub differs : (id text : List ℕ) → bytes_eq id text ≡ false → id ≡ text → ⊥
differs id text other same = true≢false (sym ((bytes_eq-Decides id text).1 same) ∙ other)

-- this id is not of clap's own
abbrev IsOwn : List ℕ → Type 0
IsOwn id = (bytes_eq id [] ≡ false) × (bytes_eq id (codes "help") ≡ false) × (bytes_eq id (codes "version") ≡ false)

-- where the words are taken, each of the ids that are needed is given
each_is_given : (ids : List (List ℕ)) (app : Command) (m : ArgMatches) → IsStrict app → NeedsEach ids app
    → IsParsedFrom app m
    → AllByRecursion IsOwn ids
    → AllByRecursion (λ id. is_some (first_of id (rows_of (found_of m))) ≡ true) ids
each_is_given [] app m strict needs parsed own = tt
each_is_given (id ∷ ids) app m strict needs parsed own = (
  name_is_given id app m strict needs.0 parsed (differs id [] own.0.0) (differs id (codes "help") own.0.1)
      (differs id (codes "version") own.0.2),
  each_is_given ids app m strict needs.1 parsed own.1,
)

are_own : (command : words.Command) → AllByRecursion IsOwn (required_ids command)
are_own Total = ((refl, refl, refl), tt)
are_own Central = ((refl, refl, refl), tt)
are_own Measure = ((refl, refl, refl), ((refl, refl, refl), tt))
are_own Place = ((refl, refl, refl), tt)
are_own Check = ((refl, refl, refl), ((refl, refl, refl), tt))
are_own Child = tt
are_own Generate = ((refl, refl, refl), tt)
are_own Drill = tt

-- where the words are taken, each that is required is given
pub names_are_given : (command : words.Command) (app : Command) (m : ArgMatches) → IsStrict app
    → NeedsEach (required_ids command) app → IsParsedFrom app m
    → IsNamed command (rows_of (found_of m))
names_are_given command app m strict needs parsed =
    each_is_given (required_ids command) app m strict needs parsed (are_own command)
