use Rattle.std.proofs.Common.{sym, ap, subst, ◌∙◌, refl, map, string_bytes}
use Rattle.clap.specs.Words.{App, HasKind, fault_of, is_simple, is_simple_and_free, matches_of}
use Rattle.mon_words.specs.Values.{IsBare, IsNamed}
use Rattle.mon_words.proofs.Absences.{bare_words}
use Rattle.mon_words.proofs.Arguments.{names_are_given}
use Rattle.mon_words.proofs.Refusals.{is_exact, is_known, not_taken, read, taken}
use Rattle.mon_words.proofs.matches.matches_in.Goals as goal

pub returns-in-Ok-try_get_matches_from-clause-taken :
    goal.returns-in-Ok-try_get_matches_from-clause-taken
returns-in-Ok-try_get_matches_from-clause-taken c =
    let exact = ap (λ (app : App). is_simple_and_free app) c.in-Ok.ensures.app ∙ is_exact c.args.command in
    let words = map string_bytes c.args.words.now in
    taken c.args.command words (sym (ap (λ (app : App). fault_of app words) c.in-Ok.ensures.app)
    ∙ c.in-Ok-try_get_matches_from.ensures.kinds exact)

pub returns-in-Ok-try_get_matches_from-clause-rows :
    goal.returns-in-Ok-try_get_matches_from-clause-rows
returns-in-Ok-try_get_matches_from-clause-rows c =
    let known = ap (λ (app : App). is_simple app) c.in-Ok.ensures.app ∙ is_known c.args.command in
    let words = map string_bytes c.args.words.now in
    (c.in-Ok-try_get_matches_from.ensures.matches known).0
    ∙ (ap (λ (app : App). matches_of app words) c.in-Ok.ensures.app ∙ read c.args.command words)

pub returns-in-Ok-try_get_matches_from-clause-named :
    goal.returns-in-Ok-try_get_matches_from-clause-named
returns-in-Ok-try_get_matches_from-clause-named c =
    let matches = c.in-Ok-try_get_matches_from.matches in
    subst (IsNamed c.args.command) (returns-in-Ok-try_get_matches_from-clause-rows c)
    (names_are_given c.args.command c.in-Ok.app matches
    c.in-Ok.ensures.strict c.in-Ok.ensures.needs c.in-Ok-try_get_matches_from.ensures.parsed)

pub returns : goal.returns
returns c =
    let exact = ap (λ (app : App). is_simple_and_free app) c.in-Ok.ensures.app ∙ is_exact c.args.command in
    let words = map string_bytes c.args.words.now in
    let has = subst (λ (app : App). HasKind (fault_of app words) c.in-Err.error) c.in-Ok.ensures.app
    (c.in-Err.ensures.kinds exact) in
    let refused = not_taken c.args.command words c.in-Err.error has
    (λ memory. c.in_default-kind.not-OutOfMemory (c.kind.ensures ∙ memory)) in
    record { taken = tt; rows = tt; named = tt; bare = tt; refused = rw refused refl }

pub returns-in-Ok-try_get_matches_from-clause-bare :
    goal.returns-in-Ok-try_get_matches_from-clause-bare
returns-in-Ok-try_get_matches_from-clause-bare c =
    let matches = c.in-Ok-try_get_matches_from.matches in
    subst (IsBare c.args.command) (returns-in-Ok-try_get_matches_from-clause-rows c)
    (bare_words c.args.command c.in-Ok.app matches
    c.in-Ok.ensures.strict c.in-Ok-try_get_matches_from.ensures.parsed c.in-Ok.ensures.app)
