use Rattle.std.proofs.lemmas.Result.{err_from_is_err_and}
use Rattle.clap.specs.Words.{found_of, rows_of}
use Rattle.mon_words.proofs.Grouping.{made_told, search_told, sketch_told}
use Rattle.mon_words.proofs.words.read_matches.Goals as goal

pub returns-in_err-sketch-clause-asked : goal.returns-in_err-sketch-clause-asked
returns-in_err-sketch-clause-asked c =
    let told = err_from_is_err_and c.from_residual.result c.from_residual.ensures.1 in
    rw (told.1, told.2) (sketch_told c.args.command (rows_of (found_of c.args.matches.now)) _
    c.in_err-sketch.ensures.taken)

pub returns-in_err-search-clause-asked : goal.returns-in_err-search-clause-asked
returns-in_err-search-clause-asked c =
    let told = err_from_is_err_and c.from_residual-in_err-search.result c.from_residual-in_err-search.ensures.1 in
    rw (told.1, told.2) (search_told c.args.command (rows_of (found_of c.args.matches.now)) _
    c.in_ok-sketch.ensures.taken c.in_err-search.ensures.taken)

pub returns-in_err-made-clause-asked : goal.returns-in_err-made-clause-asked
returns-in_err-made-clause-asked c =
    let told = err_from_is_err_and c.from_residual-in_err-made.result c.from_residual-in_err-made.ensures.1 in
    rw (told.1, told.2) (made_told c.args.command (rows_of (found_of c.args.matches.now)) _
    c.in_ok-sketch.ensures.taken c.in_ok-search.ensures.taken c.in_err-made.ensures.taken)
