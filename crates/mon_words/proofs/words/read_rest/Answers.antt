use Rattle.std.proofs.Common.{subst, sym}
use Rattle.clap.specs.Words.{found_of, rows_of}
use Rattle.mon_words.specs.Values.{IsBare}
use Rattle.mon_words.proofs.Defaults.{bare_holds_defaults}
use Rattle.mon_words.proofs.words.read_rest.Goals as goal

pub returns-clause-defaults : goal.returns-clause-defaults
returns-clause-defaults c =
    let read = c.in_ok-matches in
    bare_holds_defaults c.args.command (rows_of (found_of read.matches)) c.read_matches.result
    (subst (IsBare c.args.command) (sym read.ensures.rows) read.ensures.bare) c.read_matches.ensures.asked
