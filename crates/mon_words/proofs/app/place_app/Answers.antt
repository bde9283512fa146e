use Rattle.std.proofs.Common.{ap, ◌∙◌, codes}
use Rattle.mon_words.specs.Apps.{place_app, with_name, with_solve_options}
use Rattle.mon_words.proofs.app.place_app.Goals as goal

pub returns-clause-app : goal.returns-clause-app
unfolding place_app
returns-clause-app c =
    c.in_ok-app-2.ensures.app
    ∙ ap with_solve_options (c.in_ok-app.ensures.app ∙ ap (with_name (codes "TOPOLOGY")) c.bare_app.ensures.app)
