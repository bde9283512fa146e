use Rattle.std.proofs.Common.{ap, ◌∙◌, refl, codes}
use Rattle.mon_words.specs.Apps.{measure_app, with_name, with_sketch_options, with_solve_options, with_trace_options}
use Rattle.mon_words.proofs.app.measure_app.Goals as goal

pub returns-clause-app : goal.returns-clause-app
unfolding measure_app
returns-clause-app c =
    let topology = c.in_ok-app.ensures.app ∙ ap (with_name (codes "TOPOLOGY")) c.bare_app.ensures.app in
    let trace = c.in_ok-app-2.ensures.app ∙ ap (with_name (codes "TRACE")) topology in
    let sketched = c.in_ok-app-3.ensures.app ∙ ap with_sketch_options trace in
    let traced = c.in_ok-app-4.ensures.app ∙ ap with_trace_options sketched in
    c.in_ok-app-5.ensures.app ∙ ap with_solve_options traced

pub returns-clause-topology : goal.returns-clause-topology
returns-clause-topology c =
    let name = codes "TOPOLOGY" in
    let named = c.in_ok-app-2.ensures.others name refl c.in_ok-app.ensures.needs in
    let sketched = c.in_ok-app-3.ensures.needs name (refl, (refl, (refl, (refl, (refl, (refl, tt)))))) named in
    let traced = c.in_ok-app-4.ensures.needs name (refl, (refl, tt)) sketched in
    c.in_ok-app-5.ensures.needs name (refl, (refl, (refl, tt))) traced

pub returns-clause-trace : goal.returns-clause-trace
returns-clause-trace c =
    let name = codes "TRACE" in
    let sketched = c.in_ok-app-3.ensures.needs name (refl, (refl, (refl, (refl, (refl, (refl, tt))))))
    c.in_ok-app-2.ensures.needs in
    let traced = c.in_ok-app-4.ensures.needs name (refl, (refl, tt)) sketched in
    c.in_ok-app-5.ensures.needs name (refl, (refl, (refl, tt))) traced
