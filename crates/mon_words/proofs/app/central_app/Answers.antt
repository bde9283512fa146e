use Rattle.std.proofs.Common.{ap, ◌∙◌, refl, codes}
use Rattle.mon_words.specs.Apps.{central_app, with_name, with_option, with_sketch_options, with_trace_options}
use Rattle.mon_words.proofs.app.central_app.Goals as goal

pub returns-clause-app : goal.returns-clause-app
unfolding central_app
returns-clause-app c =
    let named = c.in_ok-app.ensures.app ∙ ap (with_name (codes "TRACE")) c.bare_app.ensures.app in
    let sketched = c.in_ok-app-2.ensures.app ∙ ap with_sketch_options named in
    let traced = c.in_ok-app-3.ensures.app ∙ ap with_trace_options sketched in
    c.in_ok-app-4.ensures.app ∙ ap (with_option (codes "topology")) traced

pub returns-clause-needs : goal.returns-clause-needs
returns-clause-needs c =
    let name = codes "TRACE" in
    let sketched = c.in_ok-app-2.ensures.needs name (refl, (refl, (refl, (refl, (refl, (refl, tt))))))
    c.in_ok-app.ensures.needs in
    let traced = c.in_ok-app-3.ensures.needs name (refl, (refl, tt)) sketched in
    c.in_ok-app-4.ensures.needs name refl traced
