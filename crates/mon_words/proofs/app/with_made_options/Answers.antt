use Rattle.mon_words.proofs.app.with_made_options.Goals as goal

pub returns-clause-needs : goal.returns-clause-needs
returns-clause-needs c = λ name other needs.
    let first = c.in_ok-app.ensures.needs name other.0 needs in
    c.in_ok-app-2.ensures.needs name other.1.0 first
