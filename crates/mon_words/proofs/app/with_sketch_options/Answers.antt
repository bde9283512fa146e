use Rattle.mon_words.proofs.app.with_sketch_options.Goals as goal

pub returns-clause-needs : goal.returns-clause-needs
returns-clause-needs c = λ name other needs.
    let first = c.in_ok-app.ensures.needs name other.0 needs in
    let second = c.in_ok-app-2.ensures.needs name other.1.0 first in
    let third = c.in_ok-app-3.ensures.needs name other.1.1.0 second in
    let fourth = c.in_ok-app-4.ensures.needs name other.1.1.1.0 third in
    let fifth = c.in_ok-app-5.ensures.needs name other.1.1.1.1.0 fourth in
    c.in_ok-app-6.ensures.needs name other.1.1.1.1.1.0 fifth
