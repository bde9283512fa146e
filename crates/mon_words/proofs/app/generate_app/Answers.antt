use Rattle.std.proofs.Common.{refl, codes}
use Rattle.mon_words.proofs.app.generate_app.Goals as goal

pub returns-clause-needs : goal.returns-clause-needs
returns-clause-needs c =
    let seeded = c.in_ok-app-2.ensures.needs (codes "PART") refl c.in_ok-app.ensures.needs in
    c.in_ok-app-3.ensures.needs (codes "PART") (refl, (refl, tt)) seeded
