use Rattle.std.proofs.Common.{◌≡◌, ◌==◌, ◌∷◌, [], ◌||◌, false, refl, inr, ne_eqb, ap, ◌∙◌, Bool}
use Rattle.child_replies.proofs.front.version.Goals as goal

pub returns-else-version-eq2-clause-fault : goal.returns-else-version-eq2-clause-fault
returns-else-version-eq2-clause-fault c =
    let first : (c.in-Some.version == 1) ≡ false = ne_eqb c.in-Some.version 1 c.if-version-eq2.false.0 in
    let second : (c.in-Some.version == 2) ≡ false = ne_eqb c.in-Some.version 2 c.if-version-eq2.false.1 in
    inr (
      refl,
      (
        c.in-Some.version ∷ [],
        (
          c.in-Some.after.now,
          record {
            parts = c.in-Some.ensures.parts;
            whole = refl;
            tested = ap (λ (b : Bool). b || c.in-Some.version == 2) first ∙ second;
          },
        ),
      ),
    )
