use Rattle.std.proofs.Common.{List, ℕ, [], ◌∷◌, codes, refl, sym, subst, append-nil, inl, inr}
use Rattle.mon_child.proofs.command.child.Goals as goal

pub returns-in-Memory-clause-picks : goal.returns-in-Memory-clause-picks
returns-in-Memory-clause-picks g c = elim c.in-Memory.ensures.picks [
  | inl picked ↦ record { front = codes "-" ∷ []; back = []; parts = refl; picked = picked }
  | inr nothing ↦ record {
    front = [];
    back = codes "-" ∷ [];
    parts = refl;
    picked = λ earlier stood. subst (λ (l : List (List ℕ)). g.I.Inputs.picks c.answer.new.inputs l)
        (sym (append-nil earlier)) (nothing earlier stood);
  }
]
