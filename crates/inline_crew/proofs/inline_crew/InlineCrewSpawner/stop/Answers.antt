use Rattle.std.proofs.Common.{ℕ, ◌==◌, not, List, refl, sym, ◌∙◌, ap, subst}
use Rattle.std.specs.Prelude.{filter}
use Rattle.crew.specs.Log.{Entry, AreAnswered, pieces_in}
use Rattle.roster.specs.Roster.{tickets}
use Rattle.inline_crew.specs.InOrder.{InOrder, outs_in}
use Rattle.inline_crew.proofs.Keeping.{keeps_left}
use Rattle.inline_crew.proofs.inline_crew.InlineCrewSpawner.stop.Goals as goal

pub invariant_of-self : goal.invariant_of-self
unfolding pieces_in outs_in
invariant_of-self g c =
    let order = c.leave.ensures.order ∙ ap (λ (x : ℕ). filter (λ t. not (t == x))
    (tickets c.args.self.now.roster.marks)) c.place_of-place.ensures.ticket
    ∙ ap (filter (λ t. not (t == c.args.ticket))) c.args.self.now.keeps.order in
    record {
      keeps = keeps_left _ _ _ _ _ _ (Entry.Stopped c.args.ticket) _ c.args.ticket c.args.self.now.keeps
          c.leave.ensures.issued
          c.leave.ensures.count c.leave.ensures.out c.place_of-place.ensures.ticket c.forget.ensures.count
          c.forget.ensures.bytes
          c.note.ensures.entries c.note.ensures.room order (λ t. refl);
      ordered = subst (λ (xs : List Entry). ∥ InOrder xs ∥₁) (sym c.note.ensures.entries) c.args.self.now.ordered;
      answered = λ told. subst (λ (xs : List Entry). ∥ AreAnswered (g.A.Answerer.answers c.args.self.now.answerer)
          (g.A.Answerer.refuses c.args.self.now.answerer) xs ∥₁)
          (sym c.note.ensures.entries) (c.args.self.now.answered told);
    }
