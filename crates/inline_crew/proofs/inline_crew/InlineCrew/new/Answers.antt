use Rattle.std.proofs.Common.{List, sym, subst}
use Rattle.crew.specs.Log.{Entry, AreAnswered}
use Rattle.inline_crew.specs.InOrder.{InOrder}
use Rattle.inline_crew.proofs.Keeping.{keeps_new}
use Rattle.inline_crew.proofs.inline_crew.InlineCrew.new.Goals as goal

pub invariant_of-result : goal.invariant_of-result
invariant_of-result g c = record {
  keeps = keeps_new _ _ _ c.new.ensures.issued c.new.ensures.marks c.new.ensures.out c.new-2.ensures.count
      c.new-3.ensures.entries;
  ordered = subst (λ (xs : List Entry). ∥ InOrder xs ∥₁) (sym c.new-3.ensures.entries) ∣ tt ∣₁;
  answered = λ told. subst (λ (xs : List Entry). ∥ AreAnswered (g.A.Answerer.answers c.args.answerer)
      (g.A.Answerer.refuses c.args.answerer) xs ∥₁) (sym c.new-3.ensures.entries) ∣ tt ∣₁;
}
