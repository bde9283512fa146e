-- Each number is that of one more element in front, or the element is the first that is wrong.
use Rattle.std.proofs.Common.{◌≢◌, ℕ, ◌<◌, ◌∙◌, List, All, AllPairs, length, subst, sym}
use Rattle.std.proofs.lemmas.List.Elements.{All-push}
use Rattle.std.proofs.lemmas.List.Quantifiers.{all_pairs_push}
use Rattle.std.proofs.lemmas.Result.{err_from_is_err_and}
use Rattle.topology.proofs.EachEntry.{mapped_more, hop_fault_here}
use Rattle.topology.proofs.FirstFault.{first_from_step, first_from_found, first_from_none}
use Rattle.topology.specs.Via.{number_of}
use Rattle.topology.proofs.via.number_each.Goals as goal

pub returns-in_err-number-clause-fault : goal.returns-in_err-number-clause-fault
returns-in_err-number-clause-fault c =
    let here = hop_fault_here c.args.switches.now c.args.path c.args.elements.now c.loop-element.element-index
    c.element-item.result _ c.loop-element-test.true c.element-item.is (c.deref.ensures.value ∙
    c.loop-element.invariant.0) in
    let told = err_from_is_err_and c.from_residual.result c.from_residual.ensures.1 in
    rw (told.1, told.2) (λ other. first_from_found _ _ _ _ _ c.loop-element-test.true (here
    ∙ c.in_err-number.ensures.fault) c.loop-element.invariant.3)

pub loop-element-preserved : goal.loop-element-preserved
loop-element-preserved c =
    let here = hop_fault_here c.args.switches.now c.args.path c.args.elements.now c.loop-element.element-index
    c.element-item.result _ c.loop-element-test.true c.element-item.is (c.deref.ensures.value ∙
    c.loop-element.invariant.0) in
    let more = mapped_more (number_of c.args.switches.now) c.args.elements.now c.loop-element.element-index
    c.element-item.result c.loop-element-test.true c.element-item.is in
    let apart = subst
    (λ (numbers : List ℕ). All
    (λ other. other ≢ c.in_ok-number.number) numbers) c.deref.ensures.value c.in_ok-number.ensures.new in (
      c.in-Ok.ensures.items ∙ rw (c.loop-element.invariant.0, more, c.in_ok-number.ensures.number),
      subst (All (λ number. number < length c.args.switches.now)) (sym c.in-Ok.ensures.items)
          (All-push (λ number. number < length c.args.switches.now) _ _ c.loop-element.invariant.1
          c.in_ok-number.ensures.known),
      subst (AllPairs (λ a b. a ≢ b)) (sym c.in-Ok.ensures.items)
          (all_pairs_push (λ (a b : ℕ). a ≢ b) _ _ c.loop-element.invariant.2 apart),
      first_from_step _ _ _ _ c.loop-element-test.true (here ∙ c.in_ok-number.ensures.right) c.loop-element.invariant.3,
    )

pub returns-clause-right : goal.returns-clause-right
returns-clause-right c = first_from_none _ _ _ _ c.loop-element-test.false c.loop-element.invariant.3
