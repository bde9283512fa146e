use Rattle.std.proofs.Common.{◌==◌, length, ap, sym, ◌∙◌, arith}
use Rattle.flow_keys.proofs.Parts.{numbers_behind, behind_none, behind_some, behind_refused, behind_all, pushed_few, split_around, split_last}
use Rattle.flow_keys.proofs.numerals.numbers_between.Goals as goal

pub loop-part-init : goal.loop-part-init
loop-part-init c = (omega (arith, ap length c.new-numbers.ensures), rw c.new-numbers.ensures (behind_none _ _ _))

pub loop-part-preserved : goal.loop-part-preserved
loop-part-preserved c =
    let cut = split_around (λ byte. byte == c.args.separator) _ _ _
    c.in-Some.ensures.place c.in-Some.ensures.before c.in-Some.ensures.behind in
    let taken = c.in_ok-push_number.ensures.value in (
      pushed_few _ _ _ _ _ taken,
      c.loop-part.invariant.1
          ∙ ap (numbers_behind c.args.base c.args.most c.loop-part.numbers.items) cut ∙ behind_some _ _ _ _ _ _ taken,
    )

pub returns-in_err-push_number : goal.returns-in_err-push_number
returns-in_err-push_number c =
    let cut = split_around (λ byte. byte == c.args.separator) _ _ _
    c.in-Some.ensures.place c.in-Some.ensures.before c.in-Some.ensures.behind in
    let none = c.loop-part.invariant.1 ∙ ap (numbers_behind c.args.base c.args.most c.loop-part.numbers.items) cut
    ∙ behind_refused _ _ _ _ _ c.in_err-push_number.ensures.value in
    record { value = rw c.from_residual.ensures (sym none) }

pub returns-in_err-push_number-2 : goal.returns-in_err-push_number-2
returns-in_err-push_number-2 c =
    let cut = split_last (λ byte. byte == c.args.separator) _ c.in_default.ensures.place in
    let none = c.loop-part.invariant.1 ∙ ap (numbers_behind c.args.base c.args.most c.loop-part.numbers.items) cut
    ∙ behind_refused _ _ _ _ _ c.in_err-push_number-2.ensures.value in
    record { value = rw c.from_residual-in_err-push_number-2.ensures (sym none) }

pub returns : goal.returns
returns c =
    let cut = split_last (λ byte. byte == c.args.separator) _ c.in_default.ensures.place in
    let taken = c.in_ok-push_number-2.ensures.value in
    let all = c.loop-part.invariant.1 ∙ ap (numbers_behind c.args.base c.args.most c.loop-part.numbers.items) cut
    ∙ behind_some _ _ _ _ _ _ taken ∙ behind_all _ _ _ (pushed_few _ _ _ _ _ taken) in
    record { value = sym all }
