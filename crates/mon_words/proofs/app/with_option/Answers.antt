use Rattle.std.proofs.Common.{◌≡◌, ℕ, List, subst, sym, false}
use Rattle.std.specs.Borrow.{Bor}
use Rattle.std.specs.Prelude.{bytes_eq}
use Rattle.std.proofs.lemmas.Result.{IfOk-weaker}
use Rattle.mon_words.proofs.Arguments.{needs_with, strict_with}
use Rattle.mon_words.proofs.app.with_option.Goals as goal

pub returns-clause-strict : goal.returns-clause-strict
returns-clause-strict c =
    IfOk-weaker c.arg.result _ _ (λ more adds.
    strict_with c.args.app more c.option_arg.result adds
    c.option_arg.ensures.plain c.option_arg.ensures.local c.requires.strict) c.arg.ensures

pub returns-clause-needs : goal.returns-clause-needs
returns-clause-needs c = λ name other needs.
    let differs = subst (λ (id : Bor (List ℕ)). bytes_eq id.now name ≡ false) (sym c.option_arg.ensures.id) other in
    IfOk-weaker c.arg.result _ _
    (λ more adds. needs_with c.args.app more c.option_arg.result name adds differs needs) c.arg.ensures
