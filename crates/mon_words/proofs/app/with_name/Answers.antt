use Rattle.std.proofs.Common.{◌≡◌, ℕ, List, subst, sym, false}
use Rattle.std.specs.Prelude.{bytes_eq}
use Rattle.std.specs.Borrow.{Bor}
use Rattle.std.proofs.lemmas.Result.{IfOk-weaker}
use Rattle.clap.specs.Words.{args_of}
use Rattle.mon_words.specs.Needs.{IsFresh, Needs}
use Rattle.mon_words.proofs.Arguments.{fresh_with, needs_new, needs_with, strict_with}
use Rattle.mon_words.proofs.app.with_name.Goals as goal

pub returns-clause-strict : goal.returns-clause-strict
returns-clause-strict c =
    IfOk-weaker c.arg.result _ _ (λ more adds.
    strict_with c.args.app more c.name_arg.result adds
    c.name_arg.ensures.plain c.name_arg.ensures.local c.requires.strict) c.arg.ensures

pub returns-clause-needs : goal.returns-clause-needs
returns-clause-needs c =
    let fresh = subst (λ (id : Bor (List ℕ)). IsFresh id.now (args_of c.args.app))
    (sym c.name_arg.ensures.id) c.requires.fresh in
    IfOk-weaker c.arg.result _ _
    (λ more adds. subst (λ (id : Bor (List ℕ)). Needs id.now more) c.name_arg.ensures.id
    (needs_new c.args.app more c.name_arg.result adds fresh c.name_arg.ensures.taken)) c.arg.ensures

pub returns-clause-others : goal.returns-clause-others
returns-clause-others c = λ name other needs.
    let differs = subst (λ (id : Bor (List ℕ)). bytes_eq id.now name ≡ false) (sym c.name_arg.ensures.id) other in
    IfOk-weaker c.arg.result _ _
    (λ more adds. needs_with c.args.app more c.name_arg.result name adds differs needs) c.arg.ensures

pub returns-clause-free : goal.returns-clause-free
returns-clause-free c = λ name other fresh.
    let differs = subst (λ (id : Bor (List ℕ)). bytes_eq id.now name ≡ false) (sym c.name_arg.ensures.id) other in
    IfOk-weaker c.arg.result _ _
    (λ more adds. fresh_with c.args.app more c.name_arg.result name adds differs fresh) c.arg.ensures
