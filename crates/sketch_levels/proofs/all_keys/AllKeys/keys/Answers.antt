use Rattle.std.proofs.Common.{◌∙◌, ap}
use Rattle.std.proofs.lemmas.Result.{IfOk-weaker}
use Rattle.sketch_levels.specs.Noted.{Noted, keys_at}
use Rattle.sketch_levels.proofs.Noting.{IsStrictlySortedBy-keys_at, live_keys-notes_of}
use Rattle.sketch_levels.proofs.Members.{live_keys-each}
use Rattle.sketch_levels.proofs.all_keys.AllKeys.keys.Goals as goal

pub returns-clause-items : goal.returns-clause-items
returns-clause-items c = IfOk-weaker c.keys_from.result _ _
    (λ keys value seed items holds. value ∙ ap (λ (noted : Noted). keys_at c.args.level noted.entries) c.self.view_is
    ∙ holds.each c.args.level c.requires ∙ live_keys-notes_of seed c.args.level items)
    c.keys_from.ensures.value

pub returns-clause-ascending : goal.returns-clause-ascending
returns-clause-ascending c = IfOk-weaker c.keys_from.result _ _
    (λ keys value. rw value
    (IsStrictlySortedBy-keys_at c.args.level c.self.inside.highest.entries c.keys_from.ensures.ordered))
    c.keys_from.ensures.value

pub returns-clause-every : goal.returns-clause-every
returns-clause-every c = IfOk-weaker c.keys_from.result _ _
    (λ keys value notes holds key.
    let is = value ∙ ap (λ (noted : Noted). keys_at c.args.level noted.entries) c.self.view_is
    ∙ holds.each c.args.level c.requires in
    rw is (live_keys-each c.args.level notes key))
    c.keys_from.ensures.value
