use Rattle.std.proofs.Common.{◌<◌, ◌++◌, length, arith, ap, ◌∙◌}
use Rattle.std.specs.Prelude.{Vec}
use Rattle.std.specs.declared.alloc.Global.{Global}
use Rattle.roster.specs.Fed.{FedState}
use Rattle.roster.proofs.Jobs.{fed_append, fed_same, jobs_count}
use Rattle.roster.proofs.fed.Fed.append.Goals as goal

pub returns-in_default-clause-stays : goal.returns-in_default-clause-stays
returns-in_default-clause-stays c t =
    let count = ap (λ (fed : FedState). length fed.jobs) c.self.view_is in
    let known : c.args.ticket < length c.self.inside.jobs.items = omega
    (arith, count, jobs_count c.self.inside.jobs.items, c.requires.known) in
    let same = ap (λ (v : Vec _ Global). v.items) c.index_mut.ensures.value in
    rw (← c.self.view_is) (fed_same _ _ _ _ t known (c.in_default.ensures.items ∙ same))

pub returns-clause-bytes : goal.returns-clause-bytes
returns-clause-bytes c t =
    let count = ap (λ (fed : FedState). length fed.jobs) c.self.view_is in
    let known : c.args.ticket < length c.self.inside.jobs.items = omega
    (arith, count, jobs_count c.self.inside.jobs.items, c.requires.known) in
    let same = ap (λ (v : Vec _ Global). v.items ++ c.args.piece.now) c.index_mut.ensures.value in
    rw (← c.self.view_is) (fed_append _ _ _ _ _ t known (c.in-Ok.ensures.items ∙ same))
