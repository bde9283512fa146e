-- Each switch that is read is one more of those in front, or the first that is wrong.
use Rattle.std.proofs.Common.{◌∙◌}
use Rattle.std.proofs.lemmas.Result.{err_from_is_err_and}
use Rattle.topology.proofs.EachEntry.{mapped_more, switch_fault_here}
use Rattle.topology.proofs.FirstFault.{first_from_step, first_from_found, first_from_none}
use Rattle.topology.specs.Switches.{name_of, site_of}
use Rattle.topology.proofs.switches.read_each.Goals as goal

pub returns-in_err-site-clause-fault : goal.returns-in_err-site-clause-fault
returns-in_err-site-clause-fault c =
    let here = switch_fault_here c.args.entries.now c.loop-index.index c.index-entries-index.result _
    c.loop-index-test.true c.index-entries-index.is c.loop-index.invariant.0 in
    let told = err_from_is_err_and c.from_residual.result c.from_residual.ensures.1 in
    rw (told.1, told.2) (λ other. first_from_found _ _ _ _ _ c.loop-index-test.true (here
    ∙ c.in_err-site.ensures.fault other) c.loop-index.invariant.2)

pub loop-index-preserved : goal.loop-index-preserved
loop-index-preserved c =
    let here = switch_fault_here c.args.entries.now c.loop-index.index c.index-entries-index.result _
    c.loop-index-test.true c.index-entries-index.is c.loop-index.invariant.0 in
    let named = mapped_more name_of c.args.entries.now c.loop-index.index c.index-entries-index.result
    c.loop-index-test.true c.index-entries-index.is in
    let sited = mapped_more site_of c.args.entries.now c.loop-index.index c.index-entries-index.result
    c.loop-index-test.true c.index-entries-index.is in (
      c.in_ok-site.ensures.numbered ∙ rw (c.loop-index.invariant.0, named),
      c.in-Ok.ensures.items ∙ rw (c.loop-index.invariant.1, sited, c.in_ok-site.ensures.site),
      first_from_step _ _ _ _ c.loop-index-test.true (here ∙ c.in_ok-site.ensures.right) c.loop-index.invariant.2,
    )

pub returns-clause-right : goal.returns-clause-right
returns-clause-right c = first_from_none _ _ _ _ c.loop-index-test.false c.loop-index.invariant.2
