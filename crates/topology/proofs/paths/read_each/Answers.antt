-- Each path that is read is one more of those in front, or the first that is wrong.
use Rattle.std.proofs.Common.{◌∙◌, All, length, subst, sym}
use Rattle.std.proofs.lemmas.List.Elements.{All-push}
use Rattle.std.proofs.lemmas.Result.{err_from_is_err_and}
use Rattle.bound_certificate.specs.Limits.{IsNeed}
use Rattle.topology.proofs.EachEntry.{mapped_more, path_fault_here}
use Rattle.topology.proofs.FirstFault.{first_from_step, first_from_found, first_from_none}
use Rattle.topology.specs.Paths.{ends_of, need_of}
use Rattle.topology.specs.Switches.{name_of}
use Rattle.topology.proofs.paths.read_each.Goals as goal

pub returns-in_err-end-clause-fault : goal.returns-in_err-end-clause-fault
returns-in_err-end-clause-fault c =
    let here = path_fault_here c.args.switches.now c.args.entries.now c.loop-index.index
    c.index-entries-index.result _ c.loop-index-test.true c.index-entries-index.is c.loop-index.invariant.0 in
    let told = err_from_is_err_and c.from_residual.result c.from_residual.ensures.1 in
    rw (told.1, told.2) (λ other. first_from_found _ _ _ _ _ c.loop-index-test.true (here
    ∙ c.in_err-end.ensures.fault other) c.loop-index.invariant.4)

pub loop-index-preserved : goal.loop-index-preserved
loop-index-preserved c =
    let here = path_fault_here c.args.switches.now c.args.entries.now c.loop-index.index
    c.index-entries-index.result _ c.loop-index-test.true c.index-entries-index.is c.loop-index.invariant.0 in
    let named = mapped_more name_of c.args.entries.now c.loop-index.index c.index-entries-index.result
    c.loop-index-test.true c.index-entries-index.is in
    let ended = mapped_more ends_of c.args.entries.now c.loop-index.index c.index-entries-index.result
    c.loop-index-test.true c.index-entries-index.is in
    let needed = mapped_more (need_of c.args.switches.now) c.args.entries.now c.loop-index.index
    c.index-entries-index.result c.loop-index-test.true c.index-entries-index.is in (
      c.in_ok-end.ensures.numbered ∙ rw (c.loop-index.invariant.0, named),
      c.in-Ok.ensures.items ∙ rw (c.loop-index.invariant.1, ended, c.in_ok-end.ensures.ends),
      c.in-Ok-push.ensures.items ∙ rw (c.loop-index.invariant.2, needed, c.in_ok-end.ensures.need),
      subst (All (IsNeed (length c.args.switches.now))) (sym c.in-Ok-push.ensures.items)
          (All-push (IsNeed (length c.args.switches.now)) _ _ c.loop-index.invariant.3 c.in_ok-end.ensures.within),
      first_from_step _ _ _ _ c.loop-index-test.true (here ∙ c.in_ok-end.ensures.right) c.loop-index.invariant.4,
    )

pub returns-clause-right : goal.returns-clause-right
returns-clause-right c = first_from_none _ _ _ _ c.loop-index-test.false c.loop-index.invariant.4
