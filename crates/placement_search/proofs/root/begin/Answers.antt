use Rattle.placement_search.proofs.Capacities.{roomy_nothing, root_beaten}
use Rattle.placement_search.specs.Kept.{IsKept}
use Rattle.placement_search.proofs.root.begin.Goals as goal

pub offer-requires-clause-room : goal.offer-requires-clause-room
offer-requires-clause-room c = rw c.new.ensures.value (roomy_nothing c.args.problem.now)

pub returns-clause-kept : goal.returns-clause-kept
returns-clause-kept c =
    let begun : IsKept c.args.problem.now c.offer.new.self = record {
      best = c.offer.ensures.best (rw c.new-progress.ensures.cost tt);
      begun = root_beaten c.args.problem.now c.offer.new.self.cost (rw c.new.ensures.value at c.offer.ensures.beaten);
    } in
    let kept = c.offer_walk.ensures.kept (c.offer_dive.ensures.kept begun) in
    record { best = kept.best; begun = kept.begun }
