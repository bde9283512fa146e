use Rattle.placement_search.proofs.Floors.{floor_dual}
use Rattle.placement_search.proofs.prices.floor_dual.Goals as goal

pub returns : goal.returns
returns c = record {
  dual =
      floor_dual c.args.problem.now c.args.choices.now c.in_ok-floor.floor.lambda c.in_ok-floor.floor.mu c.requires
      c.in_ok-floor.ensures.floor;
}
