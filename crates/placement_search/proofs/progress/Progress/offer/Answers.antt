-- The completion is kept, or the best placement is no worse.
use Rattle.std.proofs.Common.{◌≡◌, ◌-◌, length, Some, sym, ◌∙◌, ap}
use Rattle.bound_certificate.specs.Problem.{need_count}
use Rattle.bound_certificate.specs.Placement.{cost, completed}
use Rattle.placement_search.specs.Kept.{IsCostOf}
use Rattle.placement_search.proofs.Capacities.{completed_fits, completion_beaten, no_completion, best_stays}
use Rattle.placement_search.proofs.progress.Progress.offer.Goals as goal

pub returns-in_default-clause-beaten : goal.returns-in_default-clause-beaten
returns-in_default-clause-beaten c =
    no_completion c.args.problem.now c.args.self.now.cost c.args.choices.now
    (sym c.complete.ensures.value ∙ c.in_default.is)

pub returns-clause-best : goal.returns-clause-best
returns-clause-best c =
    let p = c.args.problem.now in
    let qs = c.in-Some.completed in
    let done : completed p c.args.choices.now (need_count p - length c.args.choices.now) ≡ Some qs =
    sym c.complete.ensures.value ∙ c.in-Some.is in
    let is : IsCostOf p qs c.cost_of-cost.result = record {
      placed = completed_fits p c.args.choices.now qs c.requires.choices c.requires.room done;
      value = c.cost_of-cost.ensures.value ∙ ap (cost p) c.as_slice.ensures.value;
    } in
    best_stays p c.args.self.now.cost c.take.new.self.cost c.args.self.now.sites c.take.new.self.sites qs
    c.cost_of-cost.result c.take.ensures.either is

pub returns-clause-beaten : goal.returns-clause-beaten
returns-clause-beaten c =
    let p = c.args.problem.now in
    let qs = c.in-Some.completed in
    let done : completed p c.args.choices.now (need_count p - length c.args.choices.now) ≡ Some qs =
    sym c.complete.ensures.value ∙ c.in-Some.is in
    let value : c.cost_of-cost.result ≡ cost p qs =
    c.cost_of-cost.ensures.value ∙ ap (cost p) c.as_slice.ensures.value in
    completion_beaten p c.take.new.self.cost c.args.choices.now qs done (rw value at c.take.ensures.reached)
