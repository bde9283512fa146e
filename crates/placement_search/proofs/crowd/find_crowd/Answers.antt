use Rattle.std.proofs.Common.{length, sym, ◌∙◌}
use Rattle.placement_search.proofs.Leaves.{later_set}
use Rattle.placement_search.proofs.crowd.find_crowd.Goals as goal

pub returns-then-is_crowded-clause-crowd : goal.returns-then-is_crowded-clause-crowd
returns-then-is_crowded-clause-crowd c =
    let p = c.args.problem.now in
    record {
      set = rw (c.later-later.ensures.value, c.len.ensures.value) (later_set p (length c.args.choices.now) c.requires);
      crowded = rw (c.as_slice.ensures.value, c.as_slice-2.ensures.value) at
          (sym c.is_crowded.ensures.value ∙ c.if-is_crowded.true);
      known = c.later-later.ensures.known;
      few = rw c.as_slice-2.ensures.value at c.as_slice-2.ensures.few;
    }
