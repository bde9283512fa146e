use Rattle.std.proofs.Common.{◌≡◌, inl, inr, arith, sym, subst}
use Rattle.std.proofs.lemmas.Bool.{cases_lt}
use Rattle.topk_heap.specs.Places.{RanksLastOfGroup}
use Rattle.topk_heap.proofs.groups.search_groups.Goals as goal

pub loop-group-init : goal.loop-group-init
loop-group-init c = (c.requires.groups, λ group d below. absurd (omega (arith, below)))

pub loop-group-preserved : goal.loop-group-preserved
loop-group-preserved c = (
  c.search_group.ensures.groups,
  λ group d below. elim (cases_lt group c.loop-group.group) [
    | inl under ↦ subst (RanksLastOfGroup c.args.slots.now group)
        (sym (c.search_group.ensures.others group d (λ same. omega (arith, same, under))))
        (c.loop-group.invariant.1 group d under)
    | inr over ↦ let is : group ≡ c.loop-group.group = omega (arith, over, below) in rw is (c.search_group.ensures.last d)
  ],
)

pub returns-clause-lasts : goal.returns-clause-lasts
returns-clause-lasts c = λ group d some. c.loop-group.invariant.1 group d (omega (arith, some, c.loop-group-test.false))
