use Rattle.std.proofs.Common.{◌≡◌, None, sym, rules}
use Rattle.std.specs.List.{slice_get}
use Rattle.sketch_merge.proofs.Begins.{begins_equal, begins_greater, begins_key, begins_less, begins_other, none_begins}
use Rattle.sketch_merge.proofs.union.next_of.Goals as goal

pub returns-in_default-first-clause-none : goal.returns-in_default-first-clause-none
returns-in_default-first-clause-none c =
    let none : slice_get c.args.keys.now 0 ≡ None = search rules in
    let end : slice_get c.args.more.now 0 ≡ None = search rules in
    none_begins c.args.keys.now c.args.more.now none end

pub returns-in_default-clause-first : goal.returns-in_default-clause-first
returns-in_default-clause-first c =
    let none : slice_get c.args.keys.now 0 ≡ None = search rules in
    rw c.new.ensures.value
    (begins_other c.args.keys.now c.args.more.now c.in-Some-first.other.now none
    (sym c.in-Some-first.ensures.value) c.requires)

pub returns-in_default-first-2-clause-first : goal.returns-in_default-first-2-clause-first
returns-in_default-first-2-clause-first c =
    let none : slice_get c.args.more.now 0 ≡ None = search rules in
    rw c.new-in_default-first-2.ensures.value
    (begins_key c.args.keys.now c.args.more.now c.in-Some.key.now (sym c.in-Some.ensures.value) none)

pub returns-in-Less-clause-first : goal.returns-in-Less-clause-first
returns-in-Less-clause-first c =
    rw c.new-in-Less.ensures.value
    (begins_less c.args.keys.now c.args.more.now c.in-Some.key.now c.in-Some-first-2.other.now
    (sym c.in-Some.ensures.value) (sym c.in-Some-first-2.ensures.value) c.requires (sym c.in-Less.ensures))

pub returns-in-Equal-clause-first : goal.returns-in-Equal-clause-first
returns-in-Equal-clause-first c =
    rw c.new-in-Equal.ensures.value
    (begins_equal c.args.keys.now c.args.more.now c.in-Some.key.now c.in-Some-first-2.other.now
    (sym c.in-Some.ensures.value) (sym c.in-Some-first-2.ensures.value) c.requires (sym c.in-Equal.ensures))

pub returns-in-Greater-clause-first : goal.returns-in-Greater-clause-first
returns-in-Greater-clause-first c =
    rw c.new-in-Greater.ensures.value
    (begins_greater c.args.keys.now c.args.more.now c.in-Some.key.now c.in-Some-first-2.other.now
    (sym c.in-Some.ensures.value) (sym c.in-Some-first-2.ensures.value) c.requires (sym c.in-Greater.ensures))
