use Rattle.std.proofs.lemmas.List.{take_rest}
use Rattle.sketch_merge.proofs.Unions.{ascending-drop}
use Rattle.sketch_merge.proofs.union.union.Goals as goal

pub next_of-requires : goal.next_of-requires
next_of-requires c =
    rw (take_rest c.args.more.now c.loop-next.of_more) (ascending-drop c.loop-next.of_more c.args.more.now c.requires)
