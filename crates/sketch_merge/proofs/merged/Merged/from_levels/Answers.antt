use Rattle.std.proofs.Common.{◌^◌, ℕ, ◌+◌, ◌*◌, List, Vec, Global, length, sym, ◌∙◌, ap, arith}
use Rattle.std.specs.Cmp.Lexicographic.{slice_cmp}
use Rattle.std.specs.List.Sorted.{IsStrictlySortedBy}
use Rattle.std.specs.Ordering.{nat_cmp}
use Rattle.std.proofs.lemmas.List.{length-map}
use Rattle.std.proofs.lemmas.List.Elements.{All-map}
use Rattle.count_sketch.proofs.Shares.{AllUpTo-more}
use Rattle.sketch_merge.specs.Levels.{levels_of}
use Rattle.sketch_merge.proofs.LevelLists.{bound-levels_of, joined-levels_of, parts-levels_of}
use Rattle.sketch_merge.proofs.Views.{AllUpTo-more_each, some_counters}
use Rattle.sketch_merge.proofs.merged.Merged.from_levels.Goals as goal

abbrev keys_view : Vec (List ℕ) Global → List (List ℕ)
keys_view level = level.items

pub invariant_of-result : goal.invariant_of-result
invariant_of-result c = record {
  within = c.args.params.within;
  number = c.requires.shape;
  small = AllUpTo-more c.args.weight (2 ^ 45) c.args.counters.items (omega (arith, c.requires.light)) c.requires.small;
  key_levels = length-map c.args.keys.items keys_view ∙ c.requires.levels;
  ascending = All-map (IsStrictlySortedBy (slice_cmp nat_cmp)) keys_view c.args.keys.items c.requires.ascending;
}

pub returns-clause-counters : goal.returns-clause-counters
returns-clause-counters c = λ parts each joined.
    let levels : ℕ = c.args.params.levels + 1 in
    let size : ℕ = c.args.params.rows * c.args.params.width in
    let some = some_counters c.args.params.levels c.args.params.rows c.args.params.width c.args.params.heap
    c.args.params.within in
    ap (levels_of levels size) (sym joined)
    ∙ parts-levels_of levels size parts some (ap length joined ∙ c.requires.shape) each

pub returns-clause-joined : goal.returns-clause-joined
returns-clause-joined c =
    joined-levels_of (c.args.params.levels + 1) (c.args.params.rows * c.args.params.width) c.args.counters.items
    c.requires.shape

pub returns-clause-bound : goal.returns-clause-bound
returns-clause-bound c =
    bound-levels_of c.args.weight (c.args.params.levels + 1) (c.args.params.rows * c.args.params.width)
    c.args.counters.items c.requires.small

pub returns-clause-small : goal.returns-clause-small
returns-clause-small c =
    AllUpTo-more_each c.args.weight (2 ^ 44) _ c.requires.light
    (bound-levels_of c.args.weight (c.args.params.levels + 1) (c.args.params.rows * c.args.params.width)
    c.args.counters.items c.requires.small)
