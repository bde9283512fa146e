use Rattle.std.proofs.Common.{◌≡◌, ◌+◌, ◌-◌, ◌≤◌, ◌++◌, ℕ, List, [], ◌∷◌, take, drop, length, refl, sym, ap, subst, arith, rules, length-append}
use Rattle.job_format.specs.declared.item.Item.{Item}
use Rattle.child_jobs.specs.Items.{IsItemBehind, ReadsItems, place_in_frame}
use Rattle.child_jobs.proofs.Frames.{reads_next, reads_none}
use Rattle.child_jobs.proofs.items.read_items.Goals as goal

pub loop-left-init : goal.loop-left-init
loop-left-init c = (
  omega arith,
  λ h items. reads_none (place_in_frame h items c.args.weight c.args.left) c.args.frame.now.items,
  refl,
  c.requires.room,
)

pub loop-left-preserved : goal.loop-left-preserved
loop-left-preserved c =
    let item : Item = c.in-Some.item in
    let more : c.push.new.self.items ≡ c.loop-left.frame.items ++ item ∷ [] = search rules in
    let fits : c.loop-left.taken + 48 ≤ length c.args.piece.now = omega (arith, c.loop-left.invariant.0, c.if-piece-taken-ge48.true) in
    let size : c.loop-left.taken + 48 - c.loop-left.taken ≡ 48 = omega arith in (
      fits,
      λ h items. subst (λ (l : List Item). ReadsItems (place_in_frame h items c.args.weight c.args.left)
          (place_in_frame h items (c.loop-left.weight + c.from-weight.result) (c.loop-left.left - 1))
          (take (c.loop-left.taken + 48) c.args.piece.now) c.args.frame.now.items l) (sym more)
          (subst (λ (w : ℕ). ReadsItems (place_in_frame h items c.args.weight c.args.left)
          (place_in_frame h items (c.loop-left.weight + w) (c.loop-left.left - 1))
          (take (c.loop-left.taken + 48) c.args.piece.now) c.args.frame.now.items (c.loop-left.frame.items ++ item ∷ []))
          (sym c.from-weight.ensures)
          (reads_next h items c.loop-left.weight c.loop-left.left (place_in_frame h items c.args.weight c.args.left)
          c.args.piece.now c.loop-left.taken item c.args.frame.now.items c.loop-left.frame.items
          (omega (arith, c.loop-left-test.true)) fits (c.loop-left.invariant.1 h items)
          (subst (λ (n : ℕ). IsItemBehind c.loop-left.weight (take n (drop c.loop-left.taken c.args.piece.now)) item)
          size c.in-Some.ensures.item))),
      omega (arith, c.loop-left.invariant.2, c.loop-left-test.true, ap length more, length-append c.loop-left.frame.items (item ∷ [])),
      search rules,
    )
