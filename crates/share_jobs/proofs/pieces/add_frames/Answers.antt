use Rattle.std.proofs.Common.{◌≡◌, ◌∷◌, ◌++◌, ℕ, List, [], map, ap, ◌∙◌, arith, rules, length, length-append, Vec, Global}
use Rattle.std.proofs.lemmas.List.{map-append}
use Rattle.share_jobs.proofs.Frames.{added_more, added_none}
use Rattle.share_jobs.proofs.pieces.add_frames.Goals as goal

abbrev bytes_in : Vec ℕ Global → List ℕ
bytes_in piece = piece.items

pub loop-done-init : goal.loop-done-init
loop-done-init c = (omega arith, added_none (map bytes_in c.args.pieces.now.items) c.args.items.now, omega arith)

pub loop-done-preserved : goal.loop-done-preserved
loop-done-preserved c =
    let grown : c.push.new.self.items ≡ c.loop-done.pieces.items ++ c.in_ok-piece.piece ∷ [] = search rules in
    let bytes : map bytes_in c.push.new.self.items ≡ map bytes_in c.loop-done.pieces.items ++ c.in_ok-piece.piece.items ∷ [] =
    ap (map bytes_in) grown ∙ map-append bytes_in c.loop-done.pieces.items (c.in_ok-piece.piece ∷ []) in
    let size = ap length grown ∙ length-append c.loop-done.pieces.items (c.in_ok-piece.piece ∷ []) in (
      omega (arith, c.min-end.ensures),
      added_more (map bytes_in c.args.pieces.now.items) (map bytes_in c.loop-done.pieces.items)
          (map bytes_in c.push.new.self.items) c.args.items.now c.loop-done.done c.min-end.result
          (omega arith) (omega (arith, c.min-end.ensures)) (omega (arith, c.min-end.ensures))
          (omega (arith, c.min-end.ensures)) (λ more. omega (arith, c.min-end.ensures)) c.loop-done.invariant.1
          (bytes ∙ ap (λ (piece : List ℕ). map bytes_in c.loop-done.pieces.items ++ piece ∷ []) c.in_ok-piece.ensures),
      omega (arith, size, c.min-end.ensures, c.loop-done.invariant.2),
    )
