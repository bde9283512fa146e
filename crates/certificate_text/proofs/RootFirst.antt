-- The text and the bytes of a tree, root first.
use Rattle.std.proofs.Common.{◌≡◌, ℕ, List, ◌++◌, map, ◌∙◌, ap}
use Rattle.std.specs.List.{concat}
use Rattle.bound_certificate.specs.Node.{Part}
use Rattle.bound_certificate.specs.Tree.{children_step, part_of, children_of}
use Rattle.certificate_text.specs.Text.{part_line, lines_step, lines_of}
use Rattle.certificate_text.specs.Bytes.{part_bytes, bytes_step, bytes_of}
use Rattle.bound_certificate.specs.declared.tree.Tree.{Tree}
use Rattle.bound_certificate.specs.declared.tree.Tree.TheFolds.{fold-Tree, map-Tree, fold_out-Tree}
use Rattle.bound_certificate.specs.declared.tree.Tree.TheViews.{out-Tree}
use Rattle.bound_certificate.proofs.Trees.{part_step-map, children_step-map}

pub lines_of-out : (tree : Tree) → lines_of tree ≡ part_line (part_of tree) ++ concat (map lines_of (children_of tree))
unfolding lines_of
lines_of-out tree =
    let fold = fold-Tree (List ℕ) lines_step in
    let layer = map-Tree Tree (List ℕ) fold (out-Tree tree) in
    fold_out-Tree (List ℕ) lines_step tree
    ∙ ap (λ (part : Part). part_line part ++ concat (children_step layer)) (part_step-map fold (out-Tree tree))
    ∙ ap (λ (parts : List (List ℕ)). part_line (part_of tree) ++ concat parts) (children_step-map fold (out-Tree tree))

pub bytes_of-out : (tree : Tree) → bytes_of tree ≡ part_bytes (part_of tree) ++ concat (map bytes_of (children_of tree))
unfolding bytes_of
bytes_of-out tree =
    let fold = fold-Tree (List ℕ) bytes_step in
    let layer = map-Tree Tree (List ℕ) fold (out-Tree tree) in
    fold_out-Tree (List ℕ) bytes_step tree
    ∙ ap (λ (part : Part). part_bytes part ++ concat (children_step layer)) (part_step-map fold (out-Tree tree))
    ∙ ap (λ (parts : List (List ℕ)). part_bytes (part_of tree) ++ concat parts) (children_step-map fold (out-Tree tree))
