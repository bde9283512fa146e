-- The nodes of a tree within its limits as lines of its text.
use Rattle.std.proofs.Common.{◌≡◌, ℕ, ◌+◌, true, ◌&&◌, List, [], ◌∷◌, ◌++◌, length, map, refl, sym, ◌∙◌, ap, subst}
use Rattle.std.specs.Prelude.{codes, nat_le, nat_lt}
use Rattle.std.specs.List.{AllByRecursion, flat_map, list_all}
use Rattle.std.proofs.lemmas.Bool.{and_parts}
use Rattle.bound_certificate.specs.Formed.{is_formed_part, is_formed_at}
use Rattle.bound_certificate.specs.Node.{Part, BranchPart, OverPart, HallPart, DualPart, FullPart}
use Rattle.certificate_text.specs.NodeHead.{IsSound}
use Rattle.certificate_text.specs.Parts.{parts_of}
use Rattle.certificate_text.specs.ReadText.{head_line, IsLine, ended, lines_text}
use Rattle.certificate_text.specs.Text.{part_line, text_of}
use Rattle.bound_certificate.specs.Tree.{part_of, children_of}
use Rattle.bound_certificate.specs.declared.tree.Tree.{Tree}
use Rattle.certificate_text.proofs.Lines.{part_line_injective, part_line_ended}
use Rattle.certificate_text.proofs.Parts.{parts_of-out, lines_of-parts}
use Rattle.certificate_text.proofs.TextLines.{same_first_line, IsApart}
use Rattle.bound_certificate.proofs.Trees.{is_formed_at-parts, tree_induction}

-- a node within its limits at some depth is so wherever it stands
pub sound_at : (d : ℕ) (part : Part) → is_formed_part d part ≡ true → IsSound part
sound_at d (BranchPart n) formed =
    let outer = and_parts (nat_lt d 64 && nat_le 1 n) (nat_le n 8) formed in
    let inner = and_parts (nat_lt d 64) (nat_le 1 n) outer.0 in
    ap (λ b. b && nat_le n 8) inner.1 ∙ outer.1
sound_at d OverPart formed = formed
sound_at d (HallPart names) formed = formed
sound_at d (DualPart lambda mu) formed = formed
sound_at d FullPart formed = formed

pub all_append : {X : Type 0} (P : X → Type 0) (f g : List X) → AllByRecursion P f → AllByRecursion P g
    → AllByRecursion P (f ++ g)
all_append P [] g each_f each_g = each_g
all_append P (x ∷ f) g each_f each_g = (each_f.0, all_append P f g each_f.1 each_g)

pub all_front : {X : Type 0} (P : X → Type 0) (f g : List X) → AllByRecursion P (f ++ g) → AllByRecursion P f
all_front P [] g each = tt
all_front P (x ∷ f) g each = (each.0, all_front P f g each.1)

pub all_behind : {X : Type 0} (P : X → Type 0) (f g : List X) → AllByRecursion P (f ++ g) → AllByRecursion P g
all_behind P [] g each = each
all_behind P (x ∷ f) g each = all_behind P f g each.1

-- the nodes of a tree within its limits are within theirs
IsSoundTree : Tree → Type 0
IsSoundTree tree = (d : ℕ) → is_formed_at tree d ≡ true → AllByRecursion IsSound (parts_of tree)

sound_below : (ts : List Tree) → AllByRecursion IsSoundTree ts → (d : ℕ)
    → list_all (λ child. child d) (map is_formed_at ts) ≡ true → AllByRecursion IsSound (flat_map parts_of ts)
unfolding IsSoundTree
sound_below [] each d formed = tt
sound_below (t ∷ ts) each d formed =
    let parts = and_parts (is_formed_at t d) (list_all (λ child. child d) (map is_formed_at ts)) formed in
    all_append IsSound (parts_of t) (flat_map parts_of ts) (each.0 d parts.0) (sound_below ts each.1 d parts.1)

sound_tree : (tree : Tree) → IsSoundTree tree
unfolding IsSoundTree
sound_tree = tree_induction IsSoundTree (λ tree each d formed.
    let parts = is_formed_at-parts tree d formed in
    subst (λ ps. AllByRecursion IsSound ps) (sym (parts_of-out tree))
    (sound_at d (part_of tree) parts.0, sound_below (children_of tree) each (d + 1) parts.1))

pub sound_parts : (tree : Tree) (d : ℕ) → is_formed_at tree d ≡ true → AllByRecursion IsSound (parts_of tree)
unfolding IsSoundTree
sound_parts = sound_tree

-- no line of a node begins another one's
pub parts_apart : IsApart part_line IsSound
parts_apart = record {
  first = λ p q x y sound_p sound_q same.
      let a = part_line_ended p sound_p in
      let b = part_line_ended q sound_q in
      let lines : ended a.0 ++ x ≡ ended b.0 ++ y =
      ap (λ (line : List ℕ). line ++ x) (sym a.2) ∙ same ∙ ap (λ (line : List ℕ). line ++ y) b.2 in
      let first = same_first_line a.0 b.0 x y a.1 b.1 lines in
      (part_line_injective p q sound_p sound_q (a.2 ∙ ap ended first.0 ∙ sym b.2), first.1);
}

-- as many lines as nodes
pub record AreLines (parts : List Part) : Type 0 where
  pub lines : List (List ℕ)
  pub each : AllByRecursion IsLine lines
  pub count : length lines ≡ length parts
  pub text : flat_map part_line parts ≡ lines_text lines

pub lines_of_parts : (parts : List Part) → AllByRecursion IsSound parts → AreLines parts
lines_of_parts [] sound = record { lines = []; each = tt; count = refl; text = refl }
lines_of_parts (part ∷ parts) sound =
    let here = part_line_ended part sound.0 in
    let later = lines_of_parts parts sound.1 in
    record {
      lines = here.0 ∷ later.lines;
      each = (here.1, later.each);
      count = cc;
      text = λ i. here.2 i ++ later.text i;
    }

-- a tree's text is the head line, the lines of its nodes and the end line
pub text_of-parts : (tree : Tree)
    → text_of tree ≡ ended head_line ++ (flat_map part_line (parts_of tree) ++ codes "end\n")
unfolding text_of
text_of-parts tree = ap (λ (lines : List ℕ). ended head_line ++ (lines ++ codes "end\n")) (lines_of-parts tree)
