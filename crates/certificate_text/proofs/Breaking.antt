-- Where a text breaks.
use Rattle.std.proofs.Common.{◌≡◌, ℕ, ◌+◌, ◌<◌, ◌≤◌, inl, inr, true, ◌&&◌, List, [], ◌∷◌, ◌++◌, length, refl, sym, ◌∙◌, ap, subst, arith, append_assoc, append-nil, length-append}
use Rattle.std.specs.Prelude.{codes, nat_le}
use Rattle.std.specs.List.{AllByRecursion, flat_map}
use Rattle.std.proofs.lemmas.List.{append_cancel_left}
use Rattle.std.proofs.lemmas.Bool.{and_parts, le-leb, leb-true}
use Rattle.std.proofs.lemmas.List.Concat.{flat_map-append}
use Rattle.bound_certificate.specs.Formed.{branches, is_formed, is_formed_at}
use Rattle.bound_certificate.specs.Node.{Part}
use Rattle.certificate_text.specs.NodeHead.{IsSound}
use Rattle.certificate_text.specs.NodeLines.{BadLine}
use Rattle.certificate_text.specs.Parts.{parts_of, Begins, Stops}
use Rattle.certificate_text.specs.ReadText.{head_line, IsLine, ended, lines_text, IsOther, BeginsTree, BreaksAt}
use Rattle.certificate_text.specs.Text.{part_line, text_of}
use Rattle.certificate_text.specs.TextEnds.{end_line}
use Rattle.bound_certificate.specs.declared.tree.Tree.{Tree}
use Rattle.bound_certificate.specs.declared.tree.Tree.TheVariants.{Over}
use Rattle.bound_certificate.proofs.Counted.{formed_root}
use Rattle.certificate_text.proofs.Lines.{part_line_ended}
use Rattle.certificate_text.proofs.OneText.{whole_lines, same_behind}
use Rattle.certificate_text.proofs.Parts.{ends_by_itself}
use Rattle.certificate_text.proofs.Stopping.{formed-Over, branches-Over}
use Rattle.certificate_text.proofs.TextLines.{same_first_line, no_line_feed, one_extends, head_is_line, end_is_line}
use Rattle.certificate_text.proofs.TextParts.{all_append, all_front, all_behind, sound_parts, parts_apart, AreLines, lines_of_parts, text_of-parts}

-- a tree within its limits, from its root and its Branch nodes
pub formed_whole : (tree : Tree) → is_formed_at tree 0 ≡ true → branches tree ≤ 4096 → is_formed tree ≡ true
unfolding is_formed
formed_whole tree formed few = ap (λ own. own && nat_le (branches tree) 4096) formed ∙ le-leb (branches tree) 4096 few

pub few_branches : (tree : Tree) → is_formed tree ≡ true → branches tree ≤ 4096
unfolding is_formed
few_branches tree formed =
    leb-true (branches tree) 4096 (and_parts (is_formed_at tree 0) (nat_le (branches tree) 4096) formed).1

-- the lines of nodes that a tree begins with, behind the head line
begun_with : (tree : Tree) (parts rest : List Part) (are : AreLines parts) → parts_of tree ≡ parts ++ rest
    → text_of tree ≡ lines_text (head_line ∷ are.lines) ++ (flat_map part_line rest ++ codes "end\n")
begun_with tree parts rest are split =
    let end = codes "end\n" in
    text_of-parts tree
    ∙ ap (λ (ps : List Part). ended head_line ++ (flat_map part_line ps ++ end)) split
    ∙ ap (λ (lines : List ℕ). ended head_line ++ (lines ++ end)) (flat_map-append part_line parts rest)
    ∙ ap (λ (lines : List ℕ). ended head_line ++ lines)
    (append_assoc (flat_map part_line parts) (flat_map part_line rest) end)
    ∙ ap (λ (lines : List ℕ). ended head_line ++ (lines ++ (flat_map part_line rest ++ end))) are.text
    ∙ sym (append_assoc (ended head_line) (lines_text are.lines) (flat_map part_line rest ++ end))

-- a text that goes on behind these lines, without the head line
behind_head : (u : Tree) (parts : List Part) (are : AreLines parts) (rest : List ℕ)
    → text_of u ≡ lines_text (head_line ∷ are.lines) ++ rest
    → flat_map part_line (parts_of u) ++ codes "end\n" ≡ flat_map part_line parts ++ rest
behind_head u parts are rest same =
    append_cancel_left (ended head_line) (flat_map part_line (parts_of u) ++ codes "end\n")
    (flat_map part_line parts ++ rest)
    (sym (text_of-parts u) ∙ same ∙ append_assoc (ended head_line) (lines_text are.lines) rest
    ∙ ap (λ (lines : List ℕ). ended head_line ++ (lines ++ rest)) (sym are.text))

-- the text by the lines that were read
split_behind : (text rest next : List ℕ) (front : List (List ℕ)) (parts : List Part) (are : AreLines parts)
    → text ≡ lines_text front ++ (ended head_line ++ rest) → rest ≡ flat_map part_line parts ++ next
    → text ≡ lines_text front ++ (lines_text (head_line ∷ are.lines) ++ next)
split_behind text rest next front parts are is split =
    is ∙ ap (λ (rest : List ℕ). lines_text front ++ (ended head_line ++ rest))
    (split ∙ ap (λ (lines : List ℕ). lines ++ next) are.text)
    ∙ ap (λ (rest : List ℕ). lines_text front ++ rest)
    (sym (append_assoc (ended head_line) (lines_text are.lines) next))

-- no whole tree's nodes are the first ones of another
not_whole : (tree u : Tree) (parts rest more : List Part) → parts_of tree ≡ parts ++ rest → 0 < length rest
    → parts ≡ parts_of u ++ more → ⊥
not_whole tree u parts rest more split some pieces =
    let same = (ends_by_itself u tree (more ++ rest) []
    (sym (append_assoc (parts_of u) more rest) ∙ ap (λ (ps : List Part). ps ++ rest) (sym pieces) ∙ sym split
    ∙ sym (append-nil (parts_of tree)))).1 in
    omega (arith, some, ap length same, length-append more rest)

-- no node's line goes on with the tree where its reading stops
node_next : (rest : List ℕ) (count : ℕ) (stops : Stops part_line BadLine 0 4096 rest count) (line after more : List ℕ)
    (u : Tree) (qs : List Part) → IsLine line → stops.next ≡ ended line ++ after
    → is_formed u ≡ true → AllByRecursion IsSound qs → parts_of u ≡ stops.parts ++ qs
    → ended line ++ more ≡ flat_map part_line qs ++ codes "end\n" → ⊥
node_next rest count stops line after more u [] whole next formed sound split same =
    let begins = stops.going.begins in
    not_whole begins.tree u stops.parts begins.rest [] begins.split stops.going.more
    (sym (append-nil stops.parts) ∙ sym split ∙ sym (append-nil (parts_of u)))
node_next rest count stops line after more u (q ∷ qs) whole next formed sound split same =
    let spelled = part_line_ended q sound.0 in
    let behind = flat_map part_line qs ++ codes "end\n" in
    let lines : ended line ++ more ≡ ended spelled.0 ++ behind =
    same ∙ append_assoc (part_line q) (flat_map part_line qs) (codes "end\n")
    ∙ ap (λ (line : List ℕ). line ++ behind) spelled.2 in
    let first : ended line ≡ part_line q =
    ap ended (same_first_line line spelled.0 more behind whole spelled.1 lines).0 ∙ sym spelled.2 in
    let begins : Begins 0 4096 (stops.parts ++ q ∷ []) = record {
      tree = u;
      rest = qs;
      formed = formed_root u formed;
      few = few_branches u formed;
      split = split ∙ sym (append_assoc stops.parts (q ∷ []) qs);
    } in
    stops.bad q after begins (next ∙ ap (λ (line : List ℕ). line ++ after) first)

-- the nodes that were read are within their limits
sound_begun : (tree : Tree) (parts rest : List Part) → is_formed_at tree 0 ≡ true → parts_of tree ≡ parts ++ rest
    → AllByRecursion IsSound parts × AllByRecursion IsSound rest
sound_begun tree parts rest formed split =
    let sound = subst (λ (ps : List Part). AllByRecursion IsSound ps) split (sound_parts tree 0 formed) in
    (all_front IsSound parts rest sound, all_behind IsSound parts rest sound)

node_stuck : (rest : List ℕ) (count : ℕ) (stops : Stops part_line BadLine 0 4096 rest count)
    (are : AreLines stops.parts) (line after : List ℕ) → IsLine line → stops.next ≡ ended line ++ after
    → BeginsTree (lines_text (head_line ∷ are.lines) ++ ended line) → ⊥
node_stuck rest count stops are line after whole next (u, more, formed, is) =
    let begins = stops.going.begins in
    let parts = stops.parts in
    let same = behind_head u parts are (ended line ++ more)
    (is ∙ append_assoc (lines_text (head_line ∷ are.lines)) (ended line) more) in
    let sound_u = sound_parts u 0 (formed_root u formed) in
    let sound = (sound_begun begins.tree parts begins.rest begins.formed begins.split).0 in
    elim (one_extends part_line IsSound parts_apart (parts_of u) parts (codes "end\n")
    (ended line ++ more) sound_u sound same) [
      | inl behind ↦ not_whole begins.tree u parts begins.rest behind.more begins.split stops.going.more behind.pieces
      | inr before ↦
          node_next rest count stops line after more u before.more whole next formed
          (sound_begun u parts before.more (formed_root u formed) before.pieces).1 before.pieces before.rest
    ]

node_unfinished : (rest : List ℕ) (count : ℕ) (stops : Stops part_line BadLine 0 4096 rest count)
    (are : AreLines stops.parts) (u : Tree) → is_formed u ≡ true → text_of u ≡ lines_text (head_line ∷ are.lines) → ⊥
node_unfinished rest count stops are u formed is =
    let begins = stops.going.begins in
    let parts = stops.parts in
    let same = behind_head u parts are [] (is ∙ sym (append-nil (lines_text (head_line ∷ are.lines)))) in
    let sound_u = sound_parts u 0 (formed_root u formed) in
    let sound = (sound_begun begins.tree parts begins.rest begins.formed begins.split).0 in
    elim (one_extends part_line IsSound parts_apart (parts_of u) parts (codes "end\n") [] sound_u sound same) [
      | inl behind ↦ not_whole begins.tree u parts begins.rest behind.more begins.split stops.going.more behind.pieces
      | inr before ↦ omega
          (arith, ap length before.rest, length-append (flat_map part_line before.more) (codes "end\n"))
    ]

-- the text breaks where the reading of its tree stops
pub broken_node : (text rest : List ℕ) (front : List (List ℕ)) (count : ℕ) → AllByRecursion IsOther front
    → text ≡ lines_text front ++ (ended head_line ++ rest) → Stops part_line BadLine 0 4096 rest count
    → BreaksAt text (length front + 2 + count)
broken_node text rest front count passed is stops =
    let begins = stops.going.begins in
    let are = lines_of_parts stops.parts
    (sound_begun begins.tree stops.parts begins.rest begins.formed begins.split).0 in
    record {
      front = front;
      good = head_line ∷ are.lines;
      rest = stops.next;
      passed = passed;
      lines = (head_is_line, are.each);
      headed = inl (omega arith);
      begun = (
        begins.tree,
        flat_map part_line begins.rest ++ codes "end\n",
        formed_whole begins.tree begins.formed begins.few,
        begun_with begins.tree stops.parts begins.rest are begins.split,
      );
      stuck = node_stuck rest count stops are;
      unfinished = λ u formed same. absurd (node_unfinished rest count stops are u formed same);
      parts = split_behind text rest stops.next front stops.parts are is stops.split;
      place = omega (arith, stops.number, are.count);
    }

-- the text breaks at its last line, where that is the head line without its line feed
pub broken_head : (text : List ℕ) (front : List (List ℕ)) → AllByRecursion IsOther front
    → text ≡ lines_text front ++ head_line → BreaksAt text (length front + 1)
broken_head text front passed is = record {
  front = front;
  good = [];
  rest = head_line;
  passed = passed;
  lines = tt;
  headed = inr refl;
  begun = (Over, text_of Over, formed_whole Over (formed-Over 0) (omega (arith, branches-Over)), refl);
  stuck = λ line after whole same begins. no_line_feed head_line line after head_is_line same;
  unfinished = λ u formed same. omega arith;
  parts = is;
  place = omega arith;
}

-- behind the lines of a tree stands the end line alone
end_stuck : (tree : Tree) (are : AreLines (parts_of tree)) (behind line after : List ℕ) → is_formed_at tree 0 ≡ true
    → ((after : List ℕ) → behind ≡ ended end_line ++ after → ⊥) → IsLine line → behind ≡ ended line ++ after
    → BeginsTree (lines_text (head_line ∷ are.lines) ++ ended line) → ⊥
end_stuck tree are behind line after root none whole same (u, more, formed, begins) =
    let lines = behind_head u (parts_of tree) are (ended line ++ more)
    (begins ∙ append_assoc (lines_text (head_line ∷ are.lines)) (ended line) more) in
    let last = same_behind u tree (codes "end\n") (ended line ++ more) (formed_root u formed) root lines in
    none after (same ∙ ap (λ (line : List ℕ). ended line ++ after)
    (sym (same_first_line end_line line [] more end_is_line whole last).0))

end_unfinished : (tree : Tree) (are : AreLines (parts_of tree)) (u : Tree) → is_formed_at tree 0 ≡ true
    → is_formed u ≡ true → text_of u ≡ lines_text (head_line ∷ are.lines) → ⊥
end_unfinished tree are u root formed same =
    let lines = behind_head u (parts_of tree) are [] (same ∙ sym (append-nil (lines_text (head_line ∷ are.lines)))) in
    let last = same_behind u tree (codes "end\n") [] (formed_root u formed) root lines in
    omega (arith, ap length last)

-- the text breaks behind the lines of a tree, where the end line doesn't follow
pub broken_end : (text rest behind : List ℕ) (front : List (List ℕ)) (tree : Tree) → AllByRecursion IsOther front
    → text ≡ lines_text front ++ (ended head_line ++ rest) → is_formed tree ≡ true
    → rest ≡ flat_map part_line (parts_of tree) ++ behind → ((after : List ℕ) → behind ≡ ended end_line ++ after → ⊥)
    → BreaksAt text (length front + 2 + length (parts_of tree))
broken_end text rest behind front tree passed is formed split none =
    let root = formed_root tree formed in
    let are = lines_of_parts (parts_of tree) (sound_parts tree 0 root) in
    record {
      front = front;
      good = head_line ∷ are.lines;
      rest = behind;
      passed = passed;
      lines = (head_is_line, are.each);
      headed = inl (omega arith);
      begun = (tree, codes "end\n", formed, begun_with tree (parts_of tree) [] are (sym (append-nil (parts_of tree))));
      stuck = λ line after. end_stuck tree are behind line after root none;
      unfinished = λ u formed same. absurd (end_unfinished tree are u root formed same);
      parts = split_behind text rest behind front (parts_of tree) are is split;
      place = omega (arith, are.count);
    }

-- behind the end line of a tree's text stands nothing
behind_end : (u tree : Tree) (are : AreLines (parts_of tree)) (line more : List ℕ) → is_formed u ≡ true
    → is_formed_at tree 0 ≡ true
    → text_of u ≡ (lines_text (head_line ∷ (are.lines ++ end_line ∷ [])) ++ ended line) ++ more → ⊥
behind_end u tree are line more formed root begins =
    let end = codes "end\n" in
    let last = ended line ++ more in
    let whole : text_of u ≡ lines_text (head_line ∷ are.lines) ++ (end ++ last) =
    begins ∙ append_assoc (lines_text (head_line ∷ (are.lines ++ end_line ∷ []))) (ended line) more
    ∙ ap (λ (lines : List ℕ). lines ++ last) (flat_map-append ended (head_line ∷ are.lines) (end_line ∷ []))
    ∙ append_assoc (lines_text (head_line ∷ are.lines)) end last in
    let same = same_behind u tree end (end ++ last) (formed_root u formed) root
    (behind_head u (parts_of tree) are (end ++ last) whole) in
    omega (
      arith,
      ap length same,
      length-append end last,
      length-append (ended line) more,
      length-append line
          (codes "\n"),
    )

-- the text breaks behind the end line, where something follows
pub broken_behind : (text rest behind : List ℕ) (front : List (List ℕ)) (tree : Tree) → AllByRecursion IsOther front
    → text ≡ lines_text front ++ (ended head_line ++ rest) → is_formed tree ≡ true
    → rest ≡ flat_map part_line (parts_of tree) ++ (ended end_line ++ behind) → 0 < length behind
    → BreaksAt text (length front + 3 + length (parts_of tree))
broken_behind text rest behind front tree passed is formed split some =
    let root = formed_root tree formed in
    let are = lines_of_parts (parts_of tree) (sound_parts tree 0 root) in
    let lines = flat_map part_line (parts_of tree) in
    let good = head_line ∷ (are.lines ++ end_line ∷ []) in
    record {
      front = front;
      good = good;
      rest = behind;
      passed = passed;
      lines = (head_is_line, all_append IsLine are.lines (end_line ∷ []) are.each (end_is_line, tt));
      headed = inl (omega arith);
      begun = (tree, [], formed, whole_lines tree are ∙ sym (append-nil (lines_text good)));
      stuck = λ line after whole same (u, more, formed_u, begins). behind_end u tree are line more formed_u root begins;
      unfinished = λ u formed_u same. some;
      parts = is ∙ ap (λ (rest : List ℕ). lines_text front ++ (ended head_line ++ rest))
          (split ∙ sym (append_assoc lines (ended end_line) behind))
          ∙ ap (λ (rest : List ℕ). lines_text front ++ rest)
          (sym (append_assoc (ended head_line) (lines ++ ended end_line) behind))
          ∙ ap (λ (text : List ℕ). lines_text front ++ (text ++ behind))
          (sym (text_of-parts tree) ∙ whole_lines tree are);
      place = omega (arith, are.count, length-append are.lines (end_line ∷ []));
    }
