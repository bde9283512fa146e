-- A text is always read as something: a tree, or its first fault.
use Rattle.std.proofs.Common.{◌≡◌, ℕ, suc, zero, ◌+◌, ◌-◌, ◌≤◌, ◌<◌, ◌⊎◌, inl, inr, true, ◌&&◌, cond, List, [], ◌∷◌, ◌++◌, length, Option, Some, None, Result, Ok, Err, refl, ◌∙◌, ap, subst, arith, append-nil, length-append}
use Rattle.std.specs.Prelude.{codes, nat_le, nat_lt}
use Rattle.std.proofs.lemmas.Bool.{cases_lt, lt-ltb, le-leb}
use Rattle.std.proofs.lemmas.Bool.Decides.{nat_tests}
use Rattle.bound_certificate.specs.Formed.{is_formed_part}
use Rattle.bound_certificate.specs.Tree.{is_branch}
use Rattle.certificate_text.specs.Cursor.{HasPassed}
use Rattle.certificate_text.specs.NodeHead.{head_part, IsSound}
use Rattle.certificate_text.specs.NodeLines.{IsNodeRead, ReadsNode, IsHeadRead, IsTreeRead, AreTreesRead, IsStopped, AreStopped}
use Rattle.certificate_text.specs.Parts.{CanStand}
use Rattle.certificate_text.specs.ReadText.{text_limit, head_line, IsLine, ended, lines_text, ReadsText}
use Rattle.certificate_text.specs.TextEnds.{HavePassed, IsHeadPassed, IsHeadless, end_line, IsNotEnded}
use Rattle.certificate_text.specs.declared.cursor.Cursor.{Cursor}
use Rattle.certificate_text.specs.declared.fault.CertFault.{CertFault}
use Rattle.certificate_text.specs.declared.fault.CertFault.TheVariants.{TooLong, NoTree, Line}
use Rattle.certificate_text.specs.declared.node_head.NodeHead.{NodeHead}
use Rattle.certificate_text.specs.declared.node_head.NodeHead.TheVariants.{Branch, Over, Hall, Dual, Full}
use Rattle.bound_certificate.specs.declared.tree.Tree.{Tree}
use Rattle.bound_certificate.specs.declared.tree.Tree.TheVariants.{Branch as TreeBranch, Over as TreeOver, Hall as TreeHall, Dual as TreeDual, Full as TreeFull}
use Rattle.certificate_text.proofs.ByteParts.{both_true}
use Rattle.certificate_text.proofs.LineAnswers.{same_or_not, same_list_or_not, empty_or_not, word_answer, line_answer}
use Rattle.certificate_text.proofs.Lines.{sound_branch}
use Rattle.certificate_text.proofs.NodeLines.{last_is_bad, reads_node, none_stops, refused_stops, rooted, no_trees, leaf_read, trees_more, branch_stops, child_stops}
use Rattle.certificate_text.proofs.TextEnds.{passes_other, head_cut}
use Rattle.certificate_text.proofs.TextReading.{Begun, head_fails, nodes_fail, end_fails, tree_reads}
use Rattle.bound_certificate.proofs.Trees.{part_of-Branch, part_of-Over, part_of-Hall, part_of-Dual, part_of-Full, children_of-Branch, children_of-Over, children_of-Hall, children_of-Dual, children_of-Full}

-- the first line, or none
cut_answer : (bytes : List ℕ)
    → IsLine bytes ⊎ ((line after : List ℕ) × IsLine line × (bytes ≡ ended line ++ after))
cut_answer [] = inl tt
cut_answer (b ∷ bytes) =
    elim (same_or_not b 10) [
      | inl feed ↦ inr ([], bytes, tt, λ i. feed i ∷ bytes)
      | inr other ↦ elim (cut_answer bytes) [
        | inl whole ↦ inl (other, whole)
        | inr found ↦ inr (b ∷ found.0, found.1, (other, found.2), ap (λ (xs : List ℕ). b ∷ xs) found.3)
      ]
    ]

-- the cursor behind a line
behind : Cursor → List ℕ → Cursor
behind before after =
    record { rest = record { ref_ptr = (0, 0); now = after }; number = before.number + 1; branches = before.branches }

passed_line : (before : Cursor) (line after : List ℕ) → IsLine line → before.rest.now ≡ ended line ++ after
    → HasPassed before (behind before after) line
unfolding behind
passed_line before line after whole split = record {
  whole = whole;
  split = split;
  number = refl;
  branches = refl;
  room = omega (arith, ap length split, length-append (ended line) after, length-append line (codes "\n"));
}

-- the next node, or none
node_answer : (before : Cursor) → (after : Cursor) × (read : Option NodeHead) × ReadsNode before after read
node_answer before =
    elim (cut_answer before.rest.now) [
      | inl whole ↦ (before, None, last_is_bad before.rest.now whole)
      | inr found ↦
          let after = behind before found.1 in
          let passed = passed_line before found.0 found.1 found.2 found.3 in
          let read = line_answer found.0 in
          (after, read.0, reads_node before after found.0 read.0 passed read.1)
    ]

-- a node that can stand there, or can't
StandAnswer : ℕ → ℕ → NodeHead → Type 0
StandAnswer d b head =
    ((left : ℕ) × (is_formed_part d (head_part head) ≡ true) ×
    (b ≡ cond {A = ℕ} (is_branch (head_part head)) 1 0 + left))
    ⊎ (CanStand d b (head_part head) → ⊥)

branch_deep : (d c : ℕ) → 64 ≤ d → is_formed_part d (head_part (Branch c)) ≡ true → ⊥
branch_deep d c deep formed = absurd (grind (arith, nat_tests, deep, formed))

stand_answer : (d b : ℕ) (head : NodeHead) → IsSound (head_part head) → StandAnswer d b head
unfolding StandAnswer
stand_answer d b (Branch c) sound =
    let range = sound_branch c sound in
    elim (cases_lt d 64) [
      | inr deep ↦ inr (λ can. branch_deep d c deep can.formed)
      | inl above ↦ elim (cases_lt 0 b) [
        | inr none ↦ inr (λ can. absurd (omega (arith, none, can.few refl)))
        | inl some ↦ inl (
          b - 1,
          both_true (nat_lt d 64 && nat_le 1 c) (nat_le c 8)
              (both_true (nat_lt d 64) (nat_le 1 c) (lt-ltb d 64 above) (le-leb 1 c range.0)) (le-leb c 8 range.1),
          omega (arith, some),
        )
      ]
    ]
stand_answer d b Over sound = inl (b, refl, omega arith)
stand_answer d b (Hall names) sound = inl (b, sound, omega arith)
stand_answer d b (Dual lambda mu) sound = inl (b, sound, omega arith)
stand_answer d b Full sound = inl (b, refl, omega arith)

HeadAnswer : ℕ → Cursor → Type 0
HeadAnswer d before =
    ((after : Cursor) × (head : NodeHead) × IsHeadRead d before after head) ⊎ IsStopped d before (Line before.number)

head_stands : (d : ℕ) (before after : Cursor) (head : NodeHead) → IsNodeRead before after head
    → StandAnswer d before.branches head → HeadAnswer d before
unfolding StandAnswer HeadAnswer
head_stands d before after head read stands =
    elim stands [
      | inr refused ↦ inr (refused_stops d before after head read refused)
      | inl left ↦ inl (
        record { rest = after.rest; number = after.number; branches = left.0 },
        head,
        record { formed = left.1; split = read.split; number = read.number; branches = left.2; room = read.room },
      )
    ]

head_read : (d : ℕ) (before after : Cursor) (read : Option NodeHead) → ReadsNode before after read → HeadAnswer d before
unfolding HeadAnswer
head_read d before after None bad = inr (none_stops d before bad)
head_read d before after (Some head) read =
    head_stands d before after head read (stand_answer d before.branches head read.sound)

head_answer : (d : ℕ) (before : Cursor) → HeadAnswer d before
head_answer d before = let node = node_answer before in head_read d before node.0 node.1 node.2

-- a tree, or the line on which its reading stops
TreeAnswer : ℕ → Cursor → Type 0
TreeAnswer d before =
    ((after : Cursor) × (tree : Tree) × IsTreeRead d before after tree)
    ⊎ ((number : ℕ) × IsStopped d before (Line number))

TreesAnswer : ℕ → ℕ → Cursor → Type 0
TreesAnswer d n before =
    ((after : Cursor) × (trees : List Tree) × (length trees ≡ n) × AreTreesRead d before after trees)
    ⊎ ((number : ℕ) × AreStopped d n before (Line number))

trees_from : (d n : ℕ) → ((cursor : Cursor) → TreeAnswer d cursor) → (before : Cursor) (k i : ℕ) (mid : Cursor)
    (trees : List Tree) → i + k ≡ n → length trees ≡ i → AreTreesRead d before mid trees → TreesAnswer d n before
unfolding TreeAnswer TreesAnswer
trees_from d n each before zero i mid trees is size read = inl (mid, trees, omega (arith, is, size), read)
trees_from d n each before (suc k) i mid trees is size read =
    elim (each mid) [
      | inl found ↦
          let more = trees ++ found.1 ∷ [] in
          trees_from d n each before k (i + 1) found.0 more (omega (arith, is))
          (length-append trees (found.1 ∷ []) ∙ omega (arith, size))
          (trees_more d before mid found.0 trees found.1 read found.2)
      | inr failed ↦
          let count : n ≡ length trees + suc k = omega (arith, is, size) in
          inr (failed.0, child_stops d n k before mid trees (Line failed.0) read count failed.1)
    ]

branch_answer : (d c : ℕ) (before mid : Cursor) → IsHeadRead d before mid (Branch c) → TreesAnswer (d + 1) c mid
    → TreeAnswer d before
unfolding TreeAnswer TreesAnswer
branch_answer d c before mid read answer =
    elim answer [
      | inl found ↦
          let ts = found.1 in
          let root = part_of-Branch ts ∙ ap (λ (n : ℕ). head_part (Branch n)) found.2 in (
          inl (
            found.0,
            TreeBranch ts,
            rooted d before mid found.0 (Branch c) (TreeBranch ts) ts root (children_of-Branch ts) read found.3,
          )
          )
      | inr failed ↦ inr (failed.0, branch_stops d c before mid (Line failed.0) read failed.1)
    ]

root_answer : (d : ℕ) (before mid : Cursor) (head : NodeHead) → IsHeadRead d before mid head
    → (d < 64 → (cursor : Cursor) → TreeAnswer (d + 1) cursor) → TreeAnswer d before
unfolding TreeAnswer
root_answer d before mid (Branch c) read each =
    elim (cases_lt d 64) [
      | inr deep ↦ absurd (branch_deep d c deep read.formed)
      | inl above ↦
          branch_answer d c before mid read
          (trees_from (d + 1) c (each above) mid c 0 mid [] (omega arith) refl (no_trees (d + 1) mid))
    ]
root_answer d before mid Over read each =
    inl (mid, TreeOver, leaf_read d before mid Over TreeOver part_of-Over children_of-Over read)
root_answer d before mid (Hall names) read each =
    let root = part_of-Hall names in
    inl (mid, TreeHall names, leaf_read d before mid (Hall names) (TreeHall names) root (children_of-Hall names) read)
root_answer d before mid (Dual lambda mu) read each =
    let root = part_of-Dual lambda mu in
    let tree = TreeDual lambda mu in
    inl (mid, tree, leaf_read d before mid (Dual lambda mu) tree root (children_of-Dual lambda mu) read)
root_answer d before mid Full read each =
    inl (mid, TreeFull, leaf_read d before mid Full TreeFull part_of-Full children_of-Full read)

headed_answer : (d : ℕ) (before : Cursor) → HeadAnswer d before
    → (d < 64 → (cursor : Cursor) → TreeAnswer (d + 1) cursor) → TreeAnswer d before
unfolding HeadAnswer TreeAnswer
headed_answer d before head each =
    elim head [
      | inl found ↦ root_answer d before found.0 found.1 found.2 each
      | inr stopped ↦ inr (before.number, stopped)
    ]

tree_answer : (f d : ℕ) (before : Cursor) → d + f ≡ 64 → TreeAnswer d before
tree_answer zero d before deep =
    headed_answer d before (head_answer d before) (λ above. absurd (omega (arith, deep, above)))
tree_answer (suc f) d before deep =
    headed_answer d before (head_answer d before) (λ above cursor. tree_answer f (d + 1) cursor (omega (arith, deep)))

-- the head line, or why there is none
HeadLine : Cursor → Type 0
HeadLine start = ((next : Cursor) × IsHeadPassed start next) ⊎ ((fault : CertFault) × IsHeadless start fault)

head_passed : (start now next : Cursor) → HavePassed start now → HasPassed now next head_line → IsHeadPassed start next
head_passed start now next so_far passed = record {
  front = so_far.front;
  passed = so_far.passed;
  split = so_far.split ∙ ap (λ (rest : List ℕ). lines_text so_far.front ++ rest) passed.split;
  number = omega (arith, so_far.number, passed.number);
  branches = passed.branches ∙ so_far.branches;
  room = omega (arith, so_far.room, passed.room);
}

last_line : (start now : Cursor) → HavePassed start now → IsLine now.rest.now → HeadLine start
unfolding HeadLine
last_line start now so_far whole =
    elim (same_list_or_not now.rest.now head_line) [
      | inl is ↦ inr (Line now.number, head_cut start now so_far is)
      | inr other ↦ inr (
        NoTree,
        record {
          front = so_far.front;
          last = now.rest.now;
          passed = so_far.passed;
          other = (whole, other);
          parts = so_far.split;
        },
      )
    ]

head_line_answer : (fuel : ℕ) (start now : Cursor) → HavePassed start now → length now.rest.now < fuel → HeadLine start
unfolding HeadLine behind
head_line_answer zero start now so_far few = absurd (omega (arith, few))
head_line_answer (suc fuel) start now so_far few =
    elim (cut_answer now.rest.now) [
      | inl whole ↦ last_line start now so_far whole
      | inr found ↦
          let line = found.0 in
          let next = behind now found.1 in
          let passed = passed_line now line found.1 found.2 found.3 in
          let less : length found.1 < fuel =
          omega (arith, few, ap length found.3, length-append (ended line) found.1, length-append line (codes "\n")) in
          elim (same_list_or_not line head_line) [
            | inl is ↦ inl (
              next,
              head_passed start now next so_far
                  (subst (λ (l : List ℕ). HasPassed now next l) is passed),
            )
            | inr other ↦ head_line_answer fuel start next (passes_other start now next line so_far passed other) less
          ]
    ]

-- the end line, or why the text is not over
end_answer : (before : Cursor) → (before.rest.now ≡ ended end_line) ⊎ ((number : ℕ) × IsNotEnded before (Line number))
end_answer before =
    elim (word_answer (ended end_line) before.rest.now) [
      | inr none ↦ inr (before.number, inl (record { none = none; place = refl }))
      | inl found ↦ elim (empty_or_not found.0) [
        | inl empty ↦ inl (found.1 ∙ ap (λ (rest : List ℕ). ended end_line ++ rest) empty ∙ append-nil (ended end_line))
        | inr some ↦ inr (
          before.number + 1,
          inr (record { behind = found.0; some = some; split = found.1; place = refl }),
        )
      ]
    ]

-- the answer of a text
Answer : List ℕ → Type 0
Answer text = (read : Result Tree CertFault) × ReadsText text read

nodes_answer : (text : List ℕ) (start mid : Cursor) → Begun text start → IsHeadPassed start mid → TreeAnswer 0 mid
    → Answer text
unfolding Answer TreeAnswer
nodes_answer text start mid begun headed answer =
    elim answer [
      | inr failed ↦ elim (nodes_fail text start mid (Line failed.0) begun headed failed.1) [
        | inl memory ↦ absurd (cc)
        | inr reads ↦ (Err (Line failed.0), reads)
      ]
      | inl found ↦ elim (end_answer found.0) [
        | inl over ↦ (Ok found.1, tree_reads text start mid found.0 found.1 begun headed found.2 over)
        | inr more ↦ (
          Err (Line more.0),
          end_fails text start mid found.0 found.1 (Line more.0) begun headed found.2 more.1,
        )
      ]
    ]

begun_answer : (text : List ℕ) (start : Cursor) → Begun text start → HeadLine start → Answer text
unfolding Answer HeadLine
begun_answer text start begun head =
    elim head [
      | inr failed ↦ (Err failed.0, head_fails text start failed.0 begun failed.1)
      | inl found ↦ nodes_answer text start found.0 begun found.1 (tree_answer 64 0 found.0 (omega arith))
    ]

pub text_answer : (text : List ℕ) → (read : Result Tree CertFault) × ReadsText text read
unfolding Answer
text_answer text =
    let start : Cursor = record { rest = record { ref_ptr = (0, 0); now = text }; number = 1; branches = 4096 } in
    elim (cases_lt text_limit (length text)) [
      | inl long ↦ (Err TooLong, long)
      | inr short ↦
          let begun : Begun text start = record { short = short; whole = refl; first = refl; branches = refl } in
          let nothing : HavePassed start start =
          record { front = []; passed = tt; split = refl; number = omega arith; branches = refl; room = omega arith } in
          begun_answer text start begun (head_line_answer (suc (length text)) start start nothing (omega arith))
    ]
