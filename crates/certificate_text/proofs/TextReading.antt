-- What a text is read as, from its head line, its nodes and its end line.
use Rattle.std.proofs.Common.{◌≡◌, ℕ, ◌≤◌, ◌⊎◌, inl, inr, List, ◌++◌, length, Result, Ok, Err, true, refl, sym, ◌∙◌, ap, subst, arith}
use Rattle.std.specs.List.{flat_map}
use Rattle.bound_certificate.specs.Formed.{is_formed}
use Rattle.certificate_text.specs.NodeLines.{BadLine, IsTreeRead, IsStopped}
use Rattle.certificate_text.specs.Parts.{parts_of, Stops}
use Rattle.certificate_text.specs.ReadText.{text_limit, head_line, ended, lines_text, HasNoHead, BreaksAt, ReadsText}
use Rattle.certificate_text.specs.Text.{part_line}
use Rattle.certificate_text.specs.TextEnds.{IsHeadPassed, IsHeadless, end_line, IsNotEnded}
use Rattle.certificate_text.specs.declared.cursor.Cursor.{Cursor}
use Rattle.certificate_text.specs.declared.fault.CertFault.{CertFault}
use Rattle.certificate_text.specs.declared.fault.CertFault.TheVariants.{TooLong, NoTree, Line, Node, Memory}
use Rattle.bound_certificate.specs.declared.tree.Tree.{Tree}
use Rattle.certificate_text.proofs.Breaking.{formed_whole, broken_node, broken_head, broken_end, broken_behind}
use Rattle.certificate_text.proofs.TextParts.{text_of-parts}

-- a reading at the start of a text that is no longer than the limit
pub record Begun (text : List ℕ) (start : Cursor) : Type 0 where
  pub short : length text ≤ text_limit
  pub whole : text ≡ start.rest.now
  pub first : start.number ≡ 1
  pub branches : start.branches ≡ 4096

pub head_fails : (text : List ℕ) (start : Cursor) (fault : CertFault) → Begun text start → IsHeadless start fault
    → ReadsText text (Err fault)
head_fails text start NoTree begun none = (begun.short, subst HasNoHead (sym begun.whole) none)
head_fails text start (Line number) begun cut = (
  begun.short,
  subst (λ (n : ℕ). BreaksAt text n) (omega (arith, cut.place, begun.first))
      (broken_head text cut.front cut.passed (begun.whole ∙ cut.split)),
)
head_fails text start TooLong begun fails = absurd fails
head_fails text start (Node node why) begun fails = absurd fails
head_fails text start Memory begun fails = absurd fails

pub nodes_fail : (text : List ℕ) (start mid : Cursor) (fault : CertFault) → Begun text start → IsHeadPassed start mid
    → IsStopped 0 mid fault → (◌≡◌ {A = Result Tree CertFault} (Err fault) (Err Memory)) ⊎ ReadsText text (Err fault)
nodes_fail text start mid (Line number) begun headed (count, is, stops) =
    let left : mid.branches ≡ 4096 = headed.branches ∙ begun.branches in
    let at : Stops part_line BadLine 0 4096 mid.rest.now count =
    subst (λ (b : ℕ). Stops part_line BadLine 0 b mid.rest.now count) left stops in
    let breaks = broken_node text mid.rest.now headed.front count headed.passed (begun.whole ∙ headed.split) at in
    inr (begun.short, subst (λ (n : ℕ). BreaksAt text n) (omega (arith, is, headed.number, begun.first)) breaks)
nodes_fail text start mid Memory begun headed stopped = inl refl
nodes_fail text start mid TooLong begun headed stopped = absurd stopped
nodes_fail text start mid NoTree begun headed stopped = absurd stopped
nodes_fail text start mid (Node node why) begun headed stopped = absurd stopped

-- the tree that was read is within its limits
read_formed : (text : List ℕ) (start mid after : Cursor) (tree : Tree) → Begun text start → IsHeadPassed start mid
    → IsTreeRead 0 mid after tree → is_formed tree ≡ true
read_formed text start mid after tree begun headed read =
    formed_whole tree read.formed (omega (arith, read.branches, headed.branches, begun.branches))

pub end_fails : (text : List ℕ) (start mid after : Cursor) (tree : Tree) (fault : CertFault) → Begun text start
    → IsHeadPassed start mid → IsTreeRead 0 mid after tree → IsNotEnded after fault → ReadsText text (Err fault)
end_fails text start mid after tree (Line number) begun headed read (inl no_end) =
    let formed = read_formed text start mid after tree begun headed read in
    let breaks = broken_end text mid.rest.now after.rest.now headed.front tree headed.passed
    (begun.whole ∙ headed.split) formed read.split no_end.none in (
      begun.short,
      subst (λ (n : ℕ). BreaksAt text n)
          (omega (arith, no_end.place, read.number, headed.number, begun.first)) breaks,
    )
end_fails text start mid after tree (Line number) begun headed read (inr more) =
    let formed = read_formed text start mid after tree begun headed read in
    let split = read.split ∙ ap (λ (rest : List ℕ). flat_map part_line (parts_of tree) ++ rest) more.split in
    let breaks = broken_behind text mid.rest.now more.behind headed.front tree headed.passed
    (begun.whole ∙ headed.split) formed split more.some in (
      begun.short,
      subst (λ (n : ℕ). BreaksAt text n)
          (omega (arith, more.place, read.number, headed.number, begun.first)) breaks,
    )
end_fails text start mid after tree NoTree begun headed read fails = absurd fails
end_fails text start mid after tree TooLong begun headed read fails = absurd fails
end_fails text start mid after tree (Node node why) begun headed read fails = absurd fails
end_fails text start mid after tree Memory begun headed read fails = absurd fails

pub tree_reads : (text : List ℕ) (start mid after : Cursor) (tree : Tree) → Begun text start → IsHeadPassed start mid
    → IsTreeRead 0 mid after tree → after.rest.now ≡ ended end_line → ReadsText text (Ok tree)
tree_reads text start mid after tree begun headed read ends = (
  begun.short,
  record {
    front = headed.front;
    passed = headed.passed;
    formed = read_formed text start mid after tree begun headed read;
    parts = begun.whole ∙ headed.split
        ∙ ap (λ (rest : List ℕ). lines_text headed.front ++ (ended head_line ++ rest))
        (read.split ∙ ap (λ (rest : List ℕ). flat_map part_line (parts_of tree) ++ rest) ends)
        ∙ ap (λ (text : List ℕ). lines_text headed.front ++ text) (sym (text_of-parts tree));
  },
)
