-- A text is read in one way.
use Rattle.std.proofs.Common.{◌≡◌, ℕ, ◌<◌, ◌⊎◌, inl, inr, List, [], ◌∷◌, ◌++◌, length, Result, Ok, Err, true, refl, sym, ◌∙◌, ap, subst, arith, append_assoc, append-nil, length-append}
use Rattle.std.specs.Prelude.{codes}
use Rattle.std.specs.List.{AllByRecursion, flat_map}
use Rattle.std.proofs.lemmas.List.{append_cancel_left}
use Rattle.std.proofs.lemmas.Grind.{flat_map-append}
use Rattle.bound_certificate.specs.Formed.{is_formed, is_formed_at}
use Rattle.certificate_text.specs.Text.{part_line, text_of}
use Rattle.certificate_text.specs.TextEnds.{end_line}
use Rattle.certificate_text.specs.NodeHead.{IsSound}
use Rattle.certificate_text.specs.Parts.{parts_of}
use Rattle.certificate_text.specs.ReadText.{head_line, IsLine, ended, lines_text, IsOther, IsTreeText, HasNoHead, BeginsTree, BreaksAt, ReadsText}
use Rattle.bound_certificate.specs.declared.tree.Tree.{Tree}
use Rattle.certificate_text.specs.declared.fault.CertFault.{CertFault}
use Rattle.certificate_text.specs.declared.fault.CertFault.TheVariants.{TooLong, NoTree, Line, Node, Memory}
use Rattle.certificate_text.proofs.TextLines.{same_first_line, no_line_feed, one_extends, lines_apart, Halts, halts_last, head_is_line, end_is_line, halts_head, same_fronts}
use Rattle.certificate_text.proofs.TextParts.{all_append, all_behind, sound_parts, parts_apart, AreLines, lines_of_parts, text_of-parts}
use Rattle.bound_certificate.proofs.Counted.{formed_root}
use Rattle.certificate_text.proofs.Parts.{ends_by_itself}

-- a tree's text as lines
pub whole_lines : (tree : Tree) (are : AreLines (parts_of tree))
    → text_of tree ≡ lines_text (head_line ∷ (are.lines ++ end_line ∷ []))
whole_lines tree are =
    text_of-parts tree ∙ ap (λ (lines : List ℕ). ended head_line ++ (lines ++ codes "end\n")) are.text
    ∙ ap (λ (lines : List ℕ). ended head_line ++ lines) (sym (flat_map-append ended are.lines (end_line ∷ [])))

pub text_of-lines : (tree : Tree) → is_formed tree ≡ true
    → (lines : List (List ℕ)) × AllByRecursion IsLine lines × (text_of tree ≡ lines_text lines)
text_of-lines tree formed =
    let are = lines_of_parts (parts_of tree) (sound_parts tree 0 (formed_root tree formed)) in (
      head_line ∷ (are.lines ++ end_line ∷ []),
      (head_is_line, all_append IsLine are.lines (end_line ∷ []) are.each (end_is_line, tt)),
      whole_lines tree are,
    )

-- nodes of two such trees that stand first in one text are those of one tree
pub one_tree : (t u : Tree) (x y : List ℕ) → is_formed_at t 0 ≡ true → is_formed_at u 0 ≡ true
    → flat_map part_line (parts_of t) ++ x ≡ flat_map part_line (parts_of u) ++ y → t ≡ u
one_tree t u x y formed_t formed_u same =
    elim (one_extends part_line IsSound parts_apart (parts_of t) (parts_of u) x y (sound_parts t 0 formed_t)
    (sound_parts u 0 formed_u) same) [
      | inl behind ↦ (ends_by_itself t u behind.more [] (sym behind.pieces ∙ sym (append-nil (parts_of u)))).0
      | inr before ↦ sym (ends_by_itself u t before.more [] (sym before.pieces ∙ sym (append-nil (parts_of t)))).0
    ]

pub same_behind : (t u : Tree) (x y : List ℕ) → is_formed_at t 0 ≡ true → is_formed_at u 0 ≡ true
    → flat_map part_line (parts_of t) ++ x ≡ flat_map part_line (parts_of u) ++ y → x ≡ y
same_behind t u x y formed_t formed_u same =
    append_cancel_left (flat_map part_line (parts_of t)) x y
    (same ∙ ap (λ (tree : Tree). flat_map part_line (parts_of tree) ++ y)
    (sym (one_tree t u x y formed_t formed_u same)))

-- no other such tree has the same text
text_of-one : (t u : Tree) → is_formed t ≡ true → is_formed u ≡ true → text_of t ≡ text_of u → t ≡ u
text_of-one t u formed_t formed_u same =
    one_tree t u (codes "end\n") (codes "end\n") (formed_root t formed_t) (formed_root u formed_u)
    (same_first_line head_line head_line (flat_map part_line (parts_of t) ++ codes "end\n")
    (flat_map part_line (parts_of u) ++ codes "end\n") head_is_line head_is_line
    (sym (text_of-parts t) ∙ same ∙ text_of-parts u)).1

pub halts_tree : (tree : Tree) → Halts (text_of tree)
halts_tree tree = rw text_of-parts (halts_head (flat_map part_line (parts_of tree) ++ codes "end\n"))

-- what begins a tree's text begins with the head line
begins_head : (line : List ℕ) (lines : List (List ℕ)) → IsLine line → BeginsTree (lines_text (line ∷ lines))
    → line ≡ head_line
begins_head line lines whole begins =
    let tree = begins.0 in
    let behind = begins.1 in
    (same_first_line line head_line (lines_text lines ++ behind)
    (flat_map part_line (parts_of tree) ++ codes "end\n") whole head_is_line
    (sym (append_assoc (ended line) (lines_text lines) behind) ∙ sym begins.3 ∙ text_of-parts tree)).0

-- where a text breaks, no line that is passed over stands first
broken_halts : (good : List (List ℕ)) (rest : List ℕ) → AllByRecursion IsLine good → BeginsTree (lines_text good)
    → (0 < length good) ⊎ (rest ≡ head_line) → Halts (lines_text good ++ rest)
broken_halts [] rest whole begins (inl some) = absurd (omega arith)
broken_halts [] rest whole begins (inr is) = rw is (halts_last head_line head_is_line)
broken_halts (line ∷ lines) rest whole begins headed =
    rw (begins_head line lines whole.0 begins) (rw append_assoc (halts_head (lines_text lines ++ rest)))

lines_more : (good lines : List (List ℕ)) (line : List ℕ)
    → lines_text (good ++ line ∷ lines) ≡ (lines_text good ++ ended line) ++ lines_text lines
lines_more good lines line =
    flat_map-append ended good (line ∷ lines) ∙ sym (append_assoc (lines_text good) (ended line) (lines_text lines))

nothing_behind : (front rest : List ℕ) → [] ≡ front ++ rest → rest ≡ []
nothing_behind [] rest same = sym same
nothing_behind (x ∷ front) rest same = cc

-- two readings that begin in the same text begin at the same place
same_start : (text : List ℕ) (f g : List (List ℕ)) (x y : List ℕ) → AllByRecursion IsOther f → AllByRecursion IsOther g
    → Halts x → Halts y
    → text ≡ lines_text f ++ x → text ≡ lines_text g ++ y → (f ≡ g) × (x ≡ y)
same_start text f g x y passed_f passed_g halts_x halts_y is_x is_y =
    same_fronts f g x y passed_f passed_g halts_x halts_y (sym is_x ∙ is_y)

breaks_halt : (text : List ℕ) (number : ℕ) (breaks : BreaksAt text number)
    → Halts (lines_text breaks.good ++ breaks.rest)
breaks_halt text number breaks = broken_halts breaks.good breaks.rest breaks.lines breaks.begun breaks.headed

pub tree_tree : (text : List ℕ) (t u : Tree) → IsTreeText text t → IsTreeText text u → t ≡ u
tree_tree text t u is_t is_u =
    text_of-one t u is_t.formed is_u.formed
    (same_start text is_t.front is_u.front (text_of t) (text_of u) is_t.passed is_u.passed (halts_tree t)
    (halts_tree u) is_t.parts is_u.parts).1

pub tree_none : (text : List ℕ) (t : Tree) → IsTreeText text t → HasNoHead text → ⊥
tree_none text t is none =
    let start = same_start text is.front none.front (text_of t) none.last is.passed none.passed (halts_tree t)
    (halts_last none.last none.other.0) is.parts none.parts in
    no_line_feed none.last head_line (flat_map part_line (parts_of t) ++ codes "end\n") none.other.0
    (sym start.1 ∙ text_of-parts t)

-- a whole tree's text doesn't break
ended_broken : (text : List ℕ) (t : Tree) (number : ℕ) (breaks : BreaksAt text number) → is_formed t ≡ true
    → text_of t ≡ lines_text breaks.good ++ breaks.rest → breaks.rest ≡ [] → ⊥
ended_broken text t number breaks formed start none =
    let finished : text_of t ≡ lines_text breaks.good =
    start ∙ ap (λ (rest : List ℕ). lines_text breaks.good ++ rest) none ∙ append-nil (lines_text breaks.good) in
    let some : 0 < length breaks.rest = breaks.unfinished t formed finished in
    omega (arith, some, ap length none)

more_broken : (text : List ℕ) (t : Tree) (number : ℕ) (breaks : BreaksAt text number) (lines more : List (List ℕ))
    → is_formed t ≡ true → AllByRecursion IsLine lines → text_of t ≡ lines_text lines
    → text_of t ≡ lines_text breaks.good ++ breaks.rest → lines ≡ breaks.good ++ more
    → breaks.rest ≡ lines_text more ++ [] → ⊥
more_broken text t number breaks lines [] formed whole is start pieces rest =
    ended_broken text t number breaks formed start rest
more_broken text t number breaks lines (line ∷ more) formed whole is start pieces rest =
    let each : AllByRecursion IsLine (line ∷ more) =
    all_behind IsLine breaks.good (line ∷ more)
    (subst (λ (lines : List (List ℕ)). AllByRecursion IsLine lines) pieces whole) in
    breaks.stuck line (lines_text more) each.0 (rest ∙ append-nil (lines_text (line ∷ more))) (
      t,
      lines_text more,
      formed,
      is ∙ ap (λ (lines : List (List ℕ)). lines_text lines) pieces
          ∙ lines_more breaks.good more line,
    )

pub tree_broken : (text : List ℕ) (t : Tree) (number : ℕ) → IsTreeText text t → BreaksAt text number → ⊥
tree_broken text t number is breaks =
    let start = (same_start text is.front breaks.front (text_of t)
    (lines_text breaks.good ++ breaks.rest) is.passed breaks.passed (halts_tree t)
    (breaks_halt text number breaks) is.parts breaks.parts).1 in
    let lines = text_of-lines t is.formed in
    let both : lines_text lines.0 ++ [] ≡ lines_text breaks.good ++ breaks.rest =
    append-nil (lines_text lines.0) ∙ sym lines.2 ∙ start in
    elim (one_extends ended IsLine lines_apart lines.0 breaks.good [] breaks.rest lines.1 breaks.lines both) [
      | inl beyond ↦ ended_broken text t number breaks is.formed start
          (nothing_behind (lines_text beyond.more) breaks.rest beyond.rest)
      | inr within ↦
          more_broken text t number breaks lines.0 within.more is.formed lines.1 lines.2 start within.pieces
          within.rest
    ]

none_begun : (last : List ℕ) (good : List (List ℕ)) (rest : List ℕ) → IsOther last
    → (0 < length good) ⊎ (rest ≡ head_line) → last ≡ lines_text good ++ rest → ⊥
none_begun last [] rest other (inl some) same = absurd (omega arith)
none_begun last [] rest other (inr is) same = other.1 (same ∙ is)
none_begun last (line ∷ lines) rest other headed same =
    no_line_feed last line (lines_text lines ++ rest) other.0 (same ∙ append_assoc (ended line) (lines_text lines) rest)

pub none_broken : (text : List ℕ) (number : ℕ) → HasNoHead text → BreaksAt text number → ⊥
none_broken text number none breaks =
    let start = same_start text none.front breaks.front none.last
    (lines_text breaks.good ++ breaks.rest) none.passed breaks.passed (halts_last none.last none.other.0)
    (breaks_halt text number breaks) none.parts breaks.parts in
    none_begun none.last breaks.good breaks.rest none.other breaks.headed start.1

-- the lines before one break are those before the other
as_many : (text other : List ℕ) (number number' : ℕ) (a : BreaksAt text number) (b : BreaksAt other number')
    (more : List (List ℕ)) → b.good ≡ a.good ++ more → a.rest ≡ lines_text more ++ b.rest
    → length a.good ≡ length b.good
as_many text other number number' a b [] pieces rest = omega (arith, ap length pieces, length-append a.good [])
as_many text other number number' a b (line ∷ more) pieces rest =
    let each : AllByRecursion IsLine (line ∷ more) =
    all_behind IsLine a.good (line ∷ more)
    (subst (λ (lines : List (List ℕ)). AllByRecursion IsLine lines) pieces b.lines) in
    let tree = b.begun.0 in
    let behind = b.begun.1 in
    let split = rest ∙ append_assoc (ended line) (lines_text more) b.rest in
    absurd (a.stuck line (lines_text more ++ b.rest) each.0 split (
      tree,
      lines_text more ++ behind,
      b.begun.2,
      b.begun.3 ∙ ap (λ (lines : List (List ℕ)). lines_text lines ++ behind) pieces
          ∙ ap (λ (front : List ℕ). front ++ behind) (lines_more a.good more line)
          ∙ append_assoc (lines_text a.good ++ ended line) (lines_text more) behind,
    ))

pub broken_broken : (text : List ℕ) (number number' : ℕ) → BreaksAt text number → BreaksAt text number'
    → number ≡ number'
broken_broken text number number' a b =
    let start = same_start text a.front b.front (lines_text a.good ++ a.rest)
    (lines_text b.good ++ b.rest) a.passed b.passed (breaks_halt text number a)
    (breaks_halt text number' b) a.parts b.parts in
    let many : length a.good ≡ length b.good =
    elim (one_extends ended IsLine lines_apart a.good b.good a.rest b.rest a.lines b.lines start.1) [
      | inl behind ↦ as_many text text number number' a b behind.more behind.pieces behind.rest
      | inr before ↦ sym (as_many text text number' number b a before.more before.pieces before.rest)
    ] in
    omega (arith, many, a.place, b.place, ap length start.0)

-- a text is read as one thing
pub one_reading : (text : List ℕ) (a b : Result Tree CertFault) → ReadsText text a → ReadsText text b → a ≡ b
one_reading text (Err (Node node why)) b reads_a reads_b = absurd reads_a
one_reading text (Err Memory) b reads_a reads_b = absurd reads_a
one_reading text a (Err (Node node why)) reads_a reads_b = absurd reads_b
one_reading text a (Err Memory) reads_a reads_b = absurd reads_b
one_reading text (Ok t) (Ok u) reads_a reads_b = ap Ok (tree_tree text t u reads_a.1 reads_b.1)
one_reading text (Ok t) (Err TooLong) reads_a reads_b = absurd (omega (arith, reads_a.0, reads_b))
one_reading text (Ok t) (Err NoTree) reads_a reads_b = absurd (tree_none text t reads_a.1 reads_b.1)
one_reading text (Ok t) (Err (Line number)) reads_a reads_b = absurd (tree_broken text t number reads_a.1 reads_b.1)
one_reading text (Err TooLong) (Ok u) reads_a reads_b = absurd (omega (arith, reads_a, reads_b.0))
one_reading text (Err TooLong) (Err TooLong) reads_a reads_b = refl
one_reading text (Err TooLong) (Err NoTree) reads_a reads_b = absurd (omega (arith, reads_a, reads_b.0))
one_reading text (Err TooLong) (Err (Line number)) reads_a reads_b = absurd (omega (arith, reads_a, reads_b.0))
one_reading text (Err NoTree) (Ok u) reads_a reads_b = absurd (tree_none text u reads_b.1 reads_a.1)
one_reading text (Err NoTree) (Err TooLong) reads_a reads_b = absurd (omega (arith, reads_a.0, reads_b))
one_reading text (Err NoTree) (Err NoTree) reads_a reads_b = refl
one_reading text (Err NoTree) (Err (Line number)) reads_a reads_b = absurd (none_broken text number reads_a.1 reads_b.1)
one_reading text (Err (Line number)) (Ok u) reads_a reads_b = absurd (tree_broken text u number reads_b.1 reads_a.1)
one_reading text (Err (Line number)) (Err TooLong) reads_a reads_b = absurd (omega (arith, reads_a.0, reads_b))
one_reading text (Err (Line number)) (Err NoTree) reads_a reads_b = absurd (none_broken text number reads_b.1 reads_a.1)
one_reading text (Err (Line number)) (Err (Line number')) reads_a reads_b =
    ap (λ (n : ℕ). Err (Line n)) (broken_broken text number number' reads_a.1 reads_b.1)

-- no other answer would do
pub alone_reading : (text : List ℕ) (a : Result Tree CertFault) → (a ≡ Err Memory) ⊎ ReadsText text a
    → (other : Result Tree CertFault) → ReadsText text other → (a ≡ Err Memory) ⊎ (a ≡ other)
alone_reading text a (inl memory) other reads = inl memory
alone_reading text a (inr is) other reads = inr (one_reading text a other is reads)
