-- The lines before a tree's text, and its end line.
use Rattle.std.proofs.Common.{◌≡◌, ◌≢◌, ◌↔◌, Bool, true, false, ℕ, List, [], ◌∷◌, ◌++◌, refl, sym, ◌∙◌, ap, arith, append_assoc, append-nil, length-append}
use Rattle.std.specs.Prelude.{IsTrue}
use Rattle.std.proofs.lemmas.List.Concat.{flat_map-append}
use Rattle.certificate_text.specs.Cursor.{HasPassed}
use Rattle.certificate_text.specs.ReadText.{head_line, ended, lines_text, IsOther}
use Rattle.certificate_text.specs.TextEnds.{HavePassed, IsHeadCut, end_line, HasNoEnd}
use Rattle.certificate_text.specs.declared.cursor.Cursor.{Cursor}
use Rattle.certificate_text.proofs.TextLines.{same_first_line, end_is_line}
use Rattle.certificate_text.proofs.TextParts.{all_append}

-- what a test refutes
pub refuted : {P : Type 0} (test : Bool) → test ≡ false → IsTrue test ↔ P → P → ⊥
refuted test fails says holds =
    let passes : test ≡ true = says.1 holds in
    cc

-- one more line is passed
pub passes_other : (start now next : Cursor) (line : List ℕ) → HavePassed start now → HasPassed now next line
    → line ≢ head_line → HavePassed start next
passes_other start now next line so_far passed other =
    let one = line ∷ [] in
    record {
      front = so_far.front ++ one;
      passed = all_append IsOther so_far.front one so_far.passed ((passed.whole, other), tt);
      split = so_far.split ∙ ap (λ (rest : List ℕ). lines_text so_far.front ++ rest) passed.split
          ∙ sym (append_assoc (lines_text so_far.front) (ended line) next.rest.now)
          ∙ ap (λ (last : List ℕ). (lines_text so_far.front ++ last) ++ next.rest.now) (sym (append-nil (ended line)))
          ∙ ap (λ (front : List ℕ). front ++ next.rest.now) (sym (flat_map-append ended so_far.front one));
      number = omega (arith, so_far.number, passed.number, length-append so_far.front one);
      branches = passed.branches ∙ so_far.branches;
      room = omega (arith, so_far.room, passed.room);
    }

pub head_cut : (start now : Cursor) → HavePassed start now → now.rest.now ≡ head_line → IsHeadCut start now.number
head_cut start now so_far is = record {
  front = so_far.front;
  passed = so_far.passed;
  split = so_far.split ∙ ap (λ (rest : List ℕ). lines_text so_far.front ++ rest) is;
  place = so_far.number;
}

pub no_end : (before after : Cursor) (line : List ℕ) → HasPassed before after line → line ≢ end_line
    → HasNoEnd before before.number
no_end before after line passed other = record {
  none = λ behind same. other
      (same_first_line line end_line after.rest.now behind passed.whole end_is_line (sym passed.split ∙ same)).0;
  place = refl;
}
