-- What the bytes behind all that stands before a solve reply's tree make of the whole.
use Rattle.std.proofs.Common.{◌≡◌, ◌<◌, ◌≤◌, ℕ, List, [], ◌++◌, length, drop, Ok, Err, inr, sym, ◌∙◌, ap, subst, append-nil, append_assoc}
use Rattle.std.specs.Prelude.{IsTrue}
use Rattle.std.proofs.lemmas.List.{drop_all}
use Rattle.bound_certificate.specs.Formed.{is_formed}
use Rattle.bound_certificate.specs.declared.tree.Tree.{Tree}
use Rattle.certificate_text.specs.Bytes.{bytes_of}
use Rattle.certificate_text.specs.ReadBytes.{ReadsBytes}
use Rattle.certificate_text.specs.declared.fault.TreeBytesFault.TheVariants as trees
use Rattle.reply_format.specs.Outcomes.{Found}
use Rattle.reply_format.specs.Read.{BreaksSolve, HasRest, IsNoTree, GoesOn, found_bytes}
use Rattle.reply_format.specs.Reply.{Solve, SpellsReply, front_bytes}
use Rattle.reply_format.specs.declared.fault.ReplyFault.TheVariants as faults
use Rattle.reply_format.proofs.OutcomeParts.{outcome_of, of_spelled, of_tree, of_written}
use Rattle.reply_format.proofs.SolveBack.{IsFront, front_rest}

module _ (number : ℕ) (bytes front rest : List ℕ) (found : Found) (parts : bytes ≡ front ++ rest)
    (is : IsFront number front found) where
  has_rest : (P : List ℕ → Type 0) → P rest → HasRest number bytes P
  has_rest P says =
      subst (λ (l : List ℕ). HasRest number l P) (sym parts) (front_rest number front rest found P is says)

  -- no tree
  pub rest_short : ReadsBytes rest (Err trees.Short) → BreaksSolve number bytes faults.Short
  rest_short reads = inr (has_rest (IsNoTree trees.Short) reads)

  pub rest_shape : ReadsBytes rest (Err trees.Shape) → BreaksSolve number bytes faults.Shape
  rest_shape reads = inr (has_rest (IsNoTree trees.Shape) reads)

  -- a tree and more
  pub rest_extra : (tree : Tree) (taken : ℕ) → ReadsBytes rest (Ok (tree, taken)) → taken < length rest
      → BreaksSolve number bytes faults.Extra
  rest_extra tree taken reads less = has_rest GoesOn (tree, taken, reads, less)

  -- a tree alone
  pub rest_whole : (tree : Tree) (taken : ℕ) → ReadsBytes rest (Ok (tree, taken)) → length rest ≤ taken
      → SpellsReply (Solve (record { number = number; outcome = outcome_of found tree })) bytes
  rest_whole tree taken reads whole =
      let none : drop taken rest ≡ [] = drop_all taken rest whole in
      let tail : rest ≡ bytes_of tree =
      reads.parts ∙ ap (λ (l : List ℕ). bytes_of tree ++ l) none ∙ append-nil (bytes_of tree) in
      record {
        within = record {
          number = is.fits;
          formed = subst (λ t. IsTrue (is_formed t)) (sym (of_tree found tree)) reads.may;
          written = of_written found tree is.written;
        };
        version = is.version;
        known = is.known;
        parts =
            parts
            ∙ (λ i. is.parts i ++ tail i)
            ∙ append_assoc (front_bytes is.version 1 number) (found_bytes found) (bytes_of tree)
            ∙ ap (λ (l : List ℕ). front_bytes is.version 1 number ++ l) (sym (of_spelled found tree));
      }
