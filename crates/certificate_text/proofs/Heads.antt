-- What a line leaves behind the numbers that were read, where it is a node's.
use Rattle.std.proofs.Common.{◌≡◌, ℕ, ◌<◌, ◌≤◌, ◌^◌, List, [], ◌++◌, sym, ◌∙◌, ap, arith, append-nil, refl}
use Rattle.std.specs.Prelude.{codes}
use Rattle.std.specs.Fmt.{decimal}
use Rattle.std.proofs.lemmas.List.{append_cancel_right}
use Rattle.bound_certificate.specs.Node.{Part, BranchPart, OverPart, HallPart, DualPart, FullPart}
use Rattle.certificate_text.specs.NodeHead.{IsSound}
use Rattle.certificate_text.specs.Numeral.{IsParted, IsCounted}
use Rattle.certificate_text.specs.Text.{counted, part_line}
use Rattle.certificate_text.proofs.Lines.{branch_children, hall_names, dual_prices, dual_second, dual_line}
use Rattle.certificate_text.proofs.Numerals.{number_apart}
use Rattle.certificate_text.proofs.Spelled.{counted_apart}

-- a Branch has at least one child, and nothing stands behind their number
pub branch_read : (bytes rest : List ℕ) (children : ℕ) (part : Part) → children < 9 → bytes ≡ decimal children ++ rest
    → IsParted rest → IsSound part
    → part_line part ≡ (codes "branch " ++ bytes) ++ codes "\n" → (1 ≤ children) × (rest ≡ [])
branch_read bytes rest children part few is parted sound same =
    let found = branch_children bytes part sound same in
    let apart = number_apart children found.0 rest [] (omega arith) (omega (arith, found.2)) parted refl
    (sym is ∙ (found.4 ∙ sym (append-nil (decimal found.0)))) in
    (omega (arith, found.1, apart.0), apart.1)

-- nothing stands behind the names of a Hall
pub hall_read : (bytes names rest : List ℕ) (part : Part) → IsCounted 64 64 bytes names rest → IsSound part
    → part_line part ≡ (codes "hall " ++ bytes) ++ codes "\n" → rest ≡ []
hall_read bytes names rest part counts sound same =
    let found = hall_names bytes part sound same in
    (counted_apart 64 64 bytes names rest found.0 [] (omega arith) (omega arith) counts found.2).1

-- a space and the mus stand behind the lambdas of a Dual
pub dual_behind : (bytes lambda behind : List ℕ) (part : Part) → IsCounted (2 ^ 56) 64 bytes lambda behind
    → IsSound part → part_line part ≡ (codes "dual " ++ bytes) ++ codes "\n"
    → (mu : List ℕ) × (behind ≡ codes " " ++ counted mu)
dual_behind bytes lambda behind part counts sound same =
    let found = dual_prices bytes part sound same in (
      found.1,
      (counted_apart (2 ^ 56) 64 bytes lambda behind found.0 (codes " " ++ counted found.1) (omega arith)
          (omega arith) counts found.3).1,
    )

-- nothing stands behind the mus of a Dual
pub dual_read : (bytes lambda behind second mu rest : List ℕ) (part : Part) → IsCounted (2 ^ 56) 64 bytes lambda behind
    → behind ≡ codes " " ++ second → IsCounted (2 ^ 56) 32 second mu rest
    → IsSound part → part_line part ≡ (codes "dual " ++ bytes) ++ codes "\n" → rest ≡ []
dual_read bytes lambda behind second mu rest part counts is counts_second sound same =
    let found = dual_second bytes lambda behind second part counts is sound same in
    (counted_apart (2 ^ 56) 32 second mu rest found.0 [] (omega arith) (omega arith) counts_second found.2).1

-- a line that begins with no node's word, and is no word alone, is no node's
pub no_node : (line : List ℕ) → ((bytes : List ℕ) → line ≡ codes "branch " ++ bytes → ⊥)
    → ((bytes : List ℕ) → line ≡ codes "hall " ++ bytes → ⊥) → ((bytes : List ℕ) → line ≡ codes "dual " ++ bytes → ⊥)
    → (line ≡ codes "over" → ⊥) → (line ≡ codes "full" → ⊥) → (part : Part) → part_line part ≡ line ++ codes "\n" → ⊥
no_node line branch hall dual over full (BranchPart children) same =
    branch (decimal children) (sym (append_cancel_right (codes "branch " ++ decimal children) line (codes "\n") same))
no_node line branch hall dual over full OverPart same =
    over (sym (append_cancel_right (codes "over") line (codes "\n") same))
no_node line branch hall dual over full (HallPart names) same =
    hall (counted names) (sym (append_cancel_right (codes "hall " ++ counted names) line (codes "\n") same))
no_node line branch hall dual over full (DualPart lambda mu) same =
    let whole = ap (λ tail. codes "dual " ++ tail) (sym (dual_line lambda mu)) ∙ same in
    dual (counted lambda ++ (codes " " ++ counted mu))
    (sym (append_cancel_right (codes "dual " ++ (counted lambda ++ (codes " " ++ counted mu))) line (codes "\n") whole))
no_node line branch hall dual over full FullPart same =
    full (sym (append_cancel_right (codes "full") line (codes "\n") same))
