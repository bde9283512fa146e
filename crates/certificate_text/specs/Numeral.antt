-- Numbers as a line spells them, and what can stand behind them.
use Rattle.std.specs.Prelude.{◌≡◌, ◌<◌, ◌≤◌, ℕ, List, ◌++◌, Bool, true, nat_lt, length}
use Rattle.std.specs.Char.{is_ascii_digit}
use Rattle.std.specs.Fmt.{decimal}
use Rattle.std.specs.List.{prefix_len, list_all, flat_map}
use Rattle.certificate_text.specs.Text.{spaced, counted}

-- no digit stands at the front
abbrev pub IsParted : List ℕ → Type 0
IsParted bytes = prefix_len is_ascii_digit bytes ≡ 0

-- no number below the limit stands at the front
abbrev pub HasNoNumber : ℕ → List ℕ → Type 0
HasNoNumber limit bytes = (n : ℕ) (after : List ℕ) → n < limit → IsParted after → bytes ≡ decimal n ++ after → ⊥

-- and none behind a space
abbrev pub HasNoSpaced : ℕ → List ℕ → Type 0
HasNoSpaced limit bytes = (n : ℕ) (after : List ℕ) → n < limit → IsParted after → bytes ≡ spaced n ++ after → ⊥

abbrev pub are_below : ℕ → List ℕ → Bool
are_below limit xs = list_all (λ x. nat_lt x limit) xs

-- so many numbers below the limit, each behind a space, and then the rest
pub record IsSpelled (limit count : ℕ) (bytes xs rest : List ℕ) : Type 0 where
  pub size : length xs ≡ count
  pub below : are_below limit xs ≡ true
  pub parted : IsParted rest
  pub parts : bytes ≡ flat_map spaced xs ++ rest

abbrev pub SpellsNone : ℕ → ℕ → List ℕ → Type 0
SpellsNone limit count bytes = (xs rest : List ℕ) → IsSpelled limit count bytes xs rest → ⊥

-- how many numbers there are, which is not above the most, these below the limit, and then the rest
pub record IsCounted (limit most : ℕ) (bytes xs rest : List ℕ) : Type 0 where
  pub few : length xs ≤ most
  pub below : are_below limit xs ≡ true
  pub parted : IsParted rest
  pub parts : bytes ≡ counted xs ++ rest

abbrev pub CountsNone : ℕ → ℕ → List ℕ → Type 0
CountsNone limit most bytes = (xs rest : List ℕ) → IsCounted limit most bytes xs rest → ⊥
