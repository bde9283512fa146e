-- The tickets that are out, in the order of their starts, each with whether its job is whole.
use Rattle.std.specs.Prelude.{◌≡◌, ℕ, ◌<◌, ◌==◌, ◌&&◌, Bool, true, false, List, [], ◌∷◌, map, slice_index_or}
use Rattle.std.specs.List.{list_any}
use Rattle.roster.specs.declared.mark.Mark.{Mark}

-- what clauses see of a roster
pub record Listed : Type 0 where
  pub issued : ℕ  -- how many tickets were issued
  pub marks : List Mark  -- the tickets that are out, in the order of their starts
  pub room : ℕ  -- for how many there is room

abbrev pub mark : ℕ → Bool → Mark
mark ticket is_sealed = record { ticket = ticket; is_sealed = is_sealed }

abbrev pub no_marks : List Mark
no_marks = []

-- whether the ticket is out
unfoldable pub is_out : List Mark → ℕ → Bool
is_out marks ticket = list_any (λ m. ticket == m.ticket) marks

-- whether the ticket is out and its job whole
unfoldable pub is_sealed : List Mark → ℕ → Bool
is_sealed marks ticket = list_any (λ m. ticket == m.ticket && m.is_sealed) marks

-- the ticket at a place, 0 past the end
abbrev pub ticket_at : List Mark → ℕ → ℕ
ticket_at marks place = (slice_index_or marks place (mark 0 false)).ticket

-- the tickets that are out, in the order of their starts
unfoldable pub tickets : List Mark → List ℕ
tickets marks = map (λ m. m.ticket) marks

-- each ticket was issued, and none of them twice
abbrev pub AreMarks : ℕ → List Mark → Type 0
AreMarks next [] = Unit {0}
AreMarks next (m ∷ marks) = (m.ticket < next) × (is_out marks m.ticket ≡ false) × AreMarks next marks

-- each ticket that is out was issued
abbrev pub AreIssued : Listed → Type 0
AreIssued roster = (t : ℕ) → is_out roster.marks t ≡ true → t < roster.issued
