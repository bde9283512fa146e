-- Counters that lie level after level.
use Rattle.std.specs.Prelude.{ℕ, zero, suc, List, [], ◌∷◌, take, drop, ℤ}

-- so many lists of one length each, from the front on
unfoldable pub levels_of : ℕ → ℕ → List ℤ → List (List ℤ)
levels_of zero size counters = []
levels_of (suc levels) size counters = take size counters ∷ levels_of levels size (drop size counters)
