-- Which logs an inline crew writes.
use Rattle.std.specs.Prelude.{◌≡◌, ℕ, ◌<◌, ◌≤◌, ◌==◌, not, List, [], ◌∷◌, ◌++◌, Some, filter, length, slice_get}
use Rattle.crew.specs.Log.{Entry}

-- the tickets that are out, in the order of their starts
unfoldable pub outs_in : List Entry → List ℕ
outs_in [] = []
outs_in (Entry.Started t ∷ before) = outs_in before ++ t ∷ []
outs_in (Entry.StartFailed t ∷ before) = outs_in before
outs_in (Entry.Fed t piece ∷ before) = outs_in before
outs_in (Entry.FeedFailed t ∷ before) = outs_in before
outs_in (Entry.Sealed t ∷ before) = outs_in before
outs_in (Entry.Reply t bytes ∷ before) = filter (λ s. not (s == t)) (outs_in before)
outs_in (Entry.Died t ∷ before) = filter (λ s. not (s == t)) (outs_in before)
outs_in (Entry.Stopped t ∷ before) = filter (λ s. not (s == t)) (outs_in before)

-- A start fails exactly where 64 tickets are out, a feed and a seal never fail, and each event is one of the oldest
-- ticket that is out.
abbrev pub InOrder : List Entry → Type 0
InOrder [] = Unit {0}
InOrder (Entry.Started t ∷ before) = (length (outs_in before) < 64) × InOrder before
InOrder (Entry.StartFailed t ∷ before) = (64 ≤ length (outs_in before)) × InOrder before
InOrder (Entry.Fed t piece ∷ before) = InOrder before
InOrder (Entry.FeedFailed t ∷ before) = ⊥
InOrder (Entry.Sealed t ∷ before) = InOrder before
InOrder (Entry.Reply t bytes ∷ before) = (slice_get (outs_in before) 0 ≡ Some t) × InOrder before
InOrder (Entry.Died t ∷ before) = (slice_get (outs_in before) 0 ≡ Some t) × InOrder before
InOrder (Entry.Stopped t ∷ before) = InOrder before
