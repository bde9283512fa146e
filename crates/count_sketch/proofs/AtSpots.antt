-- An item at the spots of its key.
use Rattle.std.proofs.Common.{◌≡◌, ℕ, ◌+◌, ◌*◌, ◌≤◌, ◌<◌, IsTrue, List, length, get_or, set, ℤ, pos, ◌+ℤ◌, ◌*ℤ◌}
use Rattle.std.proofs.Common.{unsigned_abs, refl, sym, ◌∙◌, ap, subst, arith}
use Rattle.std.proofs.lemmas.Bool.Decides.{nat_tests}
use Rattle.hash_family.specs.Limits.{is_width}
use Rattle.count_sketch.specs.Counters.{Item}
use Rattle.count_sketch.specs.Estimate.{row_estimate}
use Rattle.count_sketch.specs.Row.{AddsToRow}
use Rattle.count_sketch.specs.Spots.{AreSpots, IsSpot}
use Rattle.count_sketch.specs.declared.spots.Spot.{Spot}
use Rattle.count_sketch.specs.declared.spots.Spots.{Spots}
use Rattle.count_sketch.proofs.Estimates.{bucket-lt}
use Rattle.count_sketch.proofs.Shares.{unsigned_abs-sign}

some_width : (width : ℕ) → IsTrue (is_width width) → 0 < width
some_width width within = grind (arith, nat_tests)

-- the spot that stands at a row's place
pub spot_in : {seed level rows width : ℕ} {key : List ℕ} {spots : Spots} {row : ℕ} {spot : Spot}
    → AreSpots seed level rows width key spots → ((d : Spot) → spot ≡ get_or spots.rows row d) → row < rows
    → IsSpot seed level row width key spot
spot_in {seed} {level} {rows} {width} {key} {spots} {row} {spot} are is below =
    subst (λ (s : Spot). IsSpot seed level row width key s) (sym (is spot)) (are.each row spot below)

-- the counter stands in its row
pub record StandsIn (row width place : ℕ) : Type 0 where
  pub above : row * width ≤ place
  pub below : place < row * width + width

module _ {seed level row width : ℕ} {key : List ℕ} {spot : Spot} (is : IsSpot seed level row width key spot) where
  pub spot_stands : IsTrue (is_width width) → StandsIn row width spot.place
  spot_stands within =
      let low = bucket-lt seed level row width key (some_width width within) in
      record { above = omega (arith, is.place); below = omega (arith, is.place, low) }

  pub spot_unit : unsigned_abs spot.sign ≡ 1
  spot_unit = ap unsigned_abs is.sign ∙ unsigned_abs-sign seed level row key

  -- what the counter at the spot says of the key is what the row says
  pub spot_says : (counters : List ℤ)
      → spot.sign *ℤ get_or counters spot.place (pos 0) ≡ row_estimate seed level width counters key row
  unfolding row_estimate
  spot_says counters = rw (is.place, is.sign) refl

-- a weight that is added at the key's spot is added to the row
pub spot_adds : {seed level row width : ℕ} {item : Item} {spot : Spot} {old new : List ℤ} → IsTrue (is_width width)
    → IsSpot seed level row width item.key spot → row * width + width ≤ length old
    → new ≡ set old spot.place (get_or old spot.place (pos 0) +ℤ (spot.sign *ℤ pos item.weight))
    → AddsToRow seed level width item old new row
spot_adds {seed} {level} {row} {width} {item} within is fits written = record {
  within = bucket-lt seed level row width item.key (some_width width within);
  fits = fits;
  written = rw (is.place, is.sign) at written;
}
