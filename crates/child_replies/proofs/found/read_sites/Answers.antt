use Rattle.std.proofs.Common.{◌≡◌, ◌∙◌, ◌<◌, ◌+◌, ◌-◌, ◌++◌, ◌∷◌, [], ℕ, List, sym, ap, subst, inr, refl, arith}
use Rattle.byte_format.specs.Format.{At, reached}
use Rattle.child_replies.specs.Steps.{SolveMoves}
use Rattle.child_replies.proofs.SolveFields.{site_more, site_on, site_stop, sites_more, stops_empty, stops_on}
use Rattle.reply_format.specs.Outcomes.{Place, behind_site, solve_format}
use Rattle.reply_format.specs.Outcomes as solves
use Rattle.reply_format.specs.declared.fault.ReplyFault.TheVariants as faults
use Rattle.child_replies.proofs.found.read_sites.Goals as goal

module _ (number count counter : ℕ) (sites bytes rest : List ℕ) where
  here : counter < count → SolveMoves number (solves.Site [] count) bytes (behind_site sites (count - counter + 1)) rest
      → SolveMoves number (solves.Site [] count) bytes (solves.Site sites (count - counter)) rest
  here less on =
      subst (λ (place : Place). SolveMoves number (solves.Site [] count) bytes place rest)
      (site_more sites (count - counter) (omega (arith, less))) on

  on_more : (more after : List ℕ) (site : ℕ) → counter < count
      → SolveMoves number (solves.Site [] count) bytes (behind_site sites (count - counter + 1)) rest
      → rest ≡ site ∷ after → site < 32 → more ≡ sites ++ site ∷ []
      → SolveMoves number (solves.Site [] count) bytes (behind_site more (count - (counter + 1) + 1)) after
  on_more more after site less on parts small is =
      let left : count - counter ≡ count - (counter + 1) + 1 = omega (arith, less) in
      here less on ∙ site_on number sites rest after (count - counter) site parts small
      ∙ ap (λ (l : List ℕ). reached (solve_format number) (At (behind_site l (count - counter)) []) after) (sym is)
      ∙ ap (λ (n : ℕ). reached (solve_format number) (At (behind_site more n) []) after) left

pub returns-in_default-clause-stop : goal.returns-in_default-clause-stop
returns-in_default-clause-stop c number =
    inr (stops_on number (solves.Site [] c.args.count)
    (solves.Site c.loop.sites (c.args.count - c.loop.counter)) c.args.bytes.now c.loop.rest.now faults.Short
    (here number c.args.count c.loop.counter c.loop.sites c.args.bytes.now c.loop.rest.now c.loop-test.true
    (c.loop.invariant.on number))
    (stops_empty number (solves.Site c.loop.sites (c.args.count - c.loop.counter)) c.loop.rest.now
    c.in_default.ensures.short refl))

pub returns-then-site-ge32-clause-stop : goal.returns-then-site-ge32-clause-stop
returns-then-site-ge32-clause-stop c number =
    inr (stops_on number (solves.Site [] c.args.count)
    (solves.Site c.loop.sites (c.args.count - c.loop.counter)) c.args.bytes.now c.loop.rest.now faults.Shape
    (here number c.args.count c.loop.counter c.loop.sites c.args.bytes.now c.loop.rest.now c.loop-test.true
    (c.loop.invariant.on number))
    (site_stop number c.loop.sites c.loop.rest.now c.in-Some.after.now
    (c.args.count - c.loop.counter) c.in-Some.site c.in-Some.ensures.parts c.if-site-ge32.true))

pub loop-preserved : goal.loop-preserved
loop-preserved c = record {
  on = λ number.
      on_more number c.args.count c.loop.counter c.loop.sites c.args.bytes.now c.loop.rest.now c.push.new.self
      c.in-Some.after.now c.in-Some.site
      c.loop-test.true (c.loop.invariant.on number) c.in-Some.ensures.parts
      (omega (arith, c.if-site-ge32.false)) c.in-Ok.ensures.ok;
  parts = sites_more c.loop.counter c.in-Some.site c.args.bytes.now c.loop.sites c.loop.rest.now c.in-Some.after.now
      c.push.new.self
      c.loop.invariant.parts c.in-Some.ensures.parts (omega (arith, c.if-site-ge32.false)) c.in-Ok.ensures.ok;
}
