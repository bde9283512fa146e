-- The sites so far stand.
use Rattle.std.proofs.Common.{◌-◌, ◌+◌, ℕ, []}
use Rattle.child_replies.specs.Solved.{HasSites}
use Rattle.child_replies.specs.Steps.{SolveMoves}
use Rattle.reply_format.specs.Outcomes.{behind_site}
use Rattle.reply_format.specs.Outcomes as solves
use Rattle.child_replies.proofs.found.read_sites.Given as goal

abbrev pub invariant-loop : goal.invariant-loop
invariant-loop l = record {
  on : (number : ℕ) → SolveMoves number (solves.Site [] l.count) l.fn.bytes
      (behind_site l.sites (l.count - l.counter + 1)) l.rest;
  parts : HasSites l.counter l.fn.bytes l.sites l.rest;
}
