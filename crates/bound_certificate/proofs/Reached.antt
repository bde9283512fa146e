-- The check of a node's children, as far as it has come.
use Rattle.std.proofs.Common.{◌≡◌, ℕ, ◌+◌, ◌≤◌, List, [], ◌∷◌, length, map, Some, sym, ◌∙◌, ap, arith}
use Rattle.std.specs.Prelude.{sum}
use Rattle.std.specs.Option.{option_or}
use Rattle.bound_certificate.specs.Problem.{Problem}
use Rattle.bound_certificate.specs.Tree.{child_choices, below, visits, first_fault, verdict_of, joined}
use Rattle.bound_certificate.specs.Formed.{nodes}
use Rattle.bound_certificate.specs.Checked.{Adds, IsTallied}
use Rattle.bound_certificate.specs.declared.tree.Tree.{Tree}
use Rattle.bound_certificate.specs.declared.tally.Tally.{Tally}
use Rattle.bound_certificate.specs.declared.verdict.TreeFault.{TreeFault}
use Rattle.bound_certificate.proofs.Counted.{sum-cons, length-visits, length-below}
use Rattle.bound_certificate.proofs.Verdicts.{first_fault-append, verdict_of-append, joined-assoc, joined-none}

-- the tally so far, with the children that are left, says what the node's tally does with all of them
pub record Reached (p : Problem) (number : ℕ) (cs : List ℕ) (ts : List Tree) (own tally : Tally) (n : ℕ)
    (rest : List Tree) : Type 0 where
  pub faults : first_fault p (number + tally.nodes) (below p cs n (map (visits p) rest)) ≡ first_fault p
      (number + own.nodes) (below p cs 0 (map (visits p) ts))
  pub verdict : joined tally.verdict (verdict_of p (below p cs n (map (visits p) rest))) ≡ joined own.verdict
      (verdict_of p (below p cs 0 (map (visits p) ts)))
  pub count : tally.nodes + sum (map nodes rest) ≡ own.nodes + sum (map nodes ts)
  pub few : tally.verdict.branches ≤ tally.nodes

-- a tally that has one more part of the tree
pub record Joins (old more new : Tally) : Type 0 where
  pub verdict : new.verdict ≡ joined old.verdict more.verdict
  pub nodes : new.nodes ≡ old.nodes + more.nodes
  pub few : new.verdict.branches ≤ new.nodes

pub reached_on : (p : Problem) (number : ℕ) (cs : List ℕ) (ts : List Tree) (own tally more new : Tally) (n : ℕ)
    (t : Tree) (rest : List Tree)
    → Reached p number cs ts own tally n (t ∷ rest)
    → IsTallied p (number + tally.nodes) (visits p t (child_choices p cs n)) more → Joins tally more new
    → Reached p number cs ts own new (n + 1) rest
reached_on p number cs ts own tally more new n t rest so_far child joins =
    let here = visits p t (child_choices p cs n) in
    let others = below p cs (n + 1) (map (visits p) rest) in
    let nodes_now : (number + tally.nodes) + length here ≡ number + new.nodes =
    omega (arith, child.nodes, joins.nodes) in
    record {
      faults =
          sym (ap (λ (k : ℕ). first_fault p k others) nodes_now)
          ∙ sym (first_fault-append p (number + tally.nodes) here others
          ∙ ap (λ found. option_or found (first_fault p ((number + tally.nodes) + length here) others)) child.faultless)
          ∙ so_far.faults;
      verdict =
          ap (λ verdict. joined verdict (verdict_of p others)) (joins.verdict ∙ ap (joined tally.verdict) child.verdict)
          ∙ sym (joined-assoc tally.verdict (verdict_of p here) (verdict_of p others))
          ∙ ap (joined tally.verdict) (sym (verdict_of-append p here others))
          ∙ so_far.verdict;
      count = omega (
        arith,
        so_far.count,
        joins.nodes,
        child.nodes,
        length-visits p t (child_choices p cs n),
        sum-cons
            (nodes t) (map nodes rest),
      );
      few = joins.few;
    }

pub reached_fails : (p : Problem) (number : ℕ) (cs : List ℕ) (ts : List Tree) (own tally : Tally) (n : ℕ) (t : Tree)
    (rest : List Tree) (fault : TreeFault)
    → Reached p number cs ts own tally n (t ∷ rest)
    → first_fault p (number + tally.nodes) (visits p t (child_choices p cs n)) ≡ Some fault
    → first_fault p (number + own.nodes) (below p cs 0 (map (visits p) ts)) ≡ Some fault
reached_fails p number cs ts own tally n t rest fault so_far fails =
    let here = visits p t (child_choices p cs n) in
    let others = below p cs (n + 1) (map (visits p) rest) in
    sym so_far.faults ∙ first_fault-append p (number + tally.nodes) here others
    ∙ ap (λ found. option_or found (first_fault p ((number + tally.nodes) + length here) others)) fails

pub reached_end : (p : Problem) (number : ℕ) (cs : List ℕ) (ts : List Tree) (own tally : Tally) (n : ℕ)
    → Reached p number cs ts own tally n [] → Adds p number own (below p cs 0 (map (visits p) ts)) tally
unfolding first_fault
reached_end p number cs ts own tally n so_far = record {
  faultless = sym so_far.faults;
  verdict = sym (joined-none p tally.verdict) ∙ so_far.verdict;
  nodes = omega (arith, so_far.count, length-below p ts cs 0);
  few = so_far.few;
}
