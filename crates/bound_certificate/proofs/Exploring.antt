-- Trees whose nodes are explored, part by part.
use Rattle.std.proofs.Common.{◌≡◌, ℕ, suc, ◌+◌, ◌<◌, Bool, true, false, ◌&&◌, List, [], ◌∷◌, ◌++◌, length, map, drop, get_or, Option, None, refl, sym, ◌∙◌, ap, add-one}
use Rattle.std.specs.List.{list_all}
use Rattle.std.specs.Option.{option_map, option_or}
use Rattle.std.proofs.Math.Seq.{drop-cons}
use Rattle.std.proofs.lemmas.Bool.{and_left}
use Rattle.std.proofs.lemmas.List.Folds.{list_all-append}
use Rattle.bound_certificate.specs.Problem.{Problem}
use Rattle.bound_certificate.specs.Node.{node_fault}
use Rattle.bound_certificate.specs.Tree.{Visit, part_of, children_of, child_choices, below, visits, first_fault}
use Rattle.bound_certificate.specs.Outcome.{is_explored, are_explored}
use Rattle.bound_certificate.specs.declared.tree.Tree.{Tree}
use Rattle.bound_certificate.specs.declared.verdict.TreeWhy.{TreeWhy}
use Rattle.bound_certificate.specs.declared.verdict.TreeFault.{TreeFault}
use Rattle.bound_certificate.proofs.Nodes.{none_first, none_mapped}
use Rattle.bound_certificate.proofs.Trees.{visits-out}
use Rattle.bound_certificate.proofs.Verdicts.{first_fault-append}

-- whether a list of nodes has a fault does not turn on their numbers
pub first_fault-number : (p : Problem) (n m : ℕ) (vs : List Visit) → first_fault p n vs ≡ None
    → first_fault p m vs ≡ None
unfolding first_fault
first_fault-number p n m [] none = refl
first_fault-number p n m (v ∷ vs) none =
    let before : TreeWhy → TreeFault = λ why. record { node = n; why = why } in
    let after : TreeWhy → TreeFault = λ why. record { node = m; why = why } in
    let parts = none_first (option_map before (node_fault p v.choices v.part)) (first_fault p (n + 1) vs) none in
    let right = none_mapped before (node_fault p v.choices v.part) parts.0 in
    ap (λ found. option_or (option_map after found) (first_fault p (m + 1) vs)) right
    ∙ first_fault-number p (n + 1) (m + 1) vs parts.1

pub are_explored-out : (p : Problem) (best ceiling : Option ℕ) (tree : Tree) (cs : List ℕ)
    → are_explored p best ceiling (visits p tree cs) ≡
    (is_explored p best ceiling (record { choices = cs; part = part_of tree }) && are_explored p best ceiling
    (below p cs 0 (map (visits p) (children_of tree))))
unfolding are_explored
are_explored-out p best ceiling tree cs = ap (list_all (is_explored p best ceiling)) (visits-out p tree cs)

pub are_explored-append : (p : Problem) (best ceiling : Option ℕ) (vs ws : List Visit)
    → are_explored p best ceiling (vs ++ ws) ≡ (are_explored p best ceiling vs && are_explored p best ceiling ws)
unfolding are_explored
are_explored-append p best ceiling vs ws = list_all-append (is_explored p best ceiling) vs ws

pub are_explored-nil : (p : Problem) (best ceiling : Option ℕ) → are_explored p best ceiling [] ≡ true
unfolding are_explored
are_explored-nil p best ceiling = refl

-- the children that are left, and the one at hand before them
pub record ChildAtHand (p : Problem) (cs : List ℕ) (ts : List Tree) (n : ℕ) (child : Tree) : Type 0 where
  pub apart : below p cs n (map (visits p) (drop n ts)) ≡ visits p child (child_choices p cs n) ++ below p cs (n + 1)
      (map (visits p) (drop (n + 1) ts))

pub child_at_hand : (p : Problem) (cs : List ℕ) (ts : List Tree) (n : ℕ) (child : Tree) → n < length ts
    → child ≡ get_or ts n child → ChildAtHand p cs ts n child
child_at_hand p cs ts n child within is =
    let split : drop n ts ≡ child ∷ drop (n + 1) ts =
    rw add-one (drop-cons ts n child within ∙ ap (λ t. t ∷ drop (suc n) ts) (sym is)) in
    record { apart = ap (λ rest. below p cs n (map (visits p) rest)) split }

pub child_right : (p : Problem) (cs : List ℕ) (ts : List Tree) (n : ℕ) (child : Tree) → ChildAtHand p cs ts n child
    → first_fault p 0 (below p cs n (map (visits p) (drop n ts))) ≡ None
    → (first_fault p 0 (visits p child (child_choices p cs n)) ≡ None) ×
    (first_fault p 0 (below p cs (n + 1) (map (visits p) (drop (n + 1) ts))) ≡ None)
child_right p cs ts n child hand none =
    let here = visits p child (child_choices p cs n) in
    let others = below p cs (n + 1) (map (visits p) (drop (n + 1) ts)) in
    let parts = none_first (first_fault p 0 here) (first_fault p (0 + length here) others)
    (sym (first_fault-append p 0 here others) ∙ sym (ap (first_fault p 0) hand.apart) ∙ none) in
    (parts.0, first_fault-number p (0 + length here) 0 others parts.1)

pub child_explored : (p : Problem) (best ceiling : Option ℕ) (cs : List ℕ) (ts : List Tree) (n : ℕ) (child : Tree)
    → ChildAtHand p cs ts n child
    → are_explored p best ceiling (below p cs n (map (visits p) (drop n ts))) ≡
    (are_explored p best ceiling (visits p child (child_choices p cs n)) && are_explored p best ceiling
    (below p cs (n + 1) (map (visits p) (drop (n + 1) ts))))
child_explored p best ceiling cs ts n child hand =
    ap (are_explored p best ceiling) hand.apart
    ∙ are_explored-append p best ceiling (visits p child (child_choices p cs n))
    (below p cs (n + 1) (map (visits p) (drop (n + 1) ts)))

pub false_and : (a b : Bool) → a ≡ false → (a && b) ≡ false
false_and a b h = and_left a b h

pub true_and : (a b : Bool) → a ≡ true → (a && b) ≡ b
true_and true b h = refl
true_and false b h = cc
