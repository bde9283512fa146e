-- Searched parts of a tree, put together.
use Rattle.std.proofs.Common.{◌≡◌, ℕ, suc, ◌+◌, ◌≤◌, ◌<◌, Bool, true, false, cond, ◌==◌, ◌&&◌, List, [], ◌∷◌, ◌++◌, length, map, slice_index, Option, None, Some, Result, Ok, Err, refl, sym, ◌∙◌, ap, subst, arith, length-append, append_assoc}
use Rattle.std.specs.Prelude.{sum, not, nat_lt, nat_le, IfSome, OnOk, is_err}
use Rattle.std.specs.List.{list_all, AllByRecursion}
use Rattle.std.specs.Option.{option_map, option_or}
use Rattle.std.proofs.lemmas.Bool.{eq-eqb, lt-ltb, le-leb}
use Rattle.std.proofs.lemmas.List.Folds.{list_all-append}
use Rattle.bound_certificate.specs.Limits.{IsWithin}
use Rattle.bound_certificate.specs.Problem.{Problem, need_count, via}
use Rattle.bound_certificate.specs.Node.{Part, BranchPart, OverPart, is_over, is_crowded, later, branch_fault, over_fault, node_fault}
use Rattle.bound_certificate.specs.Tree.{Visit, part_of, children_of, child_choices, part_value, is_branch, below, visits, first_fault, bound_of, branches_of}
use Rattle.bound_certificate.specs.Formed.{branches, is_formed_part, is_formed_at}
use Rattle.bound_certificate.specs.Outcome.{completion, is_no_better, is_beaten, is_tight, is_explored, are_explored, first_fit_cost}
use Rattle.bound_certificate.specs.declared.tree.Tree.{Tree}
use Rattle.bound_certificate.specs.declared.tree.Tree.TheVariants.{Branch, Over}
use Rattle.bound_certificate.specs.declared.verdict.TreeWhy.TheVariants.{NotOver, IsOver, Depth, Children, Idle}
use Rattle.bound_certificate.proofs.Trees.{visits-out, branches-out, is_formed_at-out, part_of-Branch, part_of-Over, children_of-Branch, children_of-Over, tree_induction}
use Rattle.bound_certificate.proofs.Verdicts.{first_fault-append, bound_of-append, branches_of-append, lesser-None}
use Rattle.bound_certificate.proofs.Exploring.{first_fault-number, are_explored-append}
use Rattle.bound_certificate.proofs.Counted.{sum-cons}
use Rattle.placement_search.specs.declared.progress.Progress.{Progress}
use Rattle.placement_search.specs.Kept.{IsCostOf, IsKept, IsNoWorse, IsRoomy, reaches}
use Rattle.placement_search.specs.Leaf.{IsLeaf, IsOpen}
use Rattle.placement_search.specs.Searched.{IsSearched, IsTreeSearched, AreSearched}
use Rattle.placement_search.proofs.Better.{no_better-refl, no_better-trans, explored_better, reaches_better, reaches_both}
use Rattle.placement_search.proofs.Leaves.{both, negated, passes_by, not_last}

-- no nodes
pub searched_nothing : (p : Problem) (progress : Progress) → IsKept p progress → IsSearched p progress progress []
unfolding first_fault are_explored branches_of bound_of
searched_nothing p progress kept = record {
  faultless = refl;
  explored = refl;
  spent = omega arith;
  no_worse = no_better-refl progress.cost;
  closed = λ left. refl;
  kept = kept;
}

-- nodes after others
pub searched_more : (p : Problem) (before mid after : Progress) (vs ws : List Visit) → IsSearched p before mid vs
    → IsSearched p mid after ws → IsSearched p before after (vs ++ ws)
searched_more p before mid after vs ws one other = record {
  faultless =
      first_fault-append p 0 vs ws ∙ ap (λ found. option_or found (first_fault p (0 + length vs) ws)) one.faultless
      ∙ first_fault-number p 0 (0 + length vs) ws other.faultless;
  explored =
      are_explored-append p after.cost (first_fit_cost p) vs ws
      ∙ both (are_explored p after.cost (first_fit_cost p) vs) (are_explored p after.cost (first_fit_cost p) ws)
      (explored_better p mid.cost after.cost (first_fit_cost p) vs other.no_worse one.explored) other.explored;
  spent = omega (arith, branches_of-append vs ws, one.spent, other.spent);
  no_worse = no_better-trans after.cost mid.cost before.cost other.no_worse one.no_worse;
  closed = λ left.
      subst (λ bound. reaches after.cost bound ≡ true) (sym (bound_of-append p vs ws))
      (reaches_both after.cost (bound_of p vs) (bound_of p ws)
      (reaches_better mid.cost after.cost (bound_of p vs) other.no_worse (one.closed (omega (arith, other.spent))))
      (other.closed left));
  kept = other.kept;
}

-- one node that is right
pub searched_node : (p : Problem) (before after : Progress) (cs : List ℕ) (part : Part) → node_fault p cs part ≡ None
    → is_beaten p after.cost cs ≡ true → is_tight p (first_fit_cost p) cs part ≡ true
    → cond {A = ℕ} (is_branch part) 1 0 + after.left ≡ before.left → IsNoWorse before after
    → (0 < after.left → reaches after.cost (part_value p cs part) ≡ true) → IsKept p after
    → IsSearched p before after (record { choices = cs; part = part } ∷ [])
unfolding first_fault are_explored is_explored branches_of bound_of
searched_node p before after cs part right beaten tight spent no_worse closed kept = record {
  faultless = ap (λ found. option_or (option_map (λ why. record { node = 0; why = why }) found) None) right;
  explored = both (is_beaten p after.cost cs && is_tight p (first_fit_cost p) cs part) true
      (both (is_beaten p after.cost cs) (is_tight p (first_fit_cost p) cs part) beaten tight) refl;
  spent = omega (arith, spent);
  no_worse = no_worse;
  closed = λ left. subst (λ bound. reaches after.cost bound ≡ true) (sym (lesser-None (part_value p cs part)))
      (closed left);
  kept = kept;
}

-- a tree by its root and its children
tree_searched : (p : Problem) (cs : List ℕ) (before after : Progress) (tree : Tree) (part : Part) (ts : List Tree)
    → part_of tree ≡ part → children_of tree ≡ ts
    → IsSearched p before after (record { choices = cs; part = part } ∷ below p cs 0 (map (visits p) ts))
    → is_formed_part (length cs) part ≡ true → list_all (λ child. child (length cs + 1)) (map is_formed_at ts) ≡ true
    → IsTreeSearched p cs before after tree
tree_searched p cs before after tree part ts is children nodes formed all =
    let own : visits p tree cs ≡ record { choices = cs; part = part } ∷ below p cs 0 (map (visits p) ts) =
    visits-out p tree cs
    ∙ ap (λ (part : Part). record { choices = cs; part = part } ∷ below p cs 0 (map (visits p) (children_of tree))) is
    ∙ ap (λ (ts : List Tree). record { choices = cs; part = part } ∷ below p cs 0 (map (visits p) ts)) children in
    record {
      nodes = subst (λ (vs : List Visit). IsSearched p before after vs) (sym own) nodes;
      formed =
          is_formed_at-out tree (length cs)
          ∙ both (is_formed_part (length cs) (part_of tree))
          (list_all (λ child. child (length cs + 1)) (map is_formed_at (children_of tree)))
          (ap (is_formed_part (length cs)) is ∙ formed)
          (ap (λ (ts : List Tree). list_all (λ child. child (length cs + 1)) (map is_formed_at ts)) children ∙ all);
    }

-- a leaf
no_branch_spends : (b : Bool) (n m : ℕ) → b ≡ false → n ≡ m → cond {A = ℕ} b 1 0 + n ≡ m
no_branch_spends true n m h same = cc
no_branch_spends false n m h same = omega arith

pub leaf_searched : (p : Problem) (cs : List ℕ) (before after : Progress) (tree : Tree) → IsLeaf p cs after tree
    → is_beaten p after.cost cs ≡ true → after.left ≡ before.left → IsNoWorse before after → IsKept p after
    → IsTreeSearched p cs before after tree
leaf_searched p cs before after tree leaf beaten left no_worse kept =
    tree_searched p cs before after tree (part_of tree) [] refl leaf.alone
    (searched_node p before after cs (part_of tree) leaf.right beaten leaf.tight
    (no_branch_spends (is_branch (part_of tree)) after.left before.left leaf.leaf left) no_worse leaf.closed kept)
    leaf.formed refl

-- an Over leaf
over_right : (p : Problem) (cs : List ℕ) → is_over p cs ≡ true → node_fault p cs OverPart ≡ None
unfolding node_fault over_fault
over_right p cs over = ap (λ (b : Bool). cond b None (Some NotOver)) over

over_beaten : (p : Problem) (best : Option ℕ) (cs : List ℕ) → is_over p cs ≡ true → is_beaten p best cs ≡ true
unfolding is_beaten completion
over_beaten p best cs over = rw over refl

pub over_searched : (p : Problem) (cs : List ℕ) (progress : Progress) → is_over p cs ≡ true → IsKept p progress
    → IsTreeSearched p cs progress progress Over
unfolding is_tight
over_searched p cs progress over kept =
    tree_searched p cs progress progress Over OverPart [] part_of-Over children_of-Over
    (searched_node p progress progress cs OverPart (over_right p cs over) (over_beaten p progress.cost cs over) refl
    (omega arith) (no_better-refl progress.cost) (λ left. refl) kept)
    refl refl

-- a Branch and its children
branch_is_right : (p : Problem) (cs : List ℕ) (progress : Progress) (n : ℕ) → IsOpen p cs progress
    → is_over p cs ≡ false → n ≡ length (via p (length cs)) → node_fault p cs (BranchPart n) ≡ None
unfolding node_fault branch_fault
branch_is_right p cs progress n unclosed right size =
    let idle = passes_by (is_crowded p cs (later p (length cs))) Idle None unclosed.busy refl in
    let children = passes_by (not (n == length (via p (length cs)))) Children
    (cond (is_crowded p cs (later p (length cs))) (Some Idle) None)
    (negated (n == length (via p (length cs))) (eq-eqb n (length (via p (length cs))) size)) idle in
    passes_by (is_over p cs) IsOver (branch_fault p cs n) right
    (passes_by (length cs == need_count p) Depth
    (cond (not (n == length (via p (length cs)))) (Some Children)
    (cond (is_crowded p cs (later p (length cs))) (Some Idle) None))
    (not_last (length cs) (need_count p) unclosed.above) children)

formed_branch : (d n : ℕ) → d < 64 → 1 ≤ n → n ≤ 8 → is_formed_part d (BranchPart n) ≡ true
formed_branch d n above some few =
    both (nat_lt d 64 && nat_le 1 n) (nat_le n 8)
    (both (nat_lt d 64) (nat_le 1 n) (lt-ltb d 64 above) (le-leb 1 n some)) (le-leb n 8 few)

via-size : (p : Problem) (i : ℕ) → IsWithin p.sites p.needs → i < need_count p
    → (1 ≤ length (via p i)) × (length (via p i) ≤ 8)
unfolding via
via-size p i within below =
    let need = within.each i (record { load = 0; via = [] }) below in
    (need.some, need.few)

pub branch_searched : (p : Problem) (cs : List ℕ) (before mid spent after : Progress) (ts : List Tree)
    → IsWithin p.sites p.needs → IsRoomy p cs → IsOpen p cs mid → is_beaten p mid.cost cs ≡ true
    → mid.left ≡ before.left → IsNoWorse before mid
    → spent.cost ≡ mid.cost → spent.left + 1 ≡ mid.left → IsKept p spent → length ts ≡ length (via p (length cs))
    → AreSearched p cs spent after ts → IsTreeSearched p cs before after (Branch ts)
unfolding is_tight
branch_searched p cs before mid spent after ts within room unclosed beaten left no_worse same one kept size children =
    let own : IsSearched p before spent (record { choices = cs; part = BranchPart (length ts) } ∷ []) =
    searched_node p before spent cs (BranchPart (length ts))
    (branch_is_right p cs mid (length ts) unclosed room.last size)
    (subst (λ (best : Option ℕ). is_beaten p best cs ≡ true) (sym same) beaten) unclosed.under (omega arith)
    (subst (λ (best : Option ℕ). is_no_better best before.cost ≡ true) (sym same) no_worse) (λ left. refl) kept in
    let via_size = via-size p (length cs) within unclosed.above in
    tree_searched p cs before after (Branch ts) (BranchPart (length ts)) ts (part_of-Branch ts) (children_of-Branch ts)
    (searched_more p before spent after (record { choices = cs; part = BranchPart (length ts) } ∷ [])
    (below p cs 0 (map (visits p) ts)) own children.nodes)
    (formed_branch (length cs) (length ts) (omega (arith, unclosed.above, within.few_needs))
    (omega (arith, size, via_size.0)) (omega (arith, size, via_size.1)))
    children.formed

-- one more child
append_nil : {X : Type 0} (xs : List X) → xs ++ [] ≡ xs
append_nil [] = refl
append_nil (x ∷ xs) = ap (λ rest. x ∷ rest) (append_nil xs)

map-push : {X Y : Type 0} (f : X → Y) (xs : List X) (x : X) → map f (xs ++ x ∷ []) ≡ map f xs ++ f x ∷ []
map-push f [] x = refl
map-push f (y ∷ ys) x = ap (λ rest. f y ∷ rest) (map-push f ys x)

below-push : (p : Problem) (cs : List ℕ) (n : ℕ) (ts : List Tree) (t : Tree)
    → below p cs n (map (visits p) (ts ++ t ∷ [])) ≡ below p cs n (map (visits p) ts) ++ visits p t
    (child_choices p cs (n + length ts))
below-push p cs n [] t =
    let same : n ≡ n + 0 = omega arith in
    append_nil (visits p t (child_choices p cs n)) ∙ ap (λ (k : ℕ). visits p t (child_choices p cs k)) same
below-push p cs n (x ∷ ts) t =
    let same : (n + 1) + length ts ≡ n + suc (length ts) = omega arith in
    let here = visits p x (child_choices p cs n) in
    ap (λ (rest : List Visit). here ++ rest)
    (below-push p cs (n + 1) ts t
    ∙ ap (λ (k : ℕ). below p cs (n + 1) (map (visits p) ts) ++ visits p t (child_choices p cs k)) same)
    ∙ sym (append_assoc here (below p cs (n + 1) (map (visits p) ts))
    (visits p t (child_choices p cs (n + suc (length ts)))))

pub child_searched : (p : Problem) (cs : List ℕ) (before mid after : Progress) (ts : List Tree) (t : Tree) (s : ℕ)
    → AreSearched p cs before mid ts → s ≡ slice_index (via p (length cs)) (length ts)
    → IsTreeSearched p (cs ++ s ∷ []) mid after t → AreSearched p cs before after (ts ++ t ∷ [])
unfolding child_choices
child_searched p cs before mid after ts t s so_far is child =
    let led : cs ++ s ∷ [] ≡ child_choices p cs (0 + length ts) =
    let place : length ts ≡ 0 + length ts = omega arith in
    ap (λ (site : ℕ). cs ++ site ∷ []) is ∙ ap (λ (k : ℕ). cs ++ slice_index (via p (length cs)) k ∷ []) place in
    let size : length (cs ++ s ∷ []) ≡ length cs + 1 = simp length-append (omega arith) in
    let nodes : IsSearched p mid after (visits p t (child_choices p cs (0 + length ts))) =
    subst (λ (xs : List ℕ). IsSearched p mid after (visits p t xs)) led child.nodes in
    let formed : is_formed_at t (length cs + 1) ≡ true = sym (ap (is_formed_at t) size) ∙ child.formed in
    record {
      nodes = subst (λ (vs : List Visit). IsSearched p before after vs) (sym (below-push p cs 0 ts t))
          (searched_more p before mid after (below p cs 0 (map (visits p) ts))
          (visits p t (child_choices p cs (0 + length ts))) so_far.nodes nodes);
      formed =
          ap (list_all (λ child. child (length cs + 1))) (map-push is_formed_at ts t)
          ∙ list_all-append (λ child. child (length cs + 1)) (map is_formed_at ts) (is_formed_at t ∷ [])
          ∙ both (list_all (λ child. child (length cs + 1)) (map is_formed_at ts))
          (is_formed_at t (length cs + 1) && true) so_far.formed
          (both (is_formed_at t (length cs + 1)) true formed refl);
    }

pub children_nothing : (p : Problem) (cs : List ℕ) (progress : Progress) → IsKept p progress
    → AreSearched p cs progress progress []
children_nothing p cs progress kept = record { nodes = searched_nothing p progress kept; formed = refl }

-- the Branch nodes of a tree are those of its list of nodes
IsCounted : Tree → Type 0
IsCounted tree = (p : Problem) (cs : List ℕ) → branches_of (visits p tree cs) ≡ branches tree

counted_below : (ts : List Tree) → AllByRecursion IsCounted ts → (p : Problem) (cs : List ℕ) (n : ℕ)
    → branches_of (below p cs n (map (visits p) ts)) ≡ sum (map branches ts)
unfolding IsCounted branches_of
counted_below [] each p cs n = refl
counted_below (t ∷ ts) each p cs n =
    let here = each.0 p (child_choices p cs n) in
    let rest = counted_below ts each.1 p cs (n + 1) in
    omega (
      arith,
      here,
      rest,
      sum-cons (branches t) (map branches ts),
      branches_of-append
          (visits p t (child_choices p cs n)) (below p cs (n + 1) (map (visits p) ts)),
    )

counted : (tree : Tree) → IsCounted tree
unfolding IsCounted branches_of
counted = tree_induction IsCounted (λ tree each p cs.
    ap branches_of (visits-out p tree cs)
    ∙ omega (arith, counted_below (children_of tree) each p cs 0, branches-out tree))

pub branches-visits : (p : Problem) (tree : Tree) (cs : List ℕ) → branches_of (visits p tree cs) ≡ branches tree
unfolding IsCounted
branches-visits p tree cs = counted tree p cs

-- the best placement stays right as the progress goes on
pub kept_on : (p : Problem) (before after : Progress) → IsKept p before → IsNoWorse before after
    → (IfSome before.cost (IsCostOf p before.sites) → IfSome after.cost (IsCostOf p after.sites)) → IsKept p after
kept_on p before after kept no_worse best = record {
  best = best kept.best;
  begun = no_better-trans after.cost before.cost (first_fit_cost p) no_worse kept.begun;
}

-- what holds where a call was no error
pub pushed_ok : {T E P : Type 0} (r : Result T E) → false ≡ is_err r → OnOk r P → P
pushed_ok (Ok x) fine holds = holds
pushed_ok (Err e) fine holds = cc
