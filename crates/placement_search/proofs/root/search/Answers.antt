-- A crowd of all needs settles it; else the searched tree shows what is concluded.
use Rattle.std.proofs.Common.{◌≡◌, true, false, [], sym, ◌∙◌, subst}
use Rattle.bound_certificate.specs.Node.{later, is_crowded}
use Rattle.bound_certificate.specs.Outcome.{is_right}
use Rattle.bound_certificate.specs.declared.outcome.Outcome.{Outcome}
use Rattle.bound_certificate.specs.declared.outcome.Outcome.TheVariants.{Infeasible}
use Rattle.bound_certificate.specs.declared.tree.Tree.TheVariants.{Hall}
use Rattle.bound_certificate.proofs.Nodes.{if_ok}
use Rattle.placement_search.specs.Searched.{IsTreeSearched}
use Rattle.placement_search.specs.Shown.{IsSettled, concluded}
use Rattle.placement_search.proofs.Capacities.{roomy_nothing}
use Rattle.placement_search.proofs.Conclusions.{all_crowd, crowd_is_right, concluded_is_right, formed_searched, right_settled}
use Rattle.placement_search.proofs.Overload.{overloaded}
use Rattle.placement_search.proofs.root.search.Goals as goal

pub returns-then-is_crowded-clause-right : goal.returns-then-is_crowded-clause-right
returns-then-is_crowded-clause-right c =
    let p = c.args.problem.now in
    let crowd = all_crowd p c.later-all.result c.later-all.ensures.value c.later-all.ensures.within
    c.later-all.ensures.known
    (rw c.as_slice.ensures.value at (sym c.is_crowded.ensures.value ∙ c.if-is_crowded.true)) in
    if_ok c.crowded_out.result
    (λ outcome is. rw is
    (crowd_is_right p c.args.nodes c.later-all.result c.later-all.ensures.within crowd)) c.crowded_out.ensures.value

pub returns-then-is_crowded-clause-settled : goal.returns-then-is_crowded-clause-settled
returns-then-is_crowded-clause-settled c few =
    let p = c.args.problem.now in
    let crowd = all_crowd p c.later-all.result c.later-all.ensures.value c.later-all.ensures.within
    c.later-all.ensures.known
    (rw c.as_slice.ensures.value at (sym c.is_crowded.ensures.value ∙ c.if-is_crowded.true)) in
    let outcome = Infeasible (Hall c.later-all.result) in
    let right = crowd_is_right p c.args.nodes c.later-all.result c.later-all.ensures.within crowd in
    if_ok c.crowded_out.result
    (λ shown is. rw is (right_settled p c.args.nodes outcome c.later-all.ensures.within right few))
    c.crowded_out.ensures.value

pub search_at-requires-clause-room : goal.search_at-requires-clause-room
search_at-requires-clause-room c = rw c.new.ensures.value (roomy_nothing c.args.problem.now)

pub conclude-requires-clause-formed : goal.conclude-requires-clause-formed
conclude-requires-clause-formed c =
    formed_searched c.args.problem.now c.args.nodes c.in_ok-progress.progress c.search_at.new.progress
    c.in_ok-tree.tree c.in_ok-progress.ensures.left c.requires.few
    (rw c.new.ensures.value at c.in_ok-tree.ensures.searched)

pub returns-clause-right : goal.returns-clause-right
returns-clause-right c =
    let p = c.args.problem.now in
    let before = c.in_ok-progress.progress in
    let after = c.search_at.new.progress in
    let searched : IsTreeSearched p [] before after c.in_ok-tree.tree =
    rw c.new.ensures.value at c.in_ok-tree.ensures.searched in
    if_ok c.conclude.result
    (λ outcome is. rw is
    (concluded_is_right p c.args.nodes before after c.in_ok-tree.tree c.later-all.ensures.within
    c.in_ok-progress.ensures.left c.requires.few searched))
    c.conclude.ensures.value

pub returns-clause-settled : goal.returns-clause-settled
returns-clause-settled c few =
    let p = c.args.problem.now in
    let before = c.in_ok-progress.progress in
    let after = c.search_at.new.progress in
    let searched : IsTreeSearched p [] before after c.in_ok-tree.tree =
    rw c.new.ensures.value at c.in_ok-tree.ensures.searched in
    let shown = concluded p after.cost after.sites c.in_ok-tree.tree in
    let right : is_right p c.args.nodes shown ≡ true =
    concluded_is_right p c.args.nodes before after c.in_ok-tree.tree c.later-all.ensures.within
    c.in_ok-progress.ensures.left c.requires.few searched in
    let settled : IsSettled p shown = right_settled p c.args.nodes shown c.later-all.ensures.within right few in
    if_ok c.conclude.result
    (λ outcome is. subst (λ (outcome : Outcome). IsSettled p outcome) (sym is) settled) c.conclude.ensures.value

pub returns-clause-overloaded : goal.returns-clause-overloaded
returns-clause-overloaded c over =
    let p = c.args.problem.now in
    let crowded : is_crowded p [] (later p 0) ≡ true = sym (overloaded p) ∙ over in
    let not_crowded : is_crowded p [] (later p 0) ≡ false =
    rw (c.as_slice.ensures.value, c.later-all.ensures.value) at
    (sym c.is_crowded.ensures.value ∙ c.if-is_crowded.false) in
    absurd (cc)
