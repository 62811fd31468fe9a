use Rattle.std.proofs.Common.{◌≡◌, ℕ, ◌++◌, [], ◌∷◌, List, sym, subst, take}
use Rattle.bdd_bits.specs.Contents.{function_at}
use Rattle.bdd_sets.specs.Members.{AreRoots, all_true, functions_at}
use Rattle.bdd_sets.proofs.ListLemmas.{no_list}
use Rattle.bdd_products.proofs.KeepingLemmas.{list_lines, some_lines, members_lines, parts_members, list_refuses, root_refuses, back_roots}
use Rattle.bdd_products.specs.Products.{AreOfMembers, both_lists}
use Rattle.bdd_products.proofs.ProductLemmas.{three_parts}
use Rattle.bdd_products.proofs.front.lines_of.Goals as goal

pub returns-in_err-front-clause-lines : goal.returns-in_err-front-clause-lines
returns-in_err-front-clause-lines c = root_refuses c.args.diagrams.now c.front_of.new.diagrams c.from_residual.result c.in_err-front.field-0.0 _ _ c.from_residual.ensures.1 c.in_err-front.ensures.refused

pub push_made-requires : goal.push_made-requires
push_made-requires c =
    let old = c.args.diagrams.now in
    (old, old, [], _, no_list old c.new.result c.new.ensures.items, c.in_ok-front.ensures.made)

pub returns-in_err-list-clause-lines : goal.returns-in_err-list-clause-lines
returns-in_err-list-clause-lines c =
    let old = c.args.diagrams.now in
    list_refuses old c.push_made.new.diagrams c.from_residual-in_err-list.result c.in_err-list.field-0.0 _ _ c.from_residual-in_err-list.ensures.1 (c.in_err-list.ensures.made old old [] _ (no_list old c.new.result c.new.ensures.items) c.in_ok-front.ensures.made)

pub with_kept-requires : goal.with_kept-requires
with_kept-requires c =
    let old = c.args.diagrams.now in
    (old, _, c.in_ok-list.ensures.made old old [] _ (no_list old c.new.result c.new.ensures.items) c.in_ok-front.ensures.made, subst (λ (ms : List ℕ). AreRoots old ms) (sym c.split_at.ensures.back) (back_roots old c.args.first.now c.in_ok-front.front.count c.requires.first))

pub returns-in_err-list-2-clause-lines : goal.returns-in_err-list-2-clause-lines
returns-in_err-list-2-clause-lines c =
    let old = c.args.diagrams.now in
    list_refuses old c.with_kept.new.diagrams c.from_residual-in_err-list-2.result c.in_err-list-2.field-0.0 _ _ c.from_residual-in_err-list-2.ensures.1
    (c.in_err-list-2.ensures.made old _ (c.in_ok-list.ensures.made old old [] _ (no_list old c.new.result c.new.ensures.items) c.in_ok-front.ensures.made) (subst (λ (ms : List ℕ). AreRoots old ms) (sym c.split_at.ensures.back) (back_roots old c.args.first.now c.in_ok-front.front.count c.requires.first)))

pub with_kept-requires-2 : goal.with_kept-requires-2
with_kept-requires-2 c =
    let old = c.args.diagrams.now in
    (old, _, c.in_ok-list-2.ensures.made old _ (c.in_ok-list.ensures.made old old [] _ (no_list old c.new.result c.new.ensures.items) c.in_ok-front.ensures.made) (subst (λ (ms : List ℕ). AreRoots old ms) (sym c.split_at.ensures.back) (back_roots old c.args.first.now c.in_ok-front.front.count c.requires.first)), c.requires.second)

pub returns-clause-lines : goal.returns-clause-lines
returns-clause-lines c =
    let old = c.args.diagrams.now in
    let first = c.args.first.now in
    let second = c.args.second.now in
    let n = c.in_ok-front.front.count in
    let rest = c.split_at.result.1.now in
    let f = all_true (functions_at old (take n first)) in
    let are = subst (λ (ms : List ℕ). AreRoots old ms) (sym c.split_at.ensures.back) (back_roots old first n c.requires.first) in
    let one = c.in_ok-list.ensures.made old old [] f (no_list old c.new.result c.new.ensures.items) c.in_ok-front.ensures.made in
    let two = c.in_ok-list-2.ensures.made old (f ∷ []) one are in
    let three = c.with_kept-2.ensures.made old (f ∷ functions_at old rest) two c.requires.second in
    let together = subst (λ (ms : List ℕ). all_true (f ∷ functions_at old ms ++ functions_at old second) ≡ both_lists (functions_at old first) (functions_at old second)) (sym c.split_at.ensures.back) (three_parts (function_at old) first second n) in
    list_lines old c.with_kept-2.new.diagrams c.with_kept-2.result (f ∷ functions_at old rest ++ functions_at old second) (both_lists (functions_at old first) (functions_at old second)) three together

pub returns-clause-some : goal.returns-clause-some
returns-clause-some c =
    let old = c.args.diagrams.now in
    let first = c.args.first.now in
    let n = c.in_ok-front.front.count in
    let rest = c.split_at.result.1.now in
    let f = all_true (functions_at old (take n first)) in
    let are = subst (λ (ms : List ℕ). AreRoots old ms) (sym c.split_at.ensures.back) (back_roots old first n c.requires.first) in
    let one = c.in_ok-list.ensures.made old old [] f (no_list old c.new.result c.new.ensures.items) c.in_ok-front.ensures.made in
    let two = c.in_ok-list-2.ensures.made old (f ∷ []) one are in
    let three = c.with_kept-2.ensures.made old (f ∷ functions_at old rest) two c.requires.second in
    some_lines old c.with_kept-2.new.diagrams c.with_kept-2.result f (functions_at old rest ++ functions_at old c.args.second.now) three

pub returns-clause-members : goal.returns-clause-members
returns-clause-members c =
    let old = c.args.diagrams.now in
    let first = c.args.first.now in
    let second = c.args.second.now in
    let n = c.in_ok-front.front.count in
    let rest = c.split_at.result.1.now in
    let f = all_true (functions_at old (take n first)) in
    let are = subst (λ (ms : List ℕ). AreRoots old ms) (sym c.split_at.ensures.back) (back_roots old first n c.requires.first) in
    let one = c.in_ok-list.ensures.made old old [] f (no_list old c.new.result c.new.ensures.items) c.in_ok-front.ensures.made in
    let two = c.in_ok-list-2.ensures.made old (f ∷ []) one are in
    let three = c.with_kept-2.ensures.made old (f ∷ functions_at old rest) two c.requires.second in
    let members = subst (λ (ms : List ℕ). AreOfMembers (functions_at old first) (functions_at old second) (f ∷ functions_at old ms ++ functions_at old second)) (sym c.split_at.ensures.back) (parts_members old first second n) in
    members_lines old c.with_kept-2.new.diagrams c.with_kept-2.result (functions_at old first) (functions_at old second) (f ∷ functions_at old rest ++ functions_at old second) three members
