use Rattle.std.proofs.Common.{◌≤◌, ◌∷◌, [], ℕ, Ok, List, length, take, sym, subst, arith}
use Rattle.std.proofs.lemmas.List.{take_all}
use Rattle.bdd_sets.specs.Members.{AreRoots, all_true, functions_at}
use Rattle.bdd_sets.proofs.ListLemmas.{no_list}
use Rattle.bdd_products.specs.Products.{MakesLines}
use Rattle.bdd_products.proofs.KeepingLemmas.{list_lines, some_lines, list_refuses, back_roots}
use Rattle.bdd_products.proofs.GroupLemmas.{all_true-one, lines_list, lines_more, some_more}
use Rattle.bdd_products.proofs.grouping.groups_of.Goals as goal

pub loop-from-init : goal.loop-from-init
loop-from-init c =
    let old = c.args.diagrams.now in
    let front = all_true (functions_at old (take c.in_ok-front.front.count c.args.members.now)) in
    let list = c.in_ok-list.ensures.made old old [] front (no_list old c.new.result c.new.ensures.items) c.in_ok-front.ensures.made in
    record {
      lines = list_lines old c.push_made.new.diagrams (Ok c.in_ok-list.list) (front ∷ []) front list (all_true-one front);
      some = some_lines old c.push_made.new.diagrams (Ok c.in_ok-list.list) front [] list;
      within = c.in_ok-front.ensures.some;
    }

pub returns-in_err-more-clause-lines : goal.returns-in_err-more-clause-lines
returns-in_err-more-clause-lines c =
    let old = c.args.diagrams.now in
    let l = c.loop-from.diagrams in
    let so_far = functions_at l c.loop-from.list.items in
    let are = subst (λ (ms : List ℕ). AreRoots old ms) (sym c.split_at.ensures.back) (back_roots old c.args.members.now c.loop-from.from c.requires) in
    list_refuses old c.with_group.new.diagrams c.from_residual-in_err-more.result c.in_err-more.field-0.0 so_far _ c.from_residual-in_err-more.ensures.1
    (c.in_err-more.ensures.refused old so_far (lines_list old l c.loop-from.list _ c.loop-from.invariant.lines) are)

pub loop-from-preserved : goal.loop-from-preserved
loop-from-preserved c =
    let old = c.args.diagrams.now in
    let l = c.loop-from.diagrams in
    let ms = c.args.members.now in
    let rest = c.split_at.result.1.now in
    let inv = c.loop-from.invariant in
    let so_far = functions_at l c.loop-from.list.items in
    let are = subst (λ (ns : List ℕ). AreRoots old ns) (sym c.split_at.ensures.back) (back_roots old ms c.loop-from.from c.requires) in
    let list = c.in_ok-more.ensures.made old so_far (lines_list old l c.loop-from.list _ inv.lines) are in
    let long = c.split_at.ensures.back_len in
    record {
      lines = lines_more old l c.with_group.new.diagrams c.loop-from.list c.in_ok-more.more ms rest c.loop-from.from c.in_ok-more.count inv.lines c.split_at.ensures.back list;
      some = some_more old c.with_group.new.diagrams c.in_ok-more.more so_far _ list;
      within = omega (arith, long, inv.within, c.in_ok-more.ensures.within);
    }

pub returns-clause-lines : goal.returns-clause-lines
returns-clause-lines c =
    let old = c.args.diagrams.now in
    let past : length c.args.members.now ≤ c.loop-from.from = omega (arith, c.loop-from-test.false) in
    subst (λ (ms : List ℕ). MakesLines old c.loop-from.diagrams (Ok c.loop-from.list) (all_true (functions_at old ms))) (take_all c.loop-from.from c.args.members.now past) c.loop-from.invariant.lines
