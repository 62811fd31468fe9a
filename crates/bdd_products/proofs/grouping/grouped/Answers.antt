use Rattle.std.proofs.Common.{ℕ, ◌++◌, [], Ok, List, refl, sym, ◌∙◌, ap, subst}
use Rattle.spec_model.specs.Diagrams.{Function}
use Rattle.bdd_sets.specs.Members.{AreRoots, all_true, functions_at}
use Rattle.bdd_sets.proofs.ListLemmas.{no_list, list_roots}
use Rattle.bdd_products.specs.Products.{MakesLines, both_lists}
use Rattle.bdd_products.proofs.KeepingLemmas.{list_lines, list_refuses}
use Rattle.bdd_products.proofs.MadeLemmas.{counted_then, lines_beside}
use Rattle.bdd_products.proofs.ProductLemmas.{all_true-append}
use Rattle.bdd_products.proofs.grouping.grouped.Goals as goal

pub with_kept-requires : goal.with_kept-requires
with_kept-requires c = let old = c.args.diagrams.now in (old, [], no_list old c.new.result c.new.ensures.items, c.requires.first)

pub returns-in_err-all-clause-lines : goal.returns-in_err-all-clause-lines
returns-in_err-all-clause-lines c =
    let old = c.args.diagrams.now in
    list_refuses old c.with_kept.new.diagrams c.from_residual.result c.in_err-all.field-0.0 _ _ c.from_residual.ensures.1 (c.in_err-all.ensures.made old [] (no_list old c.new.result c.new.ensures.items) c.requires.first)

pub with_kept-requires-2 : goal.with_kept-requires-2
with_kept-requires-2 c =
    let old = c.args.diagrams.now in
    (old, _, c.in_ok-all.ensures.made old [] (no_list old c.new.result c.new.ensures.items) c.requires.first, c.requires.second)

pub returns-in_err-all-2-clause-lines : goal.returns-in_err-all-2-clause-lines
returns-in_err-all-2-clause-lines c =
    let old = c.args.diagrams.now in
    list_refuses old c.with_kept-2.new.diagrams c.from_residual-in_err-all-2.result c.in_err-all-2.field-0.0 _ _ c.from_residual-in_err-all-2.ensures.1
    (c.in_err-all-2.ensures.made old _ (c.in_ok-all.ensures.made old [] (no_list old c.new.result c.new.ensures.items) c.requires.first) c.requires.second)

pub fewest_groups-made-requires : goal.fewest_groups-made-requires
fewest_groups-made-requires c =
    let old = c.args.diagrams.now in
    let list = c.in_ok-all-2.ensures.made old _ (c.in_ok-all.ensures.made old [] (no_list old c.new.result c.new.ensures.items) c.requires.first) c.requires.second in
    subst (λ (ms : List ℕ). AreRoots c.with_kept-2.new.diagrams ms) (sym c.deref.ensures.value) (list_roots old c.with_kept-2.new.diagrams c.in_ok-all-2.all _ list)

pub release_list-requires : goal.release_list-requires
release_list-requires c =
    let old = c.args.diagrams.now in
    let mid = c.with_kept-2.new.diagrams in
    let list = c.in_ok-all-2.ensures.made old _ (c.in_ok-all.ensures.made old [] (no_list old c.new.result c.new.ensures.items) c.requires.first) c.requires.second in
    let lines = list_lines old mid (Ok c.in_ok-all-2.all) _ _ list refl in
    counted_then old mid c.in_ok-all-2.all _ lines c.fewest_groups-made.new.diagrams _ c.fewest_groups-made.result c.fewest_groups-made.ensures.lines

pub returns-clause-lines : goal.returns-clause-lines
returns-clause-lines c =
    let old = c.args.diagrams.now in
    let mid = c.with_kept-2.new.diagrams in
    let first = functions_at old c.args.first.now in
    let second = functions_at old c.args.second.now in
    let list = c.in_ok-all-2.ensures.made old first (c.in_ok-all.ensures.made old [] (no_list old c.new.result c.new.ensures.items) c.requires.first) c.requires.second in
    let whole = both_lists first second in
    let lines = list_lines old mid (Ok c.in_ok-all-2.all) (first ++ second) whole list (all_true-append first second) in
    let made = subst (λ (f : Function). MakesLines mid c.fewest_groups-made.new.diagrams c.fewest_groups-made.result f) (ap (λ (ms : List ℕ). all_true (functions_at mid ms)) c.deref.ensures.value ∙ lines.conjunction) c.fewest_groups-made.ensures.lines in
    lines_beside old mid c.in_ok-all-2.all whole lines c.fewest_groups-made.new.diagrams c.release_list.new.diagrams whole c.fewest_groups-made.result made c.release_list.ensures.released c.release_list.ensures.nodes
