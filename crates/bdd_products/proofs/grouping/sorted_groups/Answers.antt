use Rattle.std.proofs.Common.{ℕ, List, sym, ◌∙◌, ap, subst}
use Rattle.spec_model.specs.Diagrams.{Function}
use Rattle.bdd_sets.specs.Members.{AreRoots, all_true, functions_at}
use Rattle.bdd_products.specs.Products.{MakesLines}
use Rattle.bdd_products.proofs.KeepingLemmas.{lines_handed}
use Rattle.bdd_products.proofs.MadeLemmas.{lines_roots, counted_then, lines_beside}
use Rattle.bdd_products.proofs.grouping.sorted_groups.Goals as goal

pub groups_of-made-requires : goal.groups_of-made-requires
groups_of-made-requires c = subst (λ (ms : List ℕ). AreRoots c.sorted.new.diagrams ms) (sym c.deref.ensures.value) (lines_roots c.args.diagrams.now c.sorted.new.diagrams c.in_ok-sorted.sorted _ c.in_ok-sorted.ensures)

pub release_list-requires : goal.release_list-requires
release_list-requires c = counted_then c.args.diagrams.now c.sorted.new.diagrams c.in_ok-sorted.sorted _ c.in_ok-sorted.ensures c.groups_of-made.new.diagrams _ c.groups_of-made.result c.groups_of-made.ensures.lines

pub returns-in_err-sorted-clause-lines : goal.returns-in_err-sorted-clause-lines
returns-in_err-sorted-clause-lines c = lines_handed c.args.diagrams.now c.sorted.new.diagrams c.from_residual.result c.in_err-sorted.field-0.0 _ _ c.from_residual.ensures.1 c.in_err-sorted.ensures

pub returns-clause-lines : goal.returns-clause-lines
returns-clause-lines c =
    let old = c.args.diagrams.now in
    let mid = c.sorted.new.diagrams in
    let lines = c.in_ok-sorted.ensures in
    let made = subst (λ (f : Function). MakesLines mid c.groups_of-made.new.diagrams c.groups_of-made.result f) (ap (λ (ms : List ℕ). all_true (functions_at mid ms)) c.deref.ensures.value ∙ lines.conjunction) c.groups_of-made.ensures.lines in
    lines_beside old mid c.in_ok-sorted.sorted _ lines c.groups_of-made.new.diagrams c.release_list.new.diagrams _ c.groups_of-made.result made c.release_list.ensures.released c.release_list.ensures.nodes
