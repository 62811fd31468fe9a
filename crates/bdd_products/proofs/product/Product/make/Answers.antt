use Rattle.std.proofs.Common.{◌<◌, Err, refl, ℕ, List, [], sym, subst, length}
use Rattle.spec_model.specs.Diagrams.{Function}
use Rattle.bdd_sets.specs.Members.{AreRoots, functions_at}
use Rattle.bdd_sets.proofs.SpentLemmas.{functions_kept}
use Rattle.bdd_products.specs.Products.{IsSpread, levels_of, AreOfMembers}
use Rattle.bdd_products.proofs.KeepingLemmas.{lines_refuse}
use Rattle.bdd_products.proofs.MadeLemmas.{lines_roots, product_made, lines_counted, lines_back}
use Rattle.bdd_products.proofs.product.Product.make.Goals as goal

pub returns-in_err-lines-clause-product : goal.returns-in_err-lines-clause-product
returns-in_err-lines-clause-product c = lines_refuse c.args.diagrams.now c.lines_by.new.diagrams c.from_residual.result c.in_err-lines.field-0.0 _ c.args.out.now c.from_residual.ensures.1 c.in_err-lines.ensures.lines

pub spread-requires-clause-some : goal.spread-requires-clause-some
spread-requires-clause-some c = subst (λ (ms : List ℕ). 0 < length ms) (sym c.deref.ensures.value) c.in_ok-lines.ensures.some

pub spread-requires-clause-kept : goal.spread-requires-clause-kept
spread-requires-clause-kept c = subst (λ (ms : List ℕ). AreRoots c.lines_by.new.diagrams ms) (sym c.deref.ensures.value) (lines_roots c.args.diagrams.now c.lines_by.new.diagrams c.in_ok-lines.lines _ c.in_ok-lines.ensures.lines)

pub returns-in-Ok-clause-product : goal.returns-in-Ok-clause-product
returns-in-Ok-clause-product c =
    let mid = c.lines_by.new.diagrams in
    let spread = subst (λ (ms : List ℕ). IsSpread c.args.out.now [] (functions_at mid ms) (levels_of c.in-Ok.outs.items)) c.deref.ensures.value c.in-Ok.ensures.all in
    product_made c.args.diagrams.now mid c.in_ok-lines.lines _ c.in_ok-lines.ensures.lines c.spread.new.diagrams c.in-Ok.outs c.args.out.now _ spread c.in-Ok.ensures.leaves

pub returns-in-Ok-clause-members : goal.returns-in-Ok-clause-members
returns-in-Ok-clause-members c = λ plain.
    let old = c.args.diagrams.now in
    let mid = c.lines_by.new.diagrams in
    let same = functions_kept mid c.spread.new.diagrams c.in-Ok.ensures.leaves.keeps c.in_ok-lines.lines.items (lines_roots old mid c.in_ok-lines.lines _ c.in_ok-lines.ensures.lines) in
    subst (λ (fs : List Function). AreOfMembers (functions_at old c.args.first.now) (functions_at old c.args.second.now) fs) (sym same) (c.in_ok-lines.ensures.members plain)

pub release_list-requires : goal.release_list-requires
release_list-requires c = lines_counted c.args.diagrams.now c.lines_by.new.diagrams c.in_ok-lines.lines _ c.in_ok-lines.ensures.lines c.spread.new.diagrams _ c.in-Err.ensures.leaves

pub returns-in-Err-clause-product : goal.returns-in-Err-clause-product
returns-in-Err-clause-product c = lines_back c.args.diagrams.now c.lines_by.new.diagrams c.in_ok-lines.lines _ c.in_ok-lines.ensures.lines c.spread.new.diagrams c.release_list.new.diagrams c.in-Err.halt (Err c.in-Err.halt) c.args.out.now refl c.in-Err.ensures.leaves c.release_list.ensures.released c.release_list.ensures.nodes
