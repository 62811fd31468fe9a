use Rattle.std.proofs.Common.{Ok, Err, Result, ap, subst}
use Rattle.spec_model.specs.Diagrams.{Function}
use Rattle.bdd_sets.specs.Members.{all_true, functions_at}
use Rattle.bdd_sets.proofs.SpentLemmas.{functions_kept}
use Rattle.bdd_products.specs.Products.{MakesLines}
use Rattle.bdd_products.proofs.MadeLemmas.{lines_beside, others_back, others_refused}
use Rattle.bdd_products.proofs.grouping.fewer.Goals as goal

pub returns-then-len-end-clause-lines : goal.returns-then-len-end-clause-lines
returns-then-len-end-clause-lines c base lines roots =
    let mid = c.args.diagrams.now in
    let tried = c.sorted_groups.new.diagrams in
    let whole = all_true (functions_at base c.args.members.now) in
    let made = subst (λ (f : Function). MakesLines mid tried (Ok c.in-Ok.other) f) (ap all_true (functions_kept base mid lines.keeps c.args.members.now roots)) c.in-Ok.ensures.lines in
    lines_beside base mid c.args.groups whole lines tried c.release_list.new.diagrams whole (Ok c.in-Ok.other) made c.release_list.ensures.released c.release_list.ensures.nodes

pub returns-else-len-end-clause-lines : goal.returns-else-len-end-clause-lines
returns-else-len-end-clause-lines c base lines roots =
    others_back base c.args.diagrams.now c.args.groups (all_true (functions_at base c.args.members.now)) lines c.sorted_groups.new.diagrams c.release_list-else-len-end.new.diagrams c.in-Ok.other _ c.in-Ok.ensures.lines c.release_list-else-len-end.ensures.released c.release_list-else-len-end.ensures.nodes

pub returns-in-Err-clause-lines : goal.returns-in-Err-clause-lines
returns-in-Err-clause-lines c base lines roots =
    others_refused base c.args.diagrams.now c.args.groups (all_true (functions_at base c.args.members.now)) lines c.sorted_groups.new.diagrams _ _ c.in-Err.ensures.lines
