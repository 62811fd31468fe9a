use Rattle.std.proofs.Common.{◌++◌, ◌∷◌, [], Ok, List, take, subst}
use Rattle.spec_model.specs.Diagrams.{Function}
use Rattle.bdd_sets.specs.Members.{all_true, functions_at}
use Rattle.bdd_sets.specs.Lists.{MakesList}
use Rattle.bdd_products.proofs.KeepingLemmas.{err_list, front_kept}
use Rattle.bdd_products.proofs.grouping.with_group.Goals as goal

pub returns-in_err-list-in-Ok-clause-refused : goal.returns-in_err-list-in-Ok-clause-refused
returns-in_err-list-in-Ok-clause-refused c = λ base fs list are.
    let old = c.args.diagrams.now in
    let group = all_true (functions_at old (take c.in-Ok.group.count c.args.members.now)) in
    err_list base c.push_made.new.diagrams c.from_residual.result c.in_err-list-in-Ok.field-0.0 (fs ++ group ∷ []) fs c.from_residual.ensures.1 (c.in_err-list-in-Ok.ensures.made base old fs group list c.in-Ok.ensures.made)

pub returns-in_ok-list-in-Ok-clause-made : goal.returns-in_ok-list-in-Ok-clause-made
returns-in_ok-list-in-Ok-clause-made c = λ base fs list are.
    let old = c.args.diagrams.now in
    let ms = c.args.members.now in
    let n = c.in-Ok.group.count in
    subst (λ (gs : List Function). MakesList base c.push_made.new.diagrams (Ok c.in_ok-list-in-Ok.list) (fs ++ all_true gs ∷ [])) (front_kept base old ms n list.keeps are)
    (c.in_ok-list-in-Ok.ensures.made base old fs (all_true (functions_at old (take n ms))) list c.in-Ok.ensures.made)
