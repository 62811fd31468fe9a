use Rattle.std.proofs.Common.{◌++◌, ◌∷◌, [], ℕ, List, Result, ◌∙◌, ap, subst}
use Rattle.regions.specs.declared.types.Halt.{Halt}
use Rattle.bit_compile.specs.Making.{Makes}
use Rattle.bdd_sets.proofs.ListLemmas.{list_more}
use Rattle.bdd_sets.proofs.lists.push_made.Goals as goal

pub returns-in-Ok-reserve-clause-made : goal.returns-in-Ok-reserve-clause-made
returns-in-Ok-reserve-clause-made c = λ base mid fs f list made.
    list_more base mid c.args.roots fs list c.args.diagrams.now c.in-Ok.root f c.push_reserved.new.self
    (subst (λ (r : Result ℕ Halt). Makes mid c.args.diagrams.now r f) c.in-Ok.is made)
    (c.push_reserved.ensures.items ∙ ap (λ (xs : List ℕ). xs ++ c.in-Ok.root ∷ []) c.in-Ok-reserve.ensures.items)
