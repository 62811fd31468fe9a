use Rattle.std.proofs.Common.{ap, ◌∙◌, ◌||◌, ◌∷◌, []}
use Rattle.bdd_ops.specs.Functions.{is_among}
use Rattle.bdd_products.proofs.KeepingLemmas.{on_ok}
use Rattle.bdd_products.proofs.LevelLemmas.{parted_first, parted_second}
use Rattle.bdd_products.proofs.spreading.add_by.Goals as goal

pub returns-in-Some-true-clause-added : goal.returns-in-Some-true-clause-added
returns-in-Some-true-clause-added c =
    on_ok c.add_all.result _ _ (λ is m. ap (λ xs. is_among m xs || is_among m c.args.rest.now.items) is ∙ parted_first c.args.flagged.now.items c.args.rest.now.items (c.args.level ∷ []) m) c.add_all.ensures.added

pub returns-clause-added : goal.returns-clause-added
returns-clause-added c =
    on_ok c.add_all-2.result _ _ (λ is m. ap (λ xs. is_among m c.args.flagged.now.items || is_among m xs) is ∙ parted_second c.args.flagged.now.items c.args.rest.now.items (c.args.level ∷ []) m) c.add_all-2.ensures.added
