use Rattle.bdd_products.proofs.grouping.fewest_groups.Goals as goal

pub returns-clause-lines : goal.returns-clause-lines
returns-clause-lines c = c.fewer.ensures.lines c.args.diagrams.now (c.fewer-groups.ensures.lines c.args.diagrams.now c.in_ok-groups.ensures.lines c.requires) c.requires
