use Rattle.gr1_env.specs.Held.{list_regions}
use Rattle.gr1_sys.proofs.Popped.{first_together, rest_together, first_and_rest}
use Rattle.gr1_env.proofs.spending.spend_hold.Goals as goal

pub spend-requires : goal.spend-requires
spend-requires g c = first_together (g.G.Regions.kept c.args.g.now) _ _ c.requires

pub spend_lists-requires : goal.spend_lists-requires
spend_lists-requires g c = rest_together (g.G.Regions.kept c.args.g.now) (g.G.Regions.kept c.spend.new.self) c.args.e.y (list_regions c.args.e.x.items) (g.met.G.Regions.exact _) c.requires c.spend.ensures.spends

pub returns-clause-spends : goal.returns-clause-spends
returns-clause-spends g c = first_and_rest (g.G.Regions.kept c.args.g.now) (g.G.Regions.kept c.spend.new.self) (g.G.Regions.kept c.spend_lists.new.g) c.args.e.y (list_regions c.args.e.x.items) (g.met.G.Regions.exact _) c.requires c.spend.ensures.spends c.spend_lists.ensures.spends
