use Rattle.gr1_sys.proofs.Popped.{first_together, rest_together, first_and_rest}
use Rattle.gr1_sys.proofs.spending.spend_layer.Goals as goal

pub spend-requires : goal.spend-requires
spend-requires g c = first_together (g.G.Regions.kept c.args.g.now) _ _ c.requires

pub spend_all-requires : goal.spend_all-requires
spend_all-requires g c = rest_together (g.G.Regions.kept c.args.g.now) (g.G.Regions.kept c.spend.new.self) c.args.l.y c.args.l.x.items (g.met.G.Regions.exact _) c.requires c.spend.ensures.spends

pub returns-clause-spends : goal.returns-clause-spends
returns-clause-spends g c = first_and_rest (g.G.Regions.kept c.args.g.now) (g.G.Regions.kept c.spend.new.self) (g.G.Regions.kept c.spend_all.new.g) c.args.l.y c.args.l.x.items (g.met.G.Regions.exact _) c.requires c.spend.ensures.spends c.spend_all.ensures.spends
