use Rattle.gr1_env.specs.Held.{goal_regions}
use Rattle.gr1_sys.proofs.Popped.{first_together, rest_together, first_and_rest}
use Rattle.gr1_env.proofs.spending.spend_layer.Goals as goal

pub spend-requires : goal.spend-requires
spend-requires g c = first_together (g.G.Regions.kept c.args.g.now) _ _ c.requires

pub spend_holds-requires : goal.spend_holds-requires
spend_holds-requires g c = rest_together (g.G.Regions.kept c.args.g.now) (g.G.Regions.kept c.spend.new.self) c.args.l.z (goal_regions c.args.l.goals.items) (g.met.G.Regions.exact _) c.requires c.spend.ensures.spends

pub returns-clause-spends : goal.returns-clause-spends
returns-clause-spends g c = first_and_rest (g.G.Regions.kept c.args.g.now) (g.G.Regions.kept c.spend.new.self) (g.G.Regions.kept c.spend_holds.new.g) c.args.l.z (goal_regions c.args.l.goals.items) (g.met.G.Regions.exact _) c.requires c.spend.ensures.spends c.spend_holds.ensures.spends
