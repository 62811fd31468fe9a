use Rattle.regions.specs.Kept.{Move}
use Rattle.strategy_parts.specs.Owned.{move_items}
use Rattle.strategy_parts.proofs.Owning.{first_together, rest_together, first_and_rest}
use Rattle.controller.proofs.spending.spend_aim.Goals as goal

pub spend_move-requires : goal.spend_move-requires
spend_move-requires g c = first_together (g.G.Regions.kept c.args.g.now) (Move c.args.aim.layer) (move_items c.args.aim.parts.items) c.requires

pub spend_moves-requires : goal.spend_moves-requires
spend_moves-requires g c = rest_together (g.G.Regions.kept c.args.g.now) (g.G.Regions.kept c.spend_move.new.self) (Move c.args.aim.layer) (move_items c.args.aim.parts.items) (g.met.G.Regions.exact _) c.requires c.spend_move.ensures.spends

pub returns-clause-spends : goal.returns-clause-spends
returns-clause-spends g c = first_and_rest (g.G.Regions.kept c.args.g.now) (g.G.Regions.kept c.spend_move.new.self) (g.G.Regions.kept c.spend_moves.new.g) (Move c.args.aim.layer) (move_items c.args.aim.parts.items) (g.met.G.Regions.exact _) c.requires c.spend_move.ensures.spends c.spend_moves.ensures.spends
