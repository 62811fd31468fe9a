use Rattle.std.proofs.Common.{◌++◌}
use Rattle.strategy_parts.specs.Owned.{move_items}
use Rattle.strategy_parts.proofs.Owning.{front_together, back_together, front_and_back}
use Rattle.counterstrategy.specs.Owned.{list_items}
use Rattle.counterstrategy.proofs.kit.spend_all_moves.Goals as goal

pub spend_moves-requires : goal.spend_moves-requires
spend_moves-requires g c = front_together (g.G.Regions.kept c.args.g.now) (move_items c.args.first.items) (move_items c.args.later.items ++ list_items c.args.delays.items) c.requires

pub spend_moves-requires-2 : goal.spend_moves-requires-2
spend_moves-requires-2 g c =
    let kept = g.G.Regions.kept in
    let others = move_items c.args.later.items ++ list_items c.args.delays.items in
    front_together (kept c.spend_moves.new.g) (move_items c.args.later.items) (list_items c.args.delays.items)
    (back_together (kept c.args.g.now) (kept c.spend_moves.new.g) (move_items c.args.first.items) others (g.met.G.Regions.exact _) c.requires c.spend_moves.ensures.spends)

pub spend_lists-requires : goal.spend_lists-requires
spend_lists-requires g c =
    let kept = g.G.Regions.kept in
    let others = move_items c.args.later.items ++ list_items c.args.delays.items in
    back_together (kept c.spend_moves.new.g) (kept c.spend_moves-2.new.g) (move_items c.args.later.items) (list_items c.args.delays.items) (g.met.G.Regions.exact _)
    (back_together (kept c.args.g.now) (kept c.spend_moves.new.g) (move_items c.args.first.items) others (g.met.G.Regions.exact _) c.requires c.spend_moves.ensures.spends)
    c.spend_moves-2.ensures.spends

pub returns-clause-spends : goal.returns-clause-spends
returns-clause-spends g c =
    let kept = g.G.Regions.kept in
    let others = move_items c.args.later.items ++ list_items c.args.delays.items in
    let back = back_together (kept c.args.g.now) (kept c.spend_moves.new.g) (move_items c.args.first.items) others (g.met.G.Regions.exact _) c.requires c.spend_moves.ensures.spends in
    front_and_back (kept c.args.g.now) (kept c.spend_moves.new.g) (kept c.spend_lists.new.g) (move_items c.args.first.items) others (g.met.G.Regions.exact _) c.requires c.spend_moves.ensures.spends
    (front_and_back (kept c.spend_moves.new.g) (kept c.spend_moves-2.new.g) (kept c.spend_lists.new.g) (move_items c.args.later.items) (list_items c.args.delays.items) (g.met.G.Regions.exact _) back c.spend_moves-2.ensures.spends c.spend_lists.ensures.spends)
