use Rattle.std.proofs.Common.{◌++◌}
use Rattle.strategy_parts.specs.Owned.{region_items}
use Rattle.strategy_parts.proofs.Owning.{front_together, back_together, front_and_back}
use Rattle.counterstrategy.specs.Owned.{moves_in}
use Rattle.counterstrategy.proofs.kit.spend_kit.Goals as goal

pub spend_regions-requires : goal.spend_regions-requires
spend_regions-requires g c = front_together (g.G.Regions.kept c.args.g.now) (region_items c.args.kit.goals.items) (region_items c.args.kit.asms.items ++ moves_in c.args.kit) c.requires

pub spend_regions-requires-2 : goal.spend_regions-requires-2
spend_regions-requires-2 g c =
    let kept = g.G.Regions.kept in
    let others = region_items c.args.kit.asms.items ++ moves_in c.args.kit in
    front_together (kept c.spend_regions.new.g) (region_items c.args.kit.asms.items) (moves_in c.args.kit)
    (back_together (kept c.args.g.now) (kept c.spend_regions.new.g) (region_items c.args.kit.goals.items) others (g.met.G.Regions.exact _) c.requires c.spend_regions.ensures.spends)

pub spend_all_moves-requires : goal.spend_all_moves-requires
spend_all_moves-requires g c =
    let kept = g.G.Regions.kept in
    let others = region_items c.args.kit.asms.items ++ moves_in c.args.kit in
    back_together (kept c.spend_regions.new.g) (kept c.spend_regions-2.new.g) (region_items c.args.kit.asms.items) (moves_in c.args.kit) (g.met.G.Regions.exact _)
    (back_together (kept c.args.g.now) (kept c.spend_regions.new.g) (region_items c.args.kit.goals.items) others (g.met.G.Regions.exact _) c.requires c.spend_regions.ensures.spends)
    c.spend_regions-2.ensures.spends

pub returns-clause-spends : goal.returns-clause-spends
returns-clause-spends g c =
    let kept = g.G.Regions.kept in
    let others = region_items c.args.kit.asms.items ++ moves_in c.args.kit in
    let back = back_together (kept c.args.g.now) (kept c.spend_regions.new.g) (region_items c.args.kit.goals.items) others (g.met.G.Regions.exact _) c.requires c.spend_regions.ensures.spends in
    front_and_back (kept c.args.g.now) (kept c.spend_regions.new.g) (kept c.spend_all_moves.new.g) (region_items c.args.kit.goals.items) others (g.met.G.Regions.exact _) c.requires c.spend_regions.ensures.spends
    (front_and_back (kept c.spend_regions.new.g) (kept c.spend_regions-2.new.g) (kept c.spend_all_moves.new.g) (region_items c.args.kit.asms.items) (moves_in c.args.kit) (g.met.G.Regions.exact _) back c.spend_regions-2.ensures.spends c.spend_all_moves.ensures.spends)
