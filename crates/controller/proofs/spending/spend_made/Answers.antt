use Rattle.std.proofs.Common.{◌++◌}
use Rattle.strategy_parts.specs.Owned.{region_items}
use Rattle.controller.specs.Owned.{aims_items, all_aims_items}
use Rattle.strategy_parts.proofs.Owning.{front_together, back_together, front_and_back}
use Rattle.controller.proofs.spending.spend_made.Goals as goal

pub spend_regions-requires : goal.spend_regions-requires
spend_regions-requires g c = front_together (g.G.Regions.kept c.args.g.now) (region_items c.args.holds.items) (aims_items c.args.first.items ++ all_aims_items c.args.goals.items) c.requires

pub spend_aims-requires : goal.spend_aims-requires
spend_aims-requires g c =
    let kept = g.G.Regions.kept in
    let moves = aims_items c.args.first.items ++ all_aims_items c.args.goals.items in
    front_together (kept c.spend_regions.new.g) (aims_items c.args.first.items) (all_aims_items c.args.goals.items)
    (back_together (kept c.args.g.now) (kept c.spend_regions.new.g) (region_items c.args.holds.items) moves (g.met.G.Regions.exact _) c.requires c.spend_regions.ensures.spends)

pub spend_all_aims-requires : goal.spend_all_aims-requires
spend_all_aims-requires g c =
    let kept = g.G.Regions.kept in
    let moves = aims_items c.args.first.items ++ all_aims_items c.args.goals.items in
    back_together (kept c.spend_regions.new.g) (kept c.spend_aims.new.g) (aims_items c.args.first.items) (all_aims_items c.args.goals.items) (g.met.G.Regions.exact _)
    (back_together (kept c.args.g.now) (kept c.spend_regions.new.g) (region_items c.args.holds.items) moves (g.met.G.Regions.exact _) c.requires c.spend_regions.ensures.spends)
    c.spend_aims.ensures.spends

pub returns-clause-spends : goal.returns-clause-spends
returns-clause-spends g c =
    let kept = g.G.Regions.kept in
    let moves = aims_items c.args.first.items ++ all_aims_items c.args.goals.items in
    let back = back_together (kept c.args.g.now) (kept c.spend_regions.new.g) (region_items c.args.holds.items) moves (g.met.G.Regions.exact _) c.requires c.spend_regions.ensures.spends in
    front_and_back (kept c.args.g.now) (kept c.spend_regions.new.g) (kept c.spend_all_aims.new.g) (region_items c.args.holds.items) moves (g.met.G.Regions.exact _) c.requires c.spend_regions.ensures.spends
    (front_and_back (kept c.spend_regions.new.g) (kept c.spend_aims.new.g) (kept c.spend_all_aims.new.g) (aims_items c.args.first.items) (all_aims_items c.args.goals.items) (g.met.G.Regions.exact _) back c.spend_aims.ensures.spends c.spend_all_aims.ensures.spends)
