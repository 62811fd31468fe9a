use Rattle.strategy_parts.proofs.Holdings.{same_then}
use Rattle.strategy_parts.proofs.Owning.{front_together, back_together, front_and_back, regions_together, regions_spent}
use Rattle.gr1_env.specs.Held.{all_regions}
use Rattle.counterstrategy.specs.Owned.{layer_items, kit_items}
use Rattle.counterstrategy.proofs.counterstrategy.Counterstrategy.close.Goals as goal

pub spend_kit-requires : goal.spend_kit-requires
spend_kit-requires g c =
    let kept = g.G.Regions.kept in
    let self = c.args.self in
    back_together (kept self.g) (kept c.spend_all.new.g) (layer_items self.layers.items) (kit_items self.kit) (g.met.G.Regions.exact _) c.requires.5.owned
    (regions_spent (kept self.g) (kept c.spend_all.new.g) (all_regions self.layers.items) c.spend_all.ensures.spends)

pub spend_all-requires : goal.spend_all-requires
spend_all-requires g c =
    let kept = g.G.Regions.kept in
    let self = c.args.self in
    regions_together (kept self.g) (all_regions self.layers.items) (front_together (kept self.g) (layer_items self.layers.items) (kit_items self.kit) c.requires.5.owned)

pub returns : goal.returns
returns g c =
    let kept = g.G.Regions.kept in
    let self = c.args.self in
    record {
      spent = front_and_back (kept self.g) (kept c.spend_all.new.g) (kept c.spend_kit.new.g) (layer_items self.layers.items) (kit_items self.kit) (g.met.G.Regions.exact _) c.requires.5.owned
          (regions_spent (kept self.g) (kept c.spend_all.new.g) (all_regions self.layers.items) c.spend_all.ensures.spends) c.spend_kit.ensures.spends;
      game = same_then (kept self.g) (kept c.spend_all.new.g) (kept c.spend_kit.new.g) c.spend_all.ensures.keeps c.spend_kit.ensures.keeps;
    }
