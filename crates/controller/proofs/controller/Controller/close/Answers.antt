use Rattle.std.proofs.Common.{◌∷◌}
use Rattle.gr1_sys.specs.Held.{all_regions}
use Rattle.controller.specs.Owned.{layer_items, made_items}
use Rattle.strategy_parts.proofs.Holdings.{same_then}
use Rattle.strategy_parts.proofs.Owning.{front_together, back_together, front_and_back, regions_together, regions_spent}
use Rattle.controller.proofs.controller.Controller.close.Goals as goal

pub spend_made-requires : goal.spend_made-requires
spend_made-requires g c =
    let kept = g.G.Regions.kept in
    let self = c.args.self in
    back_together (kept self.g) (kept c.spend_all.new.g) (layer_items self.z self.layers.items) (made_items self.first.items self.goals.items self.holds.items) (g.met.G.Regions.exact _) c.requires.5.owned
    (regions_spent (kept self.g) (kept c.spend_all.new.g) (self.z ∷ all_regions self.layers.items) c.spend_all.ensures.spends)

pub spend_all-requires : goal.spend_all-requires
spend_all-requires g c =
    let kept = g.G.Regions.kept in
    let self = c.args.self in
    regions_together (kept self.g) (self.z ∷ all_regions self.layers.items)
    (front_together (kept self.g) (layer_items self.z self.layers.items) (made_items self.first.items self.goals.items self.holds.items) c.requires.5.owned)

pub returns : goal.returns
returns g c =
    let kept = g.G.Regions.kept in
    let self = c.args.self in
    record {
      spent = front_and_back (kept self.g) (kept c.spend_all.new.g) (kept c.spend_made.new.g) (layer_items self.z self.layers.items) (made_items self.first.items self.goals.items self.holds.items) (g.met.G.Regions.exact _) c.requires.5.owned
          (regions_spent (kept self.g) (kept c.spend_all.new.g) (self.z ∷ all_regions self.layers.items) c.spend_all.ensures.spends) c.spend_made.ensures.spends;
      game = same_then (kept self.g) (kept c.spend_all.new.g) (kept c.spend_made.new.g) c.spend_all.ensures.keeps c.spend_made.ensures.keeps;
    }
