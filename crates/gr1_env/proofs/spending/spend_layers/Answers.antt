use Rattle.std.proofs.Common.{◌≡◌, [], ◌∙◌, ap, subst}
use Rattle.gr1_env.specs.Held.{layer_regions, all_regions}
use Rattle.gr1_sys.proofs.Holdings.{same_then}
use Rattle.gr1_sys.proofs.Popped.{IsLeft, last_together, last_spent, all_spent, none_left}
use Rattle.gr1_env.proofs.Gathered.{gather-push}
use Rattle.gr1_env.proofs.spending.spend_layers.Goals as goal

pub spend_layer-requires : goal.spend_layer-requires
spend_layer-requires g c =
    let kept = g.G.Regions.kept in
    let is_left = subst (IsLeft (kept c.args.g.now) (kept c.loop-l.g) (all_regions c.args.layers.items)) (ap all_regions c.in-Some.ensures.items ∙ gather-push _ c.pop.new.self.items c.in-Some.l) c.loop-l.invariant.left in
    last_together (kept c.args.g.now) (kept c.loop-l.g) (all_regions c.args.layers.items) (all_regions c.pop.new.self.items) (layer_regions c.in-Some.l) (g.met.G.Regions.exact _) c.requires is_left

pub loop-l-preserved : goal.loop-l-preserved
loop-l-preserved g c =
    let kept = g.G.Regions.kept in
    let is_left = subst (IsLeft (kept c.args.g.now) (kept c.loop-l.g) (all_regions c.args.layers.items)) (ap all_regions c.in-Some.ensures.items ∙ gather-push _ c.pop.new.self.items c.in-Some.l) c.loop-l.invariant.left in
    record {
      left = last_spent (kept c.args.g.now) (kept c.loop-l.g) (kept c.spend_layer.new.g) (all_regions c.args.layers.items) (all_regions c.pop.new.self.items) (layer_regions c.in-Some.l) (g.met.G.Regions.exact _) c.requires is_left c.spend_layer.ensures.spends;
      jam = c.spend_layer.ensures.spends.jam ∙ c.loop-l.invariant.jam;
      same = same_then (kept c.args.g.now) (kept c.loop-l.g) (kept c.spend_layer.new.g) c.loop-l.invariant.same c.spend_layer.ensures.keeps;
    }

pub returns-clause-spends : goal.returns-clause-spends
returns-clause-spends g c =
    let kept = g.G.Regions.kept in
    let nothing : c.loop-l.layers.items ≡ [] = none_left c.loop-l.layers c.in_default.ensures.cases.0 in
    all_spent (kept c.args.g.now) (kept c.loop-l.g) (all_regions c.args.layers.items) (subst (λ left. IsLeft (kept c.args.g.now) (kept c.loop-l.g) (all_regions c.args.layers.items) (all_regions left)) nothing c.loop-l.invariant.left) c.loop-l.invariant.jam
