use Rattle.std.proofs.Common.{◌≡◌, [], ◌∙◌, ap, subst}
use Rattle.gr1_sys.specs.Held.{goal_regions, all_regions}
use Rattle.gr1_sys.proofs.Holdings.{same_then}
use Rattle.gr1_sys.proofs.Popped.{IsLeft, last_together, last_spent, all_spent, none_left, all_regions-push}
use Rattle.gr1_sys.proofs.spending.spend_goals.Goals as goal

pub spend_layers-requires : goal.spend_layers-requires
spend_layers-requires g c =
    let kept = g.G.Regions.kept in
    let is_left = subst (IsLeft (kept c.args.g.now) (kept c.loop-ls.g) (all_regions c.args.goals.items)) (ap all_regions c.in-Some.ensures.items ∙ all_regions-push c.pop.new.self.items c.in-Some.ls) c.loop-ls.invariant.left in
    last_together (kept c.args.g.now) (kept c.loop-ls.g) (all_regions c.args.goals.items) (all_regions c.pop.new.self.items) (goal_regions c.in-Some.ls.items) (g.met.G.Regions.exact _) c.requires is_left

pub loop-ls-preserved : goal.loop-ls-preserved
loop-ls-preserved g c =
    let kept = g.G.Regions.kept in
    let is_left = subst (IsLeft (kept c.args.g.now) (kept c.loop-ls.g) (all_regions c.args.goals.items)) (ap all_regions c.in-Some.ensures.items ∙ all_regions-push c.pop.new.self.items c.in-Some.ls) c.loop-ls.invariant.left in
    record {
      left = last_spent (kept c.args.g.now) (kept c.loop-ls.g) (kept c.spend_layers.new.g) (all_regions c.args.goals.items) (all_regions c.pop.new.self.items) (goal_regions c.in-Some.ls.items) (g.met.G.Regions.exact _) c.requires is_left c.spend_layers.ensures.spends;
      jam = c.spend_layers.ensures.spends.jam ∙ c.loop-ls.invariant.jam;
      same = same_then (kept c.args.g.now) (kept c.loop-ls.g) (kept c.spend_layers.new.g) c.loop-ls.invariant.same c.spend_layers.ensures.keeps;
    }

pub returns-clause-spends : goal.returns-clause-spends
returns-clause-spends g c =
    let kept = g.G.Regions.kept in
    let nothing : c.loop-ls.goals.items ≡ [] = none_left c.loop-ls.goals c.in_default.ensures.cases.0 in
    all_spent (kept c.args.g.now) (kept c.loop-ls.g) (all_regions c.args.goals.items) (subst (λ left. IsLeft (kept c.args.g.now) (kept c.loop-ls.g) (all_regions c.args.goals.items) (all_regions left)) nothing c.loop-ls.invariant.left) c.loop-ls.invariant.jam
