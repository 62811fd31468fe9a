use Rattle.std.proofs.Common.{◌≡◌, [], ◌∙◌, ap, subst}
use Rattle.gr1_env.specs.Held.{hold_regions, goal_regions}
use Rattle.gr1_sys.proofs.Holdings.{same_then}
use Rattle.gr1_sys.proofs.Popped.{IsLeft, last_together, last_spent, all_spent, none_left}
use Rattle.gr1_env.proofs.Gathered.{gather-push}
use Rattle.gr1_env.proofs.spending.spend_holds.Goals as goal

pub spend_hold-requires : goal.spend_hold-requires
spend_hold-requires g c =
    let kept = g.G.Regions.kept in
    let is_left = subst (IsLeft (kept c.args.g.now) (kept c.loop-e.g) (goal_regions c.args.goals.items)) (ap goal_regions c.in-Some.ensures.items ∙ gather-push _ c.pop.new.self.items c.in-Some.e) c.loop-e.invariant.left in
    last_together (kept c.args.g.now) (kept c.loop-e.g) (goal_regions c.args.goals.items) (goal_regions c.pop.new.self.items) (hold_regions c.in-Some.e) (g.met.G.Regions.exact _) c.requires is_left

pub loop-e-preserved : goal.loop-e-preserved
loop-e-preserved g c =
    let kept = g.G.Regions.kept in
    let is_left = subst (IsLeft (kept c.args.g.now) (kept c.loop-e.g) (goal_regions c.args.goals.items)) (ap goal_regions c.in-Some.ensures.items ∙ gather-push _ c.pop.new.self.items c.in-Some.e) c.loop-e.invariant.left in
    record {
      left = last_spent (kept c.args.g.now) (kept c.loop-e.g) (kept c.spend_hold.new.g) (goal_regions c.args.goals.items) (goal_regions c.pop.new.self.items) (hold_regions c.in-Some.e) (g.met.G.Regions.exact _) c.requires is_left c.spend_hold.ensures.spends;
      jam = c.spend_hold.ensures.spends.jam ∙ c.loop-e.invariant.jam;
      same = same_then (kept c.args.g.now) (kept c.loop-e.g) (kept c.spend_hold.new.g) c.loop-e.invariant.same c.spend_hold.ensures.keeps;
    }

pub returns-clause-spends : goal.returns-clause-spends
returns-clause-spends g c =
    let kept = g.G.Regions.kept in
    let nothing : c.loop-e.goals.items ≡ [] = none_left c.loop-e.goals c.in_default.ensures.cases.0 in
    all_spent (kept c.args.g.now) (kept c.loop-e.g) (goal_regions c.args.goals.items) (subst (λ left. IsLeft (kept c.args.g.now) (kept c.loop-e.g) (goal_regions c.args.goals.items) (goal_regions left)) nothing c.loop-e.invariant.left) c.loop-e.invariant.jam
