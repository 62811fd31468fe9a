use Rattle.std.proofs.Common.{◌≡◌, [], ◌∙◌, ap, subst}
use Rattle.gr1_env.specs.Held.{list_regions}
use Rattle.gr1_sys.proofs.Holdings.{same_then}
use Rattle.gr1_sys.proofs.Popped.{IsLeft, last_together, last_spent, all_spent, none_left}
use Rattle.gr1_env.proofs.Gathered.{gather-push}
use Rattle.gr1_env.proofs.spending.spend_lists.Goals as goal

pub spend_all-requires : goal.spend_all-requires
spend_all-requires g c =
    let kept = g.G.Regions.kept in
    let is_left = subst (IsLeft (kept c.args.g.now) (kept c.loop-rs.g) (list_regions c.args.xs.items)) (ap list_regions c.in-Some.ensures.items ∙ gather-push _ c.pop.new.self.items c.in-Some.rs) c.loop-rs.invariant.left in
    last_together (kept c.args.g.now) (kept c.loop-rs.g) (list_regions c.args.xs.items) (list_regions c.pop.new.self.items) (c.in-Some.rs.items) (g.met.G.Regions.exact _) c.requires is_left

pub loop-rs-preserved : goal.loop-rs-preserved
loop-rs-preserved g c =
    let kept = g.G.Regions.kept in
    let is_left = subst (IsLeft (kept c.args.g.now) (kept c.loop-rs.g) (list_regions c.args.xs.items)) (ap list_regions c.in-Some.ensures.items ∙ gather-push _ c.pop.new.self.items c.in-Some.rs) c.loop-rs.invariant.left in
    record {
      left = last_spent (kept c.args.g.now) (kept c.loop-rs.g) (kept c.spend_all.new.g) (list_regions c.args.xs.items) (list_regions c.pop.new.self.items) (c.in-Some.rs.items) (g.met.G.Regions.exact _) c.requires is_left c.spend_all.ensures.spends;
      jam = c.spend_all.ensures.spends.jam ∙ c.loop-rs.invariant.jam;
      same = same_then (kept c.args.g.now) (kept c.loop-rs.g) (kept c.spend_all.new.g) c.loop-rs.invariant.same c.spend_all.ensures.keeps;
    }

pub returns-clause-spends : goal.returns-clause-spends
returns-clause-spends g c =
    let kept = g.G.Regions.kept in
    let nothing : c.loop-rs.xs.items ≡ [] = none_left c.loop-rs.xs c.in_default.ensures.cases.0 in
    all_spent (kept c.args.g.now) (kept c.loop-rs.g) (list_regions c.args.xs.items) (subst (λ left. IsLeft (kept c.args.g.now) (kept c.loop-rs.g) (list_regions c.args.xs.items) (list_regions left)) nothing c.loop-rs.invariant.left) c.loop-rs.invariant.jam
