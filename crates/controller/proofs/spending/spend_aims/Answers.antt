use Rattle.std.proofs.Common.{◌≡◌, List, [], ◌∙◌, ap, subst}
use Rattle.controller.specs.Owned.{aim_items, aims_items}
use Rattle.strategy_parts.proofs.Holdings.{same_then}
use Rattle.strategy_parts.proofs.Owning.{IsLeft, last_together, last_spent, all_spent, none_left}
use Rattle.controller.proofs.Owning.{aims_items-push}
use Rattle.controller.proofs.spending.spend_aims.Goals as goal

pub spend_aim-requires : goal.spend_aim-requires
spend_aim-requires g c =
    let kept = g.G.Regions.kept in
    let is_left = subst (IsLeft (kept c.args.g.now) (kept c.loop-a.g) (aims_items c.args.aims.items)) (ap aims_items c.in-Some.ensures.items ∙ aims_items-push c.pop.new.self.items c.in-Some.a) c.loop-a.invariant.left in
    last_together (kept c.args.g.now) (kept c.loop-a.g) (aims_items c.args.aims.items) (aims_items c.pop.new.self.items) (aim_items c.in-Some.a) (g.met.G.Regions.exact _) c.requires is_left

pub loop-a-preserved : goal.loop-a-preserved
loop-a-preserved g c =
    let kept = g.G.Regions.kept in
    let is_left = subst (IsLeft (kept c.args.g.now) (kept c.loop-a.g) (aims_items c.args.aims.items)) (ap aims_items c.in-Some.ensures.items ∙ aims_items-push c.pop.new.self.items c.in-Some.a) c.loop-a.invariant.left in
    record {
      left = last_spent (kept c.args.g.now) (kept c.loop-a.g) (kept c.spend_aim.new.g) (aims_items c.args.aims.items) (aims_items c.pop.new.self.items) (aim_items c.in-Some.a) (g.met.G.Regions.exact _) c.requires is_left c.spend_aim.ensures.spends;
      jam = c.spend_aim.ensures.spends.jam ∙ c.loop-a.invariant.jam;
      same = same_then (kept c.args.g.now) (kept c.loop-a.g) (kept c.spend_aim.new.g) c.loop-a.invariant.same c.spend_aim.ensures.keeps;
    }

pub returns-clause-spends : goal.returns-clause-spends
returns-clause-spends g c =
    let kept = g.G.Regions.kept in
    let nothing : c.loop-a.aims.items ≡ [] = none_left c.loop-a.aims c.in_default.ensures.cases.0 in
    all_spent (kept c.args.g.now) (kept c.loop-a.g) (aims_items c.args.aims.items) (subst (λ (left : List _). IsLeft (kept c.args.g.now) (kept c.loop-a.g) (aims_items c.args.aims.items) (aims_items left)) nothing c.loop-a.invariant.left) c.loop-a.invariant.jam
