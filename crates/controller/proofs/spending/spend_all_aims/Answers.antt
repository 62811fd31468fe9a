use Rattle.std.proofs.Common.{◌≡◌, List, [], ◌∙◌, ap, subst}
use Rattle.controller.specs.Owned.{aims_items, all_aims_items}
use Rattle.strategy_parts.proofs.Holdings.{same_then}
use Rattle.strategy_parts.proofs.Owning.{IsLeft, last_together, last_spent, all_spent, none_left}
use Rattle.controller.proofs.Owning.{all_aims_items-push}
use Rattle.controller.proofs.spending.spend_all_aims.Goals as goal

pub spend_aims-requires : goal.spend_aims-requires
spend_aims-requires g c =
    let kept = g.G.Regions.kept in
    let is_left = subst (IsLeft (kept c.args.g.now) (kept c.loop-aims.g) (all_aims_items c.args.goals.items)) (ap all_aims_items c.in-Some.ensures.items ∙ all_aims_items-push c.pop.new.self.items c.in-Some.aims) c.loop-aims.invariant.left in
    last_together (kept c.args.g.now) (kept c.loop-aims.g) (all_aims_items c.args.goals.items) (all_aims_items c.pop.new.self.items) (aims_items c.in-Some.aims.items) (g.met.G.Regions.exact _) c.requires is_left

pub loop-aims-preserved : goal.loop-aims-preserved
loop-aims-preserved g c =
    let kept = g.G.Regions.kept in
    let is_left = subst (IsLeft (kept c.args.g.now) (kept c.loop-aims.g) (all_aims_items c.args.goals.items)) (ap all_aims_items c.in-Some.ensures.items ∙ all_aims_items-push c.pop.new.self.items c.in-Some.aims) c.loop-aims.invariant.left in
    record {
      left = last_spent (kept c.args.g.now) (kept c.loop-aims.g) (kept c.spend_aims.new.g) (all_aims_items c.args.goals.items) (all_aims_items c.pop.new.self.items) (aims_items c.in-Some.aims.items) (g.met.G.Regions.exact _) c.requires is_left c.spend_aims.ensures.spends;
      jam = c.spend_aims.ensures.spends.jam ∙ c.loop-aims.invariant.jam;
      same = same_then (kept c.args.g.now) (kept c.loop-aims.g) (kept c.spend_aims.new.g) c.loop-aims.invariant.same c.spend_aims.ensures.keeps;
    }

pub returns-clause-spends : goal.returns-clause-spends
returns-clause-spends g c =
    let kept = g.G.Regions.kept in
    let nothing : c.loop-aims.goals.items ≡ [] = none_left c.loop-aims.goals c.in_default.ensures.cases.0 in
    all_spent (kept c.args.g.now) (kept c.loop-aims.g) (all_aims_items c.args.goals.items) (subst (λ (left : List _). IsLeft (kept c.args.g.now) (kept c.loop-aims.g) (all_aims_items c.args.goals.items) (all_aims_items left)) nothing c.loop-aims.invariant.left) c.loop-aims.invariant.jam
