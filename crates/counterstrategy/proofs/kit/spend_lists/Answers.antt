use Rattle.std.proofs.Common.{◌≡◌, List, [], ◌∙◌, ap, subst}
use Rattle.strategy_parts.specs.Owned.{move_items}
use Rattle.counterstrategy.specs.Owned.{list_items}
use Rattle.strategy_parts.proofs.Holdings.{same_then}
use Rattle.strategy_parts.proofs.Owning.{IsLeft, last_together, last_spent, all_spent, none_left}
use Rattle.counterstrategy.proofs.Adding.{list_items-push}
use Rattle.counterstrategy.proofs.kit.spend_lists.Goals as goal

pub spend_moves-requires : goal.spend_moves-requires
spend_moves-requires g c =
    let kept = g.G.Regions.kept in
    let is_left = subst (IsLeft (kept c.args.g.now) (kept c.loop-moves.g) (list_items c.args.lists.items)) (ap list_items c.in-Some.ensures.items ∙ list_items-push c.pop.new.self.items c.in-Some.moves) c.loop-moves.invariant.left in
    last_together (kept c.args.g.now) (kept c.loop-moves.g) (list_items c.args.lists.items) (list_items c.pop.new.self.items) (move_items c.in-Some.moves.items) (g.met.G.Regions.exact _) c.requires is_left

pub loop-moves-preserved : goal.loop-moves-preserved
loop-moves-preserved g c =
    let kept = g.G.Regions.kept in
    let is_left = subst (IsLeft (kept c.args.g.now) (kept c.loop-moves.g) (list_items c.args.lists.items)) (ap list_items c.in-Some.ensures.items ∙ list_items-push c.pop.new.self.items c.in-Some.moves) c.loop-moves.invariant.left in
    record {
      left = last_spent (kept c.args.g.now) (kept c.loop-moves.g) (kept c.spend_moves.new.g) (list_items c.args.lists.items) (list_items c.pop.new.self.items) (move_items c.in-Some.moves.items) (g.met.G.Regions.exact _) c.requires is_left c.spend_moves.ensures.spends;
      jam = c.spend_moves.ensures.spends.jam ∙ c.loop-moves.invariant.jam;
      same = same_then (kept c.args.g.now) (kept c.loop-moves.g) (kept c.spend_moves.new.g) c.loop-moves.invariant.same c.spend_moves.ensures.keeps;
    }

pub returns-clause-spends : goal.returns-clause-spends
returns-clause-spends g c =
    let kept = g.G.Regions.kept in
    let nothing : c.loop-moves.lists.items ≡ [] = none_left c.loop-moves.lists c.in_default.ensures.cases.0 in
    all_spent (kept c.args.g.now) (kept c.loop-moves.g) (list_items c.args.lists.items) (subst (λ (left : List _). IsLeft (kept c.args.g.now) (kept c.loop-moves.g) (list_items c.args.lists.items) (list_items left)) nothing c.loop-moves.invariant.left) c.loop-moves.invariant.jam
