use Rattle.std.proofs.Common.{◌≡◌, List, [], ◌∷◌, ◌∙◌, ap, subst}
use Rattle.std.proofs.lemmas.List.{map-append}
use Rattle.regions.specs.Kept.{Move}
use Rattle.strategy_parts.specs.Owned.{move_items}
use Rattle.strategy_parts.proofs.Holdings.{same_then}
use Rattle.strategy_parts.proofs.Owning.{IsLeft, last_together, last_spent, all_spent, one_together, one_spent, none_left}
use Rattle.strategy_parts.proofs.spending.spend_moves.Goals as goal

pub spend_move-requires : goal.spend_move-requires
spend_move-requires g c =
    let kept = g.G.Regions.kept in
    let is_left = subst (IsLeft (kept c.args.g.now) (kept c.loop-m.g) (move_items c.args.moves.items)) (ap move_items c.in-Some.ensures.items ∙ map-append Move c.pop.new.self.items (c.in-Some.m ∷ [])) c.loop-m.invariant.left in
    one_together (kept c.loop-m.g) (Move c.in-Some.m) (last_together (kept c.args.g.now) (kept c.loop-m.g) (move_items c.args.moves.items) (move_items c.pop.new.self.items) (Move c.in-Some.m ∷ []) (g.met.G.Regions.exact _) c.requires is_left)

pub loop-m-preserved : goal.loop-m-preserved
loop-m-preserved g c =
    let kept = g.G.Regions.kept in
    let is_left = subst (IsLeft (kept c.args.g.now) (kept c.loop-m.g) (move_items c.args.moves.items)) (ap move_items c.in-Some.ensures.items ∙ map-append Move c.pop.new.self.items (c.in-Some.m ∷ [])) c.loop-m.invariant.left in
    record {
      left = last_spent (kept c.args.g.now) (kept c.loop-m.g) (kept c.spend_move.new.self) (move_items c.args.moves.items) (move_items c.pop.new.self.items) (Move c.in-Some.m ∷ []) (g.met.G.Regions.exact _) c.requires is_left (one_spent (kept c.loop-m.g) (kept c.spend_move.new.self) (Move c.in-Some.m) c.spend_move.ensures.spends);
      jam = c.spend_move.ensures.spends.jam ∙ c.loop-m.invariant.jam;
      same = same_then (kept c.args.g.now) (kept c.loop-m.g) (kept c.spend_move.new.self) c.loop-m.invariant.same c.spend_move.ensures.keeps;
    }

pub returns-clause-spends : goal.returns-clause-spends
returns-clause-spends g c =
    let kept = g.G.Regions.kept in
    let nothing : c.loop-m.moves.items ≡ [] = none_left c.loop-m.moves c.in_default.ensures.cases.0 in
    all_spent (kept c.args.g.now) (kept c.loop-m.g) (move_items c.args.moves.items) (subst (λ (left : List _). IsLeft (kept c.args.g.now) (kept c.loop-m.g) (move_items c.args.moves.items) (move_items left)) nothing c.loop-m.invariant.left) c.loop-m.invariant.jam
