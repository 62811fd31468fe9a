use Rattle.std.proofs.Common.{◌≡◌, List, [], ◌∷◌, ◌∙◌, ap, subst}
use Rattle.std.proofs.lemmas.List.{map-append}
use Rattle.regions.specs.Kept.{Region}
use Rattle.strategy_parts.specs.Owned.{region_items}
use Rattle.strategy_parts.proofs.Holdings.{same_then}
use Rattle.strategy_parts.proofs.Owning.{IsLeft, last_together, last_spent, all_spent, one_together, one_spent, none_left}
use Rattle.strategy_parts.proofs.spending.spend_regions.Goals as goal

pub spend-requires : goal.spend-requires
spend-requires g c =
    let kept = g.G.Regions.kept in
    let is_left = subst (IsLeft (kept c.args.g.now) (kept c.loop-r.g) (region_items c.args.rs.items)) (ap region_items c.in-Some.ensures.items ∙ map-append Region c.pop.new.self.items (c.in-Some.r ∷ [])) c.loop-r.invariant.left in
    one_together (kept c.loop-r.g) (Region c.in-Some.r) (last_together (kept c.args.g.now) (kept c.loop-r.g) (region_items c.args.rs.items) (region_items c.pop.new.self.items) (Region c.in-Some.r ∷ []) (g.met.G.Regions.exact _) c.requires is_left)

pub loop-r-preserved : goal.loop-r-preserved
loop-r-preserved g c =
    let kept = g.G.Regions.kept in
    let is_left = subst (IsLeft (kept c.args.g.now) (kept c.loop-r.g) (region_items c.args.rs.items)) (ap region_items c.in-Some.ensures.items ∙ map-append Region c.pop.new.self.items (c.in-Some.r ∷ [])) c.loop-r.invariant.left in
    record {
      left = last_spent (kept c.args.g.now) (kept c.loop-r.g) (kept c.spend.new.self) (region_items c.args.rs.items) (region_items c.pop.new.self.items) (Region c.in-Some.r ∷ []) (g.met.G.Regions.exact _) c.requires is_left (one_spent (kept c.loop-r.g) (kept c.spend.new.self) (Region c.in-Some.r) c.spend.ensures.spends);
      jam = c.spend.ensures.spends.jam ∙ c.loop-r.invariant.jam;
      same = same_then (kept c.args.g.now) (kept c.loop-r.g) (kept c.spend.new.self) c.loop-r.invariant.same c.spend.ensures.keeps;
    }

pub returns-clause-spends : goal.returns-clause-spends
returns-clause-spends g c =
    let kept = g.G.Regions.kept in
    let nothing : c.loop-r.rs.items ≡ [] = none_left c.loop-r.rs c.in_default.ensures.cases.0 in
    all_spent (kept c.args.g.now) (kept c.loop-r.g) (region_items c.args.rs.items) (subst (λ (left : List _). IsLeft (kept c.args.g.now) (kept c.loop-r.g) (region_items c.args.rs.items) (region_items left)) nothing c.loop-r.invariant.left) c.loop-r.invariant.jam
