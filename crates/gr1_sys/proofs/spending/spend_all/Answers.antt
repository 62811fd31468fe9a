use Rattle.std.proofs.Common.{◌≡◌, [], ◌∷◌, ◌∙◌, subst}
use Rattle.gr1_sys.proofs.Holdings.{same_then}
use Rattle.gr1_sys.proofs.Popped.{IsLeft, last_together, last_spent, all_spent, one_together, one_spent, none_left}
use Rattle.gr1_sys.proofs.spending.spend_all.Goals as goal

pub spend-requires : goal.spend-requires
spend-requires g c =
    let kept = g.G.Regions.kept in
    let is_left = subst (IsLeft (kept c.args.g.now) (kept c.loop-r.g) c.args.rs.items) c.in-Some.ensures.items c.loop-r.invariant.left in
    one_together (kept c.loop-r.g) c.in-Some.r (last_together (kept c.args.g.now) (kept c.loop-r.g) c.args.rs.items c.pop.new.self.items (c.in-Some.r ∷ []) (g.met.G.Regions.exact _) c.requires is_left)

pub loop-r-preserved : goal.loop-r-preserved
loop-r-preserved g c =
    let kept = g.G.Regions.kept in
    let is_left = subst (IsLeft (kept c.args.g.now) (kept c.loop-r.g) c.args.rs.items) c.in-Some.ensures.items c.loop-r.invariant.left in
    record {
      left = last_spent (kept c.args.g.now) (kept c.loop-r.g) (kept c.spend.new.self) c.args.rs.items c.pop.new.self.items (c.in-Some.r ∷ []) (g.met.G.Regions.exact _) c.requires is_left (one_spent _ _ c.in-Some.r c.spend.ensures.spends);
      jam = c.spend.ensures.spends.jam ∙ c.loop-r.invariant.jam;
      same = same_then (kept c.args.g.now) (kept c.loop-r.g) (kept c.spend.new.self) c.loop-r.invariant.same c.spend.ensures.keeps;
    }

pub returns-clause-spends : goal.returns-clause-spends
returns-clause-spends g c =
    let kept = g.G.Regions.kept in
    let nothing : c.loop-r.rs.items ≡ [] = none_left c.loop-r.rs c.in_default.ensures.cases.0 in
    all_spent (kept c.args.g.now) (kept c.loop-r.g) c.args.rs.items (subst (λ left. IsLeft (kept c.args.g.now) (kept c.loop-r.g) c.args.rs.items left) nothing c.loop-r.invariant.left) c.loop-r.invariant.jam
