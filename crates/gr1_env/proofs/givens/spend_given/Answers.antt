use Rattle.std.proofs.Common.{◌∷◌}
use Rattle.gr1_sys.proofs.Popped.{first_together, rest_together, first_and_rest}
use Rattle.gr1_sys.proofs.Givings.{front_together, back_together, front_and_back}
use Rattle.gr1_env.proofs.givens.spend_given.Goals as goal

pub spend_all-requires : goal.spend_all-requires
spend_all-requires g c = front_together (g.G.Regions.kept c.args.g.now) c.args.given.misses.items (c.args.given.none ∷ c.args.given.asms.items) c.requires

pub spend-requires : goal.spend-requires
spend-requires g c =
    let kept = g.G.Regions.kept in
    first_together (kept c.spend_all.new.g) c.args.given.none c.args.given.asms.items (back_together (kept c.args.g.now) (kept c.spend_all.new.g) c.args.given.misses.items (c.args.given.none ∷ c.args.given.asms.items) (g.met.G.Regions.exact _) c.requires c.spend_all.ensures.spends)

pub spend_all-requires-2 : goal.spend_all-requires-2
spend_all-requires-2 g c =
    let kept = g.G.Regions.kept in
    rest_together (kept c.spend_all.new.g) (kept c.spend.new.self) c.args.given.none c.args.given.asms.items (g.met.G.Regions.exact _)
    (back_together (kept c.args.g.now) (kept c.spend_all.new.g) c.args.given.misses.items (c.args.given.none ∷ c.args.given.asms.items) (g.met.G.Regions.exact _) c.requires c.spend_all.ensures.spends) c.spend.ensures.spends

pub returns-clause-spends : goal.returns-clause-spends
returns-clause-spends g c =
    let kept = g.G.Regions.kept in
    let back = back_together (kept c.args.g.now) (kept c.spend_all.new.g) c.args.given.misses.items (c.args.given.none ∷ c.args.given.asms.items) (g.met.G.Regions.exact _) c.requires c.spend_all.ensures.spends in
    front_and_back (kept c.args.g.now) (kept c.spend_all.new.g) (kept c.spend_all-2.new.g) c.args.given.misses.items (c.args.given.none ∷ c.args.given.asms.items) (g.met.G.Regions.exact _) c.requires c.spend_all.ensures.spends
    (first_and_rest (kept c.spend_all.new.g) (kept c.spend.new.self) (kept c.spend_all-2.new.g) c.args.given.none c.args.given.asms.items (g.met.G.Regions.exact _) back c.spend.ensures.spends c.spend_all-2.ensures.spends)
