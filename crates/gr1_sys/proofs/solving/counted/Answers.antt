use Rattle.std.proofs.Common.{◌∙◌, refl}
use Rattle.gr1_sys.specs.Held.{all_regions}
use Rattle.gr1_sys.proofs.Popped.{first_together, rest_together, first_and_rest}
use Rattle.gr1_sys.proofs.solving.counted.Goals as goal

pub spend-requires : goal.spend-requires
spend-requires g c = first_together (g.G.Regions.kept c.args.g.now) c.args.z (all_regions c.args.goals.items) c.requires.held

pub spend_goals-requires : goal.spend_goals-requires
spend_goals-requires g c =
    let kept = g.G.Regions.kept in
    rest_together (kept c.args.g.now) (kept c.spend.new.self) c.args.z (all_regions c.args.goals.items) (g.met.G.Regions.exact _) c.requires.held c.spend.ensures.spends

pub returns-else-fits-clause-halted : goal.returns-else-fits-clause-halted
returns-else-fits-clause-halted g c =
    let kept = g.G.Regions.kept in
    (first_and_rest (kept c.args.g.now) (kept c.spend.new.self) (kept c.spend_goals.new.g) c.args.z (all_regions c.args.goals.items) (g.met.G.Regions.exact _) c.requires.held c.spend.ensures.spends c.spend_goals.ensures.spends).held

pub returns-else-fits-clause-told : goal.returns-else-fits-clause-told
returns-else-fits-clause-told g c = (refl, c.spend_goals.ensures.spends.jam ∙ c.spend.ensures.spends.jam)
