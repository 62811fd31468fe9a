use Rattle.gr1_sys.specs.Told.{TellsHalt}
use Rattle.gr1_sys.proofs.Told.{handed_on}
use Rattle.gr1_sys.proofs.Counted.{meet_held, meet_gone}
use Rattle.gr1_sys.proofs.counting.added.Goals as goal

pub returns-in_err-common-clause-told : goal.returns-in_err-common-clause-told
returns-in_err-common-clause-told g c = λ z met_named last_named.
    let kept = g.G.Regions.kept in
    handed_on c.from_residual.result c.in_err-common.field-0.0 (TellsHalt (kept c.args.g.now) (kept c.meet_with.new.g) z) c.from_residual.ensures.1 (c.in_err-common.ensures.told z met_named last_named)

pub spend-requires : goal.spend-requires
spend-requires g c =
    let kept = g.G.Regions.kept in
    meet_held (kept c.args.g.now) (kept c.meet_with.new.g) c.args.met c.args.last c.in_ok-common.common c.requires.held c.in_ok-common.ensures.met

pub returns-in-None-clause-halted : goal.returns-in-None-clause-halted
returns-in-None-clause-halted g c =
    let kept = g.G.Regions.kept in
    meet_gone (kept c.args.g.now) (kept c.meet_with.new.g) (kept c.spend.new.self) c.args.met c.args.last c.in_ok-common.common (g.met.G.Regions.exact _) c.requires.held c.in_ok-common.ensures.met c.spend.ensures.spends
