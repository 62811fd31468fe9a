use Rattle.gr1_sys.proofs.Holdings.{takes}
use Rattle.gr1_sys.proofs.Told.{told, still_told}
use Rattle.regions.specs.Kept.{StartSys, States}
use Rattle.std.proofs.Common.{[], ◌∷◌, refl}
use Rattle.gr1_sys.specs.Moment.{iterated, this_value}
use Rattle.regions.proofs.Holding.{spends_later}
use Rattle.gr1_sys.proofs.counting.decide.Goals as goal

pub returns-in-Ok-true-clause-spends : goal.returns-in-Ok-true-clause-spends
returns-in-Ok-true-clause-spends g c =
    let kept = g.G.Regions.kept in
    spends_later (kept c.args.g.now) (kept c.start_sys.new.self) (kept c.spend.new.self) c.args.z (g.met.G.Regions.exact _) c.requires.z c.in-Ok-true.ensures.held c.spend.ensures.spends

pub returns-in-Ok-false-clause-spends : goal.returns-in-Ok-false-clause-spends
returns-in-Ok-false-clause-spends g c =
    let kept = g.G.Regions.kept in
    spends_later (kept c.args.g.now) (kept c.start_sys.new.self) (kept c.spend-in-Ok-false.new.self) c.args.z (g.met.G.Regions.exact _) c.requires.z c.in-Ok-false.ensures.held c.spend-in-Ok-false.ensures.spends

pub returns-in-Err-clause-halted : goal.returns-in-Err-clause-halted
returns-in-Err-clause-halted g c =
    let kept = g.G.Regions.kept in
    takes (kept c.args.g.now) (kept c.start_sys.new.self) (kept c.spend-in-Err.new.self) c.args.z (g.met.G.Regions.exact _) c.requires.z c.in-Err.ensures.halted.held c.spend-in-Err.ensures.spends

pub returns-in-Err-clause-told : goal.returns-in-Err-clause-told
returns-in-Err-clause-told g c =
    let kept = g.G.Regions.kept in
    let k = kept c.args.g.now in
    let z = k.set c.args.z in
    still_told k (kept c.start_sys.new.self) (kept c.spend-in-Err.new.self) z c.in-Err.halt c.spend-in-Err.ensures.spends.jam
    (told k (kept c.start_sys.new.self) z StartSys (States z ∷ []) c.in-Err.halt c.in-Err.ensures.halted.jam (iterated (this_value refl), tt) refl)
