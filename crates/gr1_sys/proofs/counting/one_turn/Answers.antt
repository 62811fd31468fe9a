use Rattle.gr1_sys.proofs.Holdings.{takes}
use Rattle.gr1_sys.proofs.Told.{still_told}
use Rattle.gr1_sys.proofs.Counted.{turns_into}
use Rattle.gr1_sys.proofs.counting.one_turn.Goals as goal

pub returns-in-Ok-clause-turned : goal.returns-in-Ok-clause-turned
returns-in-Ok-clause-turned g c =
    let kept = g.G.Regions.kept in
    turns_into (kept c.args.g.now) (kept c.following_alone.new.g) (kept c.spend.new.self) c.args.z c.in-Ok.next c.in-Ok.k c.same-settled.result (g.met.G.Regions.exact _) c.requires.z c.in-Ok.ensures.made c.same-settled.ensures c.spend.ensures.spends

pub returns-in-Err-clause-halted : goal.returns-in-Err-clause-halted
returns-in-Err-clause-halted g c =
    let kept = g.G.Regions.kept in
    takes (kept c.args.g.now) (kept c.following_alone.new.g) (kept c.spend-in-Err.new.self) c.args.z (g.met.G.Regions.exact _) c.requires.z c.in-Err.ensures.halted c.spend-in-Err.ensures.spends

pub returns-in-Err-clause-told : goal.returns-in-Err-clause-told
returns-in-Err-clause-told g c =
    let kept = g.G.Regions.kept in
    let k = kept c.args.g.now in
    still_told k (kept c.following_alone.new.g) (kept c.spend-in-Err.new.self) (k.set c.args.z) c.in-Err.halt c.spend-in-Err.ensures.spends.jam c.in-Err.ensures.told
