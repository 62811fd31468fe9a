use Rattle.std.proofs.lemmas.Result.{on_err_weaker}
use Rattle.gr1_sys.specs.Counted.{MeetsGoal}
use Rattle.gr1_sys.proofs.Holdings.{takes}
use Rattle.gr1_sys.proofs.Told.{still_told}
use Rattle.gr1_sys.proofs.Counted.{two_held, meets_goal, first_gone, meet_told, if_ok_both, if_err_given}
use Rattle.gr1_sys.proofs.counting.with_goal.Goals as goal

pub added-requires-clause-free : goal.added-requires-clause-free
added-requires-clause-free g c = let r = c.requires.are in (c.in-Ok.ensures.last r.0 r.1.0 r.1.1).made.jam

pub added-requires-clause-held : goal.added-requires-clause-held
added-requires-clause-held g c =
    let kept = g.G.Regions.kept in
    let r = c.requires.are in
    two_held (kept c.args.g.now) (kept c.last_of.new.g) c.args.met c.in-Ok.last _ (g.met.G.Regions.exact _) c.requires.met (c.in-Ok.ensures.last r.0 r.1.0 r.1.1).made

pub returns-in-Ok-clause-met : goal.returns-in-Ok-clause-met
returns-in-Ok-clause-met g c = λ z j are.
    let kept = g.G.Regions.kept in
    let k = kept c.args.g.now in
    let k1 = kept c.last_of.new.g in
    let k2 = kept c.added.new.g in
    if_ok_both c.added.result _ _ (λ p. MeetsGoal k k2 c.args.met p.0 z j c.args.so_far p.1)
    (λ p met counted. meets_goal k k1 k2 c.args.met c.in-Ok.last p.0 z j c.in-Ok.rank c.args.so_far p.1 (g.met.G.Regions.exact _) c.requires.met (c.in-Ok.ensures.last z j are) met counted) c.added.ensures.met c.added.ensures.counted

pub returns-in-Ok-clause-halted : goal.returns-in-Ok-clause-halted
returns-in-Ok-clause-halted g c =
    let kept = g.G.Regions.kept in
    let r = c.requires.are in
    on_err_weaker c.added.result (first_gone (kept c.args.g.now) (kept c.last_of.new.g) (kept c.added.new.g) c.args.met c.in-Ok.last _ (g.met.G.Regions.exact _) c.requires.met (c.in-Ok.ensures.last r.0 r.1.0 r.1.1).made) c.added.ensures.halted

pub returns-in-Ok-clause-told : goal.returns-in-Ok-clause-told
returns-in-Ok-clause-told g c = λ z j goal_in are named.
    let kept = g.G.Regions.kept in
    let k = kept c.args.g.now in
    let k1 = kept c.last_of.new.g in
    let last = c.in-Ok.ensures.last z j are in
    if_err_given c.added.result _ _ _ _ (λ halt tells. meet_told k k1 (kept c.added.new.g) c.args.met c.in-Ok.last z j c.in-Ok.rank halt (g.met.G.Regions.exact _) c.last_of.ensures.keeps.game c.requires.met last goal_in named tells) (c.added.ensures.told z)

pub returns-in-Err-clause-halted : goal.returns-in-Err-clause-halted
returns-in-Err-clause-halted g c =
    let kept = g.G.Regions.kept in
    takes (kept c.args.g.now) (kept c.last_of.new.g) (kept c.spend.new.self) c.args.met (g.met.G.Regions.exact _) c.requires.met c.in-Err.ensures.halted c.spend.ensures.spends

pub returns-in-Err-clause-told : goal.returns-in-Err-clause-told
returns-in-Err-clause-told g c = λ z j goal_in are named.
    let kept = g.G.Regions.kept in
    still_told (kept c.args.g.now) (kept c.last_of.new.g) (kept c.spend.new.self) z c.in-Err.halt c.spend.ensures.spends.jam (c.in-Err.ensures.told z j goal_in are)
