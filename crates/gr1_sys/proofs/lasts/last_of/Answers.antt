use Rattle.std.proofs.Common.{arith, ◌∙◌, [], ◌∷◌, ap, subst, sym, refl}
use Rattle.spec_model.specs.Sets.{both}
use Rattle.regions.specs.Kept.{And, States}
use Rattle.gr1_law.specs.Layers.{goal_set}
use Rattle.gr1_sys.specs.Moment.{this_value, forced, reached}
use Rattle.gr1_sys.specs.Moment as Moment
use Rattle.gr1_sys.specs.Told.{TellsHalt}
use Rattle.gr1_sys.proofs.Parted.{given_stays, halted_above}
use Rattle.gr1_sys.proofs.Turned.{reach_is}
use Rattle.gr1_sys.proofs.Told.{handed_on, told, past_one}
use Rattle.gr1_sys.proofs.Counted.{still_above, last_beneath}
use Rattle.gr1_sys.proofs.lasts.last_of.Goals as goal

pub returns-in_err-reach-clause-told : goal.returns-in_err-reach-clause-told
returns-in_err-reach-clause-told g c = λ z j goal_in are.
    let kept = g.G.Regions.kept in
    let k = kept c.args.g.now in
    handed_on c.from_residual.result c.in_err-reach.field-0.0 (TellsHalt k (kept c.and.new.self) z) c.from_residual.ensures.1
    (told k (kept c.and.new.self) z And (States (k.set c.args.goal.now) ∷ States (k.set c.args.ready.now) ∷ []) c.in_err-reach.field-0.0 c.in_err-reach.ensures.halted.jam (Moment.goal j goal_in are.goal_is, (forced z (this_value refl) are.ready_is, tt)) tt)

pub last_above-requires-clause-reaches : goal.last_above-requires-clause-reaches
last_above-requires-clause-reaches g c =
    let kept = g.G.Regions.kept in
    let r = c.requires.are in
    (r.0, (r.1.0, reach_is (kept c.args.g.now) (kept c.and.new.self) c.in_ok-reach.reach c.args.goal.now c.args.ready.now r.0 r.1.0 (g.met.G.Regions.exact _) c.and.ensures.keeps c.in_ok-reach.ensures.made r.1.1.goal_is r.1.1.ready_is))

pub last_above-requires-clause-given : goal.last_above-requires-clause-given
last_above-requires-clause-given g c =
    let kept = g.G.Regions.kept in
    given_stays (kept c.args.g.now) (kept c.and.new.self) c.args.given.now (g.met.G.Regions.exact _) c.and.ensures.keeps (λ w. omega (arith, c.in_ok-reach.ensures.made.held w)) c.requires.given

pub spend-requires : goal.spend-requires
spend-requires g c =
    let kept = g.G.Regions.kept in
    let r = c.requires.are in
    let is = reach_is (kept c.args.g.now) (kept c.and.new.self) c.in_ok-reach.reach c.args.goal.now c.args.ready.now r.0 r.1.0 (g.met.G.Regions.exact _) c.and.ensures.keeps c.in_ok-reach.ensures.made r.1.1.goal_is r.1.1.ready_is in
    still_above (kept c.args.g.now) (kept c.and.new.self) (kept c.last_above.new.g) c.in_ok-reach.reach _ _ _ c.in_ok-reach.ensures.made (c.in-Ok.ensures.last r.0 r.1.0 is).made

pub returns-in-Ok-clause-last : goal.returns-in-Ok-clause-last
returns-in-Ok-clause-last g c = λ z j are.
    let kept = g.G.Regions.kept in
    let k = kept c.args.g.now in
    let is = reach_is k (kept c.and.new.self) c.in_ok-reach.reach c.args.goal.now c.args.ready.now z j (g.met.G.Regions.exact _) c.and.ensures.keeps c.in_ok-reach.ensures.made are.goal_is are.ready_is in
    last_beneath k (kept c.and.new.self) (kept c.last_above.new.g) (kept c.spend.new.self) c.in_ok-reach.reach _ c.in-Ok.last.0 z j c.in-Ok.last.1 (g.met.G.Regions.exact _) c.and.ensures.keeps.game c.in_ok-reach.ensures.made (c.in-Ok.ensures.last z j is) c.spend.ensures.spends

pub returns-in-Err-clause-halted : goal.returns-in-Err-clause-halted
returns-in-Err-clause-halted g c =
    let kept = g.G.Regions.kept in
    halted_above (kept c.args.g.now) (kept c.and.new.self) (kept c.last_above.new.g) (kept c.spend-in-Err.new.self) c.in_ok-reach.reach _ (g.met.G.Regions.exact _) c.in_ok-reach.ensures.made c.in-Err.ensures.halted c.spend-in-Err.ensures.spends

pub returns-in-Err-clause-told : goal.returns-in-Err-clause-told
returns-in-Err-clause-told g c = λ z j goal_in are.
    let kept = g.G.Regions.kept in
    let k = kept c.args.g.now in
    let is = reach_is k (kept c.and.new.self) c.in_ok-reach.reach c.args.goal.now c.args.ready.now z j (g.met.G.Regions.exact _) c.and.ensures.keeps c.in_ok-reach.ensures.made are.goal_is are.ready_is in
    let set_is = ap (λ t. both t (k.set c.args.ready.now)) are.goal_is ∙ ap (both (goal_set k.game j)) are.ready_is in
    past_one k (kept c.and.new.self) (kept c.last_above.new.g) (kept c.spend-in-Err.new.self) z c.in_ok-reach.reach (both (k.set c.args.goal.now) (k.set c.args.ready.now)) c.in-Err.halt c.and.ensures.keeps.game c.in_ok-reach.ensures.made (reached j goal_in set_is) c.spend-in-Err.ensures.spends.jam
    (c.in-Err.ensures.told z j (subst (λ h. Moment.IsGoal h j) (sym c.and.ensures.keeps.game) goal_in) is)
