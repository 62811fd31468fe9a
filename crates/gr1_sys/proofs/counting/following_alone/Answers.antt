use Rattle.std.proofs.Common.{arith, [], ◌∷◌, refl}
use Rattle.regions.specs.Kept.{PreSys, States}
use Rattle.spec_model.specs.Sets.{pre_sys}
use Rattle.gr1_sys.specs.Moment.{iterated, this_value, forced}
use Rattle.gr1_sys.specs.Told.{TellsHalt}
use Rattle.gr1_sys.proofs.Parted.{given_stays, halted_above}
use Rattle.gr1_sys.proofs.Turned.{ready_is}
use Rattle.gr1_sys.proofs.Told.{handed_on, told, past_one}
use Rattle.gr1_sys.proofs.Counted.{still_above, following_beneath}
use Rattle.gr1_sys.proofs.counting.following_alone.Goals as goal

pub all_goals-requires-clause-is_ready : goal.all_goals-requires-clause-is_ready
all_goals-requires-clause-is_ready g c =
    let kept = g.G.Regions.kept in
    let k = kept c.args.g.now in
    (k.set c.args.z.now, ready_is k (kept c.pre_sys.new.self) c.in_ok-ready.ready (k.set c.args.z.now) (g.met.G.Regions.exact _) c.pre_sys.ensures.keeps c.in_ok-ready.ensures.made)

pub all_goals-requires-clause-given : goal.all_goals-requires-clause-given
all_goals-requires-clause-given g c =
    let kept = g.G.Regions.kept in
    given_stays (kept c.args.g.now) (kept c.pre_sys.new.self) c.args.given.now (g.met.G.Regions.exact _) c.pre_sys.ensures.keeps (λ w. omega (arith, c.in_ok-ready.ensures.made.held w)) c.requires.given

pub spend-requires : goal.spend-requires
spend-requires g c =
    let kept = g.G.Regions.kept in
    let k = kept c.args.g.now in
    let is = ready_is k (kept c.pre_sys.new.self) c.in_ok-ready.ready (k.set c.args.z.now) (g.met.G.Regions.exact _) c.pre_sys.ensures.keeps c.in_ok-ready.ensures.made in
    still_above k (kept c.pre_sys.new.self) (kept c.all_goals.new.g) c.in_ok-ready.ready _ _ _ c.in_ok-ready.ensures.made (c.in-Ok.ensures.made (k.set c.args.z.now) is).made

pub returns-in-Ok-clause-made : goal.returns-in-Ok-clause-made
returns-in-Ok-clause-made g c =
    let kept = g.G.Regions.kept in
    let k = kept c.args.g.now in
    let z = k.set c.args.z.now in
    let is = ready_is k (kept c.pre_sys.new.self) c.in_ok-ready.ready z (g.met.G.Regions.exact _) c.pre_sys.ensures.keeps c.in_ok-ready.ensures.made in
    following_beneath k (kept c.pre_sys.new.self) (kept c.all_goals.new.g) (kept c.spend.new.self) c.in_ok-ready.ready (pre_sys k.game z) c.in-Ok.next.0 z c.in-Ok.next.1 (g.met.G.Regions.exact _) c.pre_sys.ensures.keeps.game c.in_ok-ready.ensures.made (c.in-Ok.ensures.made z is) c.spend.ensures.spends

pub returns-in-Err-clause-halted : goal.returns-in-Err-clause-halted
returns-in-Err-clause-halted g c =
    let kept = g.G.Regions.kept in
    halted_above (kept c.args.g.now) (kept c.pre_sys.new.self) (kept c.all_goals.new.g) (kept c.spend-in-Err.new.self) c.in_ok-ready.ready _ (g.met.G.Regions.exact _) c.in_ok-ready.ensures.made c.in-Err.ensures.halted c.spend-in-Err.ensures.spends

pub returns-in_err-ready-clause-told : goal.returns-in_err-ready-clause-told
returns-in_err-ready-clause-told g c =
    let kept = g.G.Regions.kept in
    let k = kept c.args.g.now in
    let z = k.set c.args.z.now in
    handed_on c.from_residual.result c.in_err-ready.field-0.0 (TellsHalt k (kept c.pre_sys.new.self) z) c.from_residual.ensures.1
    (told k (kept c.pre_sys.new.self) z PreSys (States z ∷ []) c.in_err-ready.field-0.0 c.in_err-ready.ensures.halted.jam (iterated (this_value refl), tt) (this_value refl, tt))

pub returns-in-Err-clause-told : goal.returns-in-Err-clause-told
returns-in-Err-clause-told g c =
    let kept = g.G.Regions.kept in
    let k = kept c.args.g.now in
    let z = k.set c.args.z.now in
    let is = ready_is k (kept c.pre_sys.new.self) c.in_ok-ready.ready z (g.met.G.Regions.exact _) c.pre_sys.ensures.keeps c.in_ok-ready.ensures.made in
    past_one k (kept c.pre_sys.new.self) (kept c.all_goals.new.g) (kept c.spend-in-Err.new.self) z c.in_ok-ready.ready (pre_sys k.game z) c.in-Err.halt c.pre_sys.ensures.keeps.game c.in_ok-ready.ensures.made (forced z (this_value refl) refl) c.spend-in-Err.ensures.spends.jam
    (c.in-Err.ensures.told z is)
