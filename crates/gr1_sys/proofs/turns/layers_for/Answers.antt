use Rattle.std.proofs.Common.{arith, [], ◌∷◌, refl}
use Rattle.gr1_sys.proofs.Parted.{given_stays, halted_above}
use Rattle.gr1_sys.proofs.Turned.{above_held, ready_is, all_climbed_above}
use Rattle.spec_model.specs.Sets.{pre_sys}
use Rattle.regions.specs.Kept.{PreSys, States}
use Rattle.gr1_sys.specs.Moment.{iterated, this_value, forced}
use Rattle.gr1_sys.specs.Told.{TellsHalt}
use Rattle.gr1_sys.proofs.Told.{handed_on, told, past_one}
use Rattle.gr1_sys.proofs.turns.layers_for.Goals as goal

pub all_layers-requires-clause-is_ready : goal.all_layers-requires-clause-is_ready
all_layers-requires-clause-is_ready g c =
    let kept = g.G.Regions.kept in
    let k = kept c.args.g.now in
    (k.set c.args.z.now, ready_is k (kept c.pre_sys.new.self) c.in_ok-ready.ready (k.set c.args.z.now) (g.met.G.Regions.exact _) c.pre_sys.ensures.keeps c.in_ok-ready.ensures.made)

pub all_layers-requires-clause-given : goal.all_layers-requires-clause-given
all_layers-requires-clause-given g c =
    let kept = g.G.Regions.kept in
    given_stays (kept c.args.g.now) (kept c.pre_sys.new.self) c.args.given.now (g.met.G.Regions.exact _) c.pre_sys.ensures.keeps (λ w. omega (arith, c.in_ok-ready.ensures.made.held w)) c.requires.given

pub spend-requires : goal.spend-requires
spend-requires g c =
    let kept = g.G.Regions.kept in
    let k = kept c.args.g.now in
    let is = ready_is k (kept c.pre_sys.new.self) c.in_ok-ready.ready (k.set c.args.z.now) (g.met.G.Regions.exact _) c.pre_sys.ensures.keeps c.in_ok-ready.ensures.made in
    above_held k (kept c.pre_sys.new.self) (kept c.all_layers.new.g) c.in_ok-ready.ready _ _ _ c.in_ok-ready.ensures.made ((c.in-Ok.ensures.climbed (k.set c.args.z.now) is).0.made)

pub returns-in-Ok-clause-climbed : goal.returns-in-Ok-clause-climbed
returns-in-Ok-clause-climbed g c =
    let kept = g.G.Regions.kept in
    let k = kept c.args.g.now in
    let is = ready_is k (kept c.pre_sys.new.self) c.in_ok-ready.ready (k.set c.args.z.now) (g.met.G.Regions.exact _) c.pre_sys.ensures.keeps c.in_ok-ready.ensures.made in
    let climbed = c.in-Ok.ensures.climbed (k.set c.args.z.now) is in
    (all_climbed_above k.game k (kept c.pre_sys.new.self) (kept c.all_layers.new.g) (kept c.spend.new.self) c.in_ok-ready.ready _ (k.set c.args.z.now) c.in-Ok.goals.items (g.met.G.Regions.exact _) c.pre_sys.ensures.keeps.game c.in_ok-ready.ensures.made climbed.0 c.spend.ensures.spends, climbed.1)

pub returns-in-Err-clause-halted : goal.returns-in-Err-clause-halted
returns-in-Err-clause-halted g c =
    let kept = g.G.Regions.kept in
    halted_above (kept c.args.g.now) (kept c.pre_sys.new.self) (kept c.all_layers.new.g) (kept c.spend-in-Err.new.self) c.in_ok-ready.ready _ (g.met.G.Regions.exact _) c.in_ok-ready.ensures.made c.in-Err.ensures.halted c.spend-in-Err.ensures.spends

pub returns-in_err-ready-clause-told : goal.returns-in_err-ready-clause-told
returns-in_err-ready-clause-told g c =
    let kept = g.G.Regions.kept in
    let k = kept c.args.g.now in
    let z = k.set c.args.z.now in
    handed_on c.from_residual.result c.in_err-ready.field-0.0 (TellsHalt k (kept c.pre_sys.new.self) z) c.from_residual.ensures.1
    (told k (kept c.pre_sys.new.self) z PreSys (States z ∷ []) c.in_err-ready.field-0.0 c.in_err-ready.ensures.halted.jam (iterated (this_value refl), tt) (this_value refl, tt))

pub returns-in-Err-clause-told : goal.returns-in-Err-clause-told
returns-in-Err-clause-told g c =
    let kept = g.G.Regions.kept in
    let k = kept c.args.g.now in
    let z = k.set c.args.z.now in
    let is = ready_is k (kept c.pre_sys.new.self) c.in_ok-ready.ready z (g.met.G.Regions.exact _) c.pre_sys.ensures.keeps c.in_ok-ready.ensures.made in
    past_one k (kept c.pre_sys.new.self) (kept c.all_layers.new.g) (kept c.spend-in-Err.new.self) z c.in_ok-ready.ready (pre_sys k.game z) c.in-Err.halt c.pre_sys.ensures.keeps.game c.in_ok-ready.ensures.made (forced z (this_value refl) refl) c.spend-in-Err.ensures.spends.jam
    (c.in-Err.ensures.told z is)
