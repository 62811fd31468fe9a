use Rattle.std.proofs.Common.{◌∙◌, [], ◌∷◌, arith, ap, map}
use Rattle.spec_model.specs.Sets.{both, pre_env}
use Rattle.regions.proofs.Holding.{set_is}
use Rattle.gr1_env.specs.Solution.{cover_of}
use Rattle.gr1_env.specs.Held.{list_regions}
use Rattle.gr1_sys.proofs.Holdings.{on_err, dropped, replaced_as}
use Rattle.gr1_sys.proofs.Lists.{region_stays, set_kept, each_stays, sets_stay}
use Rattle.gr1_sys.proofs.Parted.{made_above, halted_above}
use Rattle.gr1_sys.proofs.Turned.{above_held}
use Rattle.gr1_env.proofs.Holding.{have_at}
use Rattle.regions.specs.Kept.{And, PreEnv, States}
use Rattle.gr1_env.specs.Moment.{IsIterate, iterated, value, forced, based, covered}
use Rattle.gr1_env.specs.Told.{TellsHalt}
use Rattle.gr1_env.proofs.Told.{handed_on, told, past_one, joined_told}
use Rattle.gr1_env.proofs.Naming.{cover_stands}
use Rattle.gr1_env.proofs.holds.delays_for.Goals as goal

pub returns-in_err-cover-clause-halted : goal.returns-in_err-cover-clause-halted
returns-in_err-cover-clause-halted g c = on_err _ (dropped _ _ _ c.in_ok-forced.forced _ (g.met.G.Regions.exact _) c.in_ok-forced.ensures.made c.in_err-cover.ensures.halted)

pub all_delays-requires-clause-asms : goal.all_delays-requires-clause-asms
all_delays-requires-clause-asms g c =
    let kept = g.G.Regions.kept in
    let k = kept c.args.g.now in
    let made = replaced_as k (kept c.pre_env.new.self) (kept c.and_in.new.g) c.in_ok-forced.forced c.in_ok-cover.cover c.args.base.now (pre_env k.game (k.set c.args.y.now)) both (g.met.G.Regions.exact _) c.requires.base c.in_ok-forced.ensures.made c.in_ok-cover.ensures.made in
    each_stays k (kept c.and_in.new.g) c.args.asms.now (λ w. omega (arith, made.held w)) c.requires.asms

pub all_delays-requires-clause-none : goal.all_delays-requires-clause-none
all_delays-requires-clause-none g c =
    let kept = g.G.Regions.kept in
    let k = kept c.args.g.now in
    let made = replaced_as k (kept c.pre_env.new.self) (kept c.and_in.new.g) c.in_ok-forced.forced c.in_ok-cover.cover c.args.base.now (pre_env k.game (k.set c.args.y.now)) both (g.met.G.Regions.exact _) c.requires.base c.in_ok-forced.ensures.made c.in_ok-cover.ensures.made in
    region_stays k (kept c.and_in.new.g) c.args.none.now (λ w. omega (arith, made.held w)) c.requires.none

pub all_delays-requires-clause-empty : goal.all_delays-requires-clause-empty
all_delays-requires-clause-empty g c =
    let kept = g.G.Regions.kept in
    let k = kept c.args.g.now in
    let made = replaced_as k (kept c.pre_env.new.self) (kept c.and_in.new.g) c.in_ok-forced.forced c.in_ok-cover.cover c.args.base.now (pre_env k.game (k.set c.args.y.now)) both (g.met.G.Regions.exact _) c.requires.base c.in_ok-forced.ensures.made c.in_ok-cover.ensures.made in
    set_kept k (kept c.and_in.new.g) c.args.none.now (g.met.G.Regions.exact _) (λ w. omega (arith, made.held w)) c.requires.none ∙ c.requires.empty

pub spend-requires : goal.spend-requires
spend-requires g c =
    let kept = g.G.Regions.kept in
    let k = kept c.args.g.now in
    let made = replaced_as k (kept c.pre_env.new.self) (kept c.and_in.new.g) c.in_ok-forced.forced c.in_ok-cover.cover c.args.base.now (pre_env k.game (k.set c.args.y.now)) both (g.met.G.Regions.exact _) c.requires.base c.in_ok-forced.ensures.made c.in_ok-cover.ensures.made in
    above_held k (kept c.and_in.new.g) (kept c.all_delays.new.g) c.in_ok-cover.cover _ _ _ made c.in-Ok.ensures.made.made

pub spend-requires-in-Err : goal.spend-requires-in-Err
spend-requires-in-Err g c =
    let kept = g.G.Regions.kept in
    let k = kept c.args.g.now in
    let made = replaced_as k (kept c.pre_env.new.self) (kept c.and_in.new.g) c.in_ok-forced.forced c.in_ok-cover.cover c.args.base.now (pre_env k.game (k.set c.args.y.now)) both (g.met.G.Regions.exact _) c.requires.base c.in_ok-forced.ensures.made c.in_ok-cover.ensures.made in
    λ w. omega (arith, made.held (λ i m. w i), c.in-Err.ensures.halted (λ i m. w i))

pub returns-in-Ok-clause-made : goal.returns-in-Ok-clause-made
returns-in-Ok-clause-made g c =
    let kept = g.G.Regions.kept in
    let k = kept c.args.g.now in
    let k2 = kept c.and_in.new.g in
    let k3 = kept c.all_delays.new.g in
    let set = cover_of k.game (k.set c.args.base.now) (k.set c.args.y.now) in
    let made = replaced_as k (kept c.pre_env.new.self) k2 c.in_ok-forced.forced c.in_ok-cover.cover c.args.base.now (pre_env k.game (k.set c.args.y.now)) both (g.met.G.Regions.exact _) c.requires.base c.in_ok-forced.ensures.made c.in_ok-cover.ensures.made in
    let cover_is = set_is k2 c.in_ok-cover.cover set (g.met.G.Regions.exact _) (λ w. omega (arith, made.held w)) in
    let asms_are = sets_stay k k2 c.args.asms.now (g.met.G.Regions.exact _) (λ w. omega (arith, made.held w)) c.requires.asms in
    let have = have_at k.game k2 k3 _ set _ _ c.in-Ok.xs.items (c.and_in.ensures.keeps.game ∙ c.pre_env.ensures.keeps.game) cover_is asms_are c.in-Ok.ensures.made in
    record {
      made = made_above k k2 k3 (kept c.spend.new.self) c.in_ok-cover.cover set (list_regions c.in-Ok.xs.items) _ (g.met.G.Regions.exact _) made have.made c.spend.ensures.spends;
      counted = have.counted;
      least = have.least;
    }

pub returns-in-Err-clause-halted : goal.returns-in-Err-clause-halted
returns-in-Err-clause-halted g c =
    let kept = g.G.Regions.kept in
    let k = kept c.args.g.now in
    let made = replaced_as k (kept c.pre_env.new.self) (kept c.and_in.new.g) c.in_ok-forced.forced c.in_ok-cover.cover c.args.base.now (pre_env k.game (k.set c.args.y.now)) both (g.met.G.Regions.exact _) c.requires.base c.in_ok-forced.ensures.made c.in_ok-cover.ensures.made in
    halted_above k (kept c.and_in.new.g) (kept c.all_delays.new.g) (kept c.spend-in-Err.new.self) c.in_ok-cover.cover _ (g.met.G.Regions.exact _) made c.in-Err.ensures.halted c.spend-in-Err.ensures.spends

pub returns-in_err-forced-clause-told : goal.returns-in_err-forced-clause-told
returns-in_err-forced-clause-told g c = λ game m a j same are.
    let kept = g.G.Regions.kept in
    let k = kept c.args.g.now in
    let here : IsIterate game m (k.set c.args.y.now) = value a j are.goal_in are.value_is in
    handed_on c.from_residual.result c.in_err-forced.field-0.0 (TellsHalt game k (kept c.pre_env.new.self) m) c.from_residual.ensures.1
    (told game m k (kept c.pre_env.new.self) PreEnv (States (k.set c.args.y.now) ∷ []) c.in_err-forced.field-0.0 c.in_err-forced.ensures.halted.jam (iterated here, tt) (here, tt))

pub returns-in_err-cover-clause-told : goal.returns-in_err-cover-clause-told
returns-in_err-cover-clause-told g c = λ game m a j same are.
    let kept = g.G.Regions.kept in
    let k = kept c.args.g.now in
    handed_on c.from_residual-in_err-cover.result c.in_err-cover.field-0.0 (TellsHalt game k (kept c.and_in.new.g) m) c.from_residual-in_err-cover.ensures.1
    (joined_told game m k (kept c.pre_env.new.self) (kept c.and_in.new.g) c.in_ok-forced.forced c.args.base.now (pre_env k.game (k.set c.args.y.now)) And c.in_err-cover.field-0.0 (g.met.G.Regions.exact _) c.requires.base c.in_ok-forced.ensures.made
    (forced (k.set c.args.y.now) (value a j are.goal_in are.value_is) (ap (λ h. pre_env h (k.set c.args.y.now)) same)) (based a j are.goal_in are.base_is) tt c.in_err-cover.ensures.told)

pub returns-in-Err-clause-told : goal.returns-in-Err-clause-told
returns-in-Err-clause-told g c = λ game m a j same are.
    let kept = g.G.Regions.kept in
    let k = kept c.args.g.now in
    let k2 = kept c.and_in.new.g in
    let set = cover_of k.game (k.set c.args.base.now) (k.set c.args.y.now) in
    let made = replaced_as k (kept c.pre_env.new.self) k2 c.in_ok-forced.forced c.in_ok-cover.cover c.args.base.now (pre_env k.game (k.set c.args.y.now)) both (g.met.G.Regions.exact _) c.requires.base c.in_ok-forced.ensures.made c.in_ok-cover.ensures.made in
    let cover_is = cover_stands game m k.game a j (k.set c.args.base.now) (k.set c.args.y.now) (map k.set c.args.asms.now) same are in
    let cover_now = set_is k2 c.in_ok-cover.cover set (g.met.G.Regions.exact _) (λ w. omega (arith, made.held w)) in
    let asms_are = sets_stay k k2 c.args.asms.now (g.met.G.Regions.exact _) (λ w. omega (arith, made.held w)) c.requires.asms in
    past_one game m k k2 (kept c.all_delays.new.g) (kept c.spend-in-Err.new.self) c.in_ok-cover.cover set c.in-Err.halt made (covered a j are.goal_in cover_is) c.spend-in-Err.ensures.spends.jam
    (c.in-Err.ensures.told game m a j (c.and_in.ensures.keeps.game ∙ (c.pre_env.ensures.keeps.game ∙ same)) are.goal_in (cover_now ∙ cover_is) (asms_are ∙ are.asms_are))
