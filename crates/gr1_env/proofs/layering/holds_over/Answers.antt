use Rattle.std.proofs.Common.{◌∙◌, map, ap, arith, ◌≡◌, refl, [], ◌∷◌}
use Rattle.spec_model.specs.Sets.{pre_env}
use Rattle.regions.proofs.Holding.{set_is}
use Rattle.gr1_env.specs.Held.{goal_regions}
use Rattle.gr1_sys.proofs.Lists.{sets_stay}
use Rattle.gr1_sys.proofs.Parted.{made_above, halted_above}
use Rattle.gr1_sys.proofs.Turned.{above_held}
use Rattle.gr1_env.proofs.Givings.{given_stays}
use Rattle.gr1_env.proofs.Joining.{holds_at}
use Rattle.spec_model.specs.Sets.{all_states}
use Rattle.regions.specs.Kept.{PreEnv, States}
use Rattle.gr1_env.specs.Moment.{IsIterate, iterated, layer, forced}
use Rattle.gr1_env.specs.Told.{AreGiven, TellsLayer, layer_number, moment_at}
use Rattle.gr1_env.proofs.Told.{handed_on, told, at_hold, at_layer, layer_past_one}
use Rattle.gr1_env.proofs.Naming.{some_goal}
use Rattle.gr1_env.proofs.layering.holds_over.Goals as goal

pub holds_above-requires-clause-given : goal.holds_above-requires-clause-given
holds_above-requires-clause-given g c =
    let kept = g.G.Regions.kept in
    given_stays (kept c.args.g.now) (kept c.pre_env.new.self) c.args.given.now (g.met.G.Regions.exact _) (λ w. omega (arith, c.in_ok-forced.ensures.made.held w)) c.requires.given

pub spend-requires : goal.spend-requires
spend-requires g c =
    let kept = g.G.Regions.kept in
    above_held (kept c.args.g.now) (kept c.pre_env.new.self) (kept c.holds_above.new.g) c.in_ok-forced.forced _ _ _ c.in_ok-forced.ensures.made c.in-Ok.ensures.made.made

pub returns-in-Ok-clause-made : goal.returns-in-Ok-clause-made
returns-in-Ok-clause-made g c =
    let kept = g.G.Regions.kept in
    let k = kept c.args.g.now in
    let k1 = kept c.pre_env.new.self in
    let k2 = kept c.holds_above.new.g in
    let set = pre_env k.game (k.set c.args.lower.now) in
    let made = c.in_ok-forced.ensures.made in
    let forced_is = set_is k1 c.in_ok-forced.forced set (g.met.G.Regions.exact _) (λ w. omega (arith, made.held w)) in
    let misses_are = sets_stay k k1 c.args.given.now.misses.items (g.met.G.Regions.exact _) (λ w. omega (arith, made.held w)) c.requires.given.misses in
    let asms_are = sets_stay k k1 c.args.given.now.asms.items (g.met.G.Regions.exact _) (λ w. omega (arith, made.held w)) c.requires.given.asms in
    let has = holds_at k.game k1 k2 _ set _ _ _ _ c.in-Ok.goals.items c.pre_env.ensures.keeps.game forced_is misses_are asms_are c.in-Ok.ensures.made in
    record {
      made = made_above k k1 k2 (kept c.spend.new.self) c.in_ok-forced.forced set (goal_regions c.in-Ok.goals.items) _ (g.met.G.Regions.exact _) made has.made c.spend.ensures.spends;
      whole = has.whole;
    }

pub returns-in-Err-clause-halted : goal.returns-in-Err-clause-halted
returns-in-Err-clause-halted g c =
    let kept = g.G.Regions.kept in
    halted_above (kept c.args.g.now) (kept c.pre_env.new.self) (kept c.holds_above.new.g) (kept c.spend-in-Err.new.self) c.in_ok-forced.forced _ (g.met.G.Regions.exact _) c.in_ok-forced.ensures.made c.in-Err.ensures.halted c.spend-in-Err.ensures.spends

pub returns-in_err-forced-clause-told : goal.returns-in_err-forced-clause-told
returns-in_err-forced-clause-told g c = λ game a same lower_is are.
    let kept = g.G.Regions.kept in
    let k = kept c.args.g.now in
    let new = kept c.pre_env.new.self in
    let y = all_states game in
    let m = moment_at game a 0 y in
    let halt = c.in_err-forced.field-0.0 in
    let here : IsIterate game m (k.set c.args.lower.now) = layer a lower_is in
    handed_on c.from_residual.result halt (TellsLayer game k new a) c.from_residual.ensures.1
    (at_layer game k k new new a 0 halt (some_goal game)
    (at_hold game k k new new a 0 y halt (0, refl) (told game m k new PreEnv (States (k.set c.args.lower.now) ∷ []) halt c.in_err-forced.ensures.halted.jam (iterated here, tt) (here, tt))))

pub returns-in-Err-clause-told : goal.returns-in-Err-clause-told
returns-in-Err-clause-told g c = λ game a same lower_is are.
    let kept = g.G.Regions.kept in
    let k = kept c.args.g.now in
    let k1 = kept c.pre_env.new.self in
    let given = c.args.given.now in
    let set = pre_env k.game (k.set c.args.lower.now) in
    let made = c.in_ok-forced.ensures.made in
    let forced_is : set ≡ pre_env game (layer_number game a) = ap (λ h. pre_env h (k.set c.args.lower.now)) same ∙ ap (pre_env game) lower_is in
    let forced_now = set_is k1 c.in_ok-forced.forced set (g.met.G.Regions.exact _) (λ w. omega (arith, made.held w)) in
    let misses_now = sets_stay k k1 given.misses.items (g.met.G.Regions.exact _) (λ w. omega (arith, made.held w)) c.requires.given.misses in
    let asms_now = sets_stay k k1 given.asms.items (g.met.G.Regions.exact _) (λ w. omega (arith, made.held w)) c.requires.given.asms in
    let now : AreGiven game (map k1.set given.misses.items) (map k1.set given.asms.items) = record { misses_are = misses_now ∙ are.misses_are; asms_are = asms_now ∙ are.asms_are } in
    layer_past_one game k k1 (kept c.holds_above.new.g) (kept c.spend-in-Err.new.self) a c.in_ok-forced.forced set c.in-Err.halt made (λ j y. forced (layer_number game a) (layer a refl) forced_is) c.spend-in-Err.ensures.spends.jam
    (c.in-Err.ensures.told game a (c.pre_env.ensures.keeps.game ∙ same) (forced_now ∙ forced_is) now)
