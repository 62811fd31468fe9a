use Rattle.std.proofs.Common.{◌∙◌, List, map, ap, subst, sym, arith, ◌≡◌, refl, [], ◌∷◌}
use Rattle.spec_model.specs.Sets.{either}
use Rattle.regions.proofs.Holding.{set_is}
use Rattle.gr1_sys.specs.Held.{HasEach}
use Rattle.gr1_env.specs.Held.{hold_regions}
use Rattle.gr1_sys.proofs.Lists.{region_stays, set_kept, each_stays, sets_stay}
use Rattle.gr1_sys.proofs.Parted.{made_above, halted_above}
use Rattle.gr1_sys.proofs.Turned.{above_held}
use Rattle.gr1_env.proofs.Joining.{hold_at}
use Rattle.spec_model.specs.Sets.{all_states, rest}
use Rattle.regions.specs.Kept.{Or, States}
use Rattle.gr1_law.specs.Layers.{goal_set}
use Rattle.gr1_env.specs.Moment.{layer, miss, forced, based}
use Rattle.gr1_env.specs.Told.{TellsHold, base_for, layer_number, moment_at}
use Rattle.gr1_env.proofs.Told.{handed_on, told, at_hold, hold_past_one}
use Rattle.gr1_env.proofs.layering.hold_above.Goals as goal

pub hold-requires-clause-asms : goal.hold-requires-clause-asms
hold-requires-clause-asms g c =
    let kept = g.G.Regions.kept in
    let made = c.in_ok-base.ensures.made in
    subst (HasEach (kept c.or.new.self)) (sym c.deref.ensures.value) (each_stays (kept c.args.g.now) (kept c.or.new.self) c.args.given.now.asms.items (λ w. omega (arith, made.held w)) c.requires.given.asms)

pub hold-requires-clause-none : goal.hold-requires-clause-none
hold-requires-clause-none g c =
    let kept = g.G.Regions.kept in
    let made = c.in_ok-base.ensures.made in
    region_stays (kept c.args.g.now) (kept c.or.new.self) c.args.given.now.none (λ w. omega (arith, made.held w)) c.requires.given.none

pub hold-requires-clause-empty : goal.hold-requires-clause-empty
hold-requires-clause-empty g c =
    let kept = g.G.Regions.kept in
    let made = c.in_ok-base.ensures.made in
    set_kept (kept c.args.g.now) (kept c.or.new.self) c.args.given.now.none (g.met.G.Regions.exact _) (λ w. omega (arith, made.held w)) c.requires.given.none ∙ c.requires.given.empty

pub spend-requires : goal.spend-requires
spend-requires g c =
    let kept = g.G.Regions.kept in
    above_held (kept c.args.g.now) (kept c.or.new.self) (kept c.hold.new.g) c.in_ok-base.base _ _ _ c.in_ok-base.ensures.made c.in-Ok.ensures.made.made

pub returns-in-Ok-clause-made : goal.returns-in-Ok-clause-made
returns-in-Ok-clause-made g c =
    let kept = g.G.Regions.kept in
    let k = kept c.args.g.now in
    let k1 = kept c.or.new.self in
    let k2 = kept c.hold.new.g in
    let set = either (k.set c.args.miss.now) (k.set c.args.forced.now) in
    let made = c.in_ok-base.ensures.made in
    let base_is = set_is k1 c.in_ok-base.base set (g.met.G.Regions.exact _) (λ w. omega (arith, made.held w)) in
    let asms_are = ap (λ (rs : List _). map k1.set rs) c.deref.ensures.value ∙ sets_stay k k1 c.args.given.now.asms.items (g.met.G.Regions.exact _) (λ w. omega (arith, made.held w)) c.requires.given.asms in
    let has = hold_at k.game k1 k2 _ set _ _ c.in-Ok.e c.or.ensures.keeps.game base_is asms_are c.in-Ok.ensures.made in
    record {
      made = made_above k k1 k2 (kept c.spend.new.self) c.in_ok-base.base set (hold_regions c.in-Ok.e) _ (g.met.G.Regions.exact _) made has.made c.spend.ensures.spends;
      whole = has.whole;
    }

pub returns-in-Err-clause-halted : goal.returns-in-Err-clause-halted
returns-in-Err-clause-halted g c =
    let kept = g.G.Regions.kept in
    halted_above (kept c.args.g.now) (kept c.or.new.self) (kept c.hold.new.g) (kept c.spend-in-Err.new.self) c.in_ok-base.base _ (g.met.G.Regions.exact _) c.in_ok-base.ensures.made c.in-Err.ensures.halted c.spend-in-Err.ensures.spends

pub returns-in_err-base-clause-told : goal.returns-in_err-base-clause-told
returns-in_err-base-clause-told g c = λ game a j same goal_in miss_is forced_is asms_are.
    let kept = g.G.Regions.kept in
    let k = kept c.args.g.now in
    let new = kept c.or.new.self in
    let y = all_states game in
    let halt = c.in_err-base.field-0.0 in
    handed_on c.from_residual.result halt (TellsHold game k new a j) c.from_residual.ensures.1
    (at_hold game k k new new a j y halt (0, refl)
    (told game (moment_at game a j y) k new Or (States (k.set c.args.miss.now) ∷ States (k.set c.args.forced.now) ∷ []) halt c.in_err-base.ensures.halted.jam
    (miss j goal_in miss_is, (forced (layer_number game a) (layer a refl) forced_is, tt)) tt))

pub returns-in-Err-clause-told : goal.returns-in-Err-clause-told
returns-in-Err-clause-told g c = λ game a j same goal_in miss_is forced_is asms_are.
    let kept = g.G.Regions.kept in
    let k = kept c.args.g.now in
    let k1 = kept c.or.new.self in
    let set = either (k.set c.args.miss.now) (k.set c.args.forced.now) in
    let made = c.in_ok-base.ensures.made in
    let base_is : set ≡ base_for game (layer_number game a) j = ap (λ t. either t (k.set c.args.forced.now)) miss_is ∙ ap (either (rest game (goal_set game j))) forced_is in
    let base_now = set_is k1 c.in_ok-base.base set (g.met.G.Regions.exact _) (λ w. omega (arith, made.held w)) in
    let asms_now = ap (λ (rs : List _). map k1.set rs) c.deref.ensures.value ∙ sets_stay k k1 c.args.given.now.asms.items (g.met.G.Regions.exact _) (λ w. omega (arith, made.held w)) c.requires.given.asms in
    hold_past_one game k k1 (kept c.hold.new.g) (kept c.spend-in-Err.new.self) a j c.in_ok-base.base set c.in-Err.halt made (λ y. based a j goal_in base_is) c.spend-in-Err.ensures.spends.jam
    (c.in-Err.ensures.told game a j (c.or.ensures.keeps.game ∙ same) goal_in (base_now ∙ base_is) (asms_now ∙ asms_are))
