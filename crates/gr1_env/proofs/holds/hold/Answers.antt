use Rattle.std.proofs.Common.{◌∙◌, ap, sym, subst, arith, map, refl, suc, []}
use Rattle.spec_model.proofs.Fixpoints.{IsFalling, falling-first, falling-next, falling-fewer}
use Rattle.regions.proofs.Holding.{made_is, replaced_is}
use Rattle.gr1_env.specs.Solution.{hold_value_on}
use Rattle.gr1_env.specs.Held.{Steps}
use Rattle.gr1_sys.proofs.Holdings.{same_then}
use Rattle.gr1_sys.proofs.Lists.{region_stays, set_kept, each_stays, sets_stay}
use Rattle.gr1_env.proofs.Holding.{hold_value_on-grows, hold_value_on-inside, hold_made, steps_at}
use Rattle.spec_model.specs.Sets.{all_states}
use Rattle.gr1_env.specs.Moment.{iterated, value as value_named}
use Rattle.gr1_env.specs.Told.{AreOfHold, TellsHold, layer_number, moment_at}
use Rattle.gr1_env.proofs.Told.{handed_on, told, past_one, at_hold}
use Rattle.gr1_env.proofs.Naming.{value_here, value_stands}
use Rattle.regions.specs.Kept.{All}
use Rattle.gr1_env.proofs.holds.hold.Goals as goal

pub loop-e-init : goal.loop-e-init
loop-e-init g c =
    let kept = g.G.Regions.kept in
    let first = kept c.args.g.now in
    let base = first.set c.args.base.now in
    let asms = map first.set c.args.asms.now in
    let value = hold_value_on first.game base asms in
    let is = made_is first (kept c.all.new.self) c.in_ok-y.y _ (g.met.G.Regions.exact _) c.in_ok-y.ensures.made in
    record {
      made = is.1;
      same = c.all.ensures.keeps;
      falling = subst (IsFalling first.game value) (sym is.0) (falling-first first.game value (hold_value_on-grows first.game base asms) (hold_value_on-inside first.game base asms));
      iterates = (0, is.0);
    }

pub one_value-requires-clause-base : goal.one_value-requires-clause-base
one_value-requires-clause-base g c =
    let kept = g.G.Regions.kept in
    region_stays (kept c.args.g.now) (kept c.loop-e.g) c.args.base.now (λ w. omega (arith, c.loop-e.invariant.made.held w)) c.requires.base

pub one_value-requires-clause-asms : goal.one_value-requires-clause-asms
one_value-requires-clause-asms g c =
    let kept = g.G.Regions.kept in
    each_stays (kept c.args.g.now) (kept c.loop-e.g) c.args.asms.now (λ w. omega (arith, c.loop-e.invariant.made.held w)) c.requires.asms

pub one_value-requires-clause-none : goal.one_value-requires-clause-none
one_value-requires-clause-none g c =
    let kept = g.G.Regions.kept in
    region_stays (kept c.args.g.now) (kept c.loop-e.g) c.args.none.now (λ w. omega (arith, c.loop-e.invariant.made.held w)) c.requires.none

pub one_value-requires-clause-empty : goal.one_value-requires-clause-empty
one_value-requires-clause-empty g c =
    let kept = g.G.Regions.kept in
    set_kept (kept c.args.g.now) (kept c.loop-e.g) c.args.none.now (g.met.G.Regions.exact _) (λ w. omega (arith, c.loop-e.invariant.made.held w)) c.requires.none ∙ c.requires.empty

pub loop-e-preserved : goal.loop-e-preserved
loop-e-preserved g c =
    let kept = g.G.Regions.kept in
    let first = kept c.args.g.now in
    let k = kept c.loop-e.g in
    let new = kept c.one_value.new.g in
    let inv = c.loop-e.invariant in
    let base = first.set c.args.base.now in
    let asms = map first.set c.args.asms.now in
    let value = hold_value_on first.game base asms in
    let base_is = set_kept first k c.args.base.now (g.met.G.Regions.exact _) (λ w. omega (arith, inv.made.held w)) c.requires.base in
    let asms_are = sets_stay first k c.args.asms.now (g.met.G.Regions.exact _) (λ w. omega (arith, inv.made.held w)) c.requires.asms in
    let steps = subst (Steps first.game k new base asms c.loop-e.y (k.set c.loop-e.y)) c.in-Next.is (steps_at first.game k new _ base _ asms c.loop-e.y (k.set c.loop-e.y) _ inv.same.game base_is asms_are c.in_ok-e.ensures.steps) in
    let is = replaced_is first k new c.loop-e.y c.in-Next.next (value (k.set c.loop-e.y)) (g.met.G.Regions.exact _) inv.made steps.0 in
    record {
      made = is.1;
      same = same_then first k new inv.same c.one_value.ensures.keeps;
      falling = subst (IsFalling first.game value) (sym is.0) (falling-next first.game value (hold_value_on-grows first.game base asms) (hold_value_on-inside first.game base asms) (k.set c.loop-e.y) inv.falling);
      iterates = (suc inv.iterates.0, is.0 ∙ ap value inv.iterates.1);
    }

pub loop-e-smaller : goal.loop-e-smaller
loop-e-smaller g c =
    let kept = g.G.Regions.kept in
    let first = kept c.args.g.now in
    let k = kept c.loop-e.g in
    let new = kept c.one_value.new.g in
    let inv = c.loop-e.invariant in
    let base = first.set c.args.base.now in
    let asms = map first.set c.args.asms.now in
    let value = hold_value_on first.game base asms in
    let base_is = set_kept first k c.args.base.now (g.met.G.Regions.exact _) (λ w. omega (arith, inv.made.held w)) c.requires.base in
    let asms_are = sets_stay first k c.args.asms.now (g.met.G.Regions.exact _) (λ w. omega (arith, inv.made.held w)) c.requires.asms in
    let steps = subst (Steps first.game k new base asms c.loop-e.y (k.set c.loop-e.y)) c.in-Next.is (steps_at first.game k new _ base _ asms c.loop-e.y (k.set c.loop-e.y) _ inv.same.game base_is asms_are c.in_ok-e.ensures.steps) in
    let is = replaced_is first k new c.loop-e.y c.in-Next.next (value (k.set c.loop-e.y)) (g.met.G.Regions.exact _) inv.made steps.0 in
    let fewer = falling-fewer first.game value (hold_value_on-grows first.game base asms) (hold_value_on-inside first.game base asms) (k.set c.loop-e.y) inv.falling steps.1 in
    rw (is.0, c.one_value.ensures.keeps.game, inv.same.game) fewer

pub returns-in-Settled-clause-made : goal.returns-in-Settled-clause-made
returns-in-Settled-clause-made g c =
    let kept = g.G.Regions.kept in
    let first = kept c.args.g.now in
    let k = kept c.loop-e.g in
    let new = kept c.one_value.new.g in
    let inv = c.loop-e.invariant in
    let base = first.set c.args.base.now in
    let asms = map first.set c.args.asms.now in
    let base_is = set_kept first k c.args.base.now (g.met.G.Regions.exact _) (λ w. omega (arith, inv.made.held w)) c.requires.base in
    let asms_are = sets_stay first k c.args.asms.now (g.met.G.Regions.exact _) (λ w. omega (arith, inv.made.held w)) c.requires.asms in
    let steps = subst (Steps first.game k new base asms c.loop-e.y (k.set c.loop-e.y)) c.in-Settled.is (steps_at first.game k new _ base _ asms c.loop-e.y (k.set c.loop-e.y) _ inv.same.game base_is asms_are c.in_ok-e.ensures.steps) in
    hold_made first.game first k new base asms c.loop-e.y c.in-Settled.e inv.made inv.falling steps.0 steps.1.0 steps.1.1

pub returns-in_err-y-clause-told : goal.returns-in_err-y-clause-told
returns-in_err-y-clause-told g c = λ game a j same goal_in base_is asms_are.
    let kept = g.G.Regions.kept in
    let first = kept c.args.g.now in
    let new = kept c.all.new.self in
    let y = all_states game in
    let halt = c.in_err-y.field-0.0 in
    handed_on c.from_residual.result halt (TellsHold game first new a j) c.from_residual.ensures.1
    (at_hold game first first new new a j y halt (0, refl) (told game (moment_at game a j y) first new All [] halt c.in_err-y.ensures.halted.jam tt tt))

pub returns-in_err-e-clause-told : goal.returns-in_err-e-clause-told
returns-in_err-e-clause-told g c = λ game a j same goal_in base_is asms_are.
    let kept = g.G.Regions.kept in
    let first = kept c.args.g.now in
    let k = kept c.loop-e.g in
    let new = kept c.one_value.new.g in
    let inv = c.loop-e.invariant in
    let y = k.set c.loop-e.y in
    let m = moment_at game a j y in
    let halt = c.in_err-e.field-0.0 in
    let base_kept = set_kept first k c.args.base.now (g.met.G.Regions.exact _) (λ w. omega (arith, inv.made.held w)) c.requires.base in
    let asms_kept = sets_stay first k c.args.asms.now (g.met.G.Regions.exact _) (λ w. omega (arith, inv.made.held w)) c.requires.asms in
    let value_is = sym (value_here game a j y) in
    let now : AreOfHold game m a j (k.set c.args.base.now) y (map k.set c.args.asms.now) = record { goal_in = goal_in; base_is = base_kept ∙ base_is; value_is = value_is; asms_are = asms_kept ∙ asms_are } in
    let is = value_stands game first.game (layer_number game a) j inv.iterates.0 (first.set c.args.base.now) y (map first.set c.args.asms.now) same base_is asms_are inv.iterates.1 in
    handed_on c.from_residual-in_err-e.result halt (TellsHold game first new a j) c.from_residual-in_err-e.ensures.1
    (at_hold game first k new new a j y halt is
    (past_one game m first k new new c.loop-e.y y halt inv.made (iterated (value_named a j goal_in value_is)) refl (c.in_err-e.ensures.told game m a j (inv.same.game ∙ same) now)))
