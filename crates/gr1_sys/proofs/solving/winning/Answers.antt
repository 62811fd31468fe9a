use Rattle.std.proofs.Common.{◌∙◌, ap, sym, subst, arith, refl, suc}
use Rattle.spec_model.proofs.Fixpoints.{IsFalling, falling-first, falling-next, falling-fewer}
use Rattle.regions.proofs.Holding.{made_is, replaced_is}
use Rattle.gr1_sys.specs.Solution.{following}
use Rattle.gr1_sys.specs.Solved.{Steps}
use Rattle.gr1_sys.proofs.Holdings.{same_then}
use Rattle.gr1_sys.proofs.Lists.{set_kept}
use Rattle.gr1_sys.proofs.Parted.{given_stays}
use Rattle.gr1_sys.proofs.Winning.{following-grows, following-inside}
use Rattle.gr1_sys.proofs.Won.{won_is}
use Rattle.spec_model.specs.Sets.{all_states}
use Rattle.gr1_sys.specs.Moment.{IsValueOfZ, iterated, this_value}
use Rattle.gr1_sys.specs.Told.{TellsOneMoment}
use Rattle.gr1_sys.proofs.Told.{handed_on, past_one, of_value}
use Rattle.gr1_sys.proofs.solving.winning.Goals as goal

pub loop-z-init : goal.loop-z-init
loop-z-init g c =
    let kept = g.G.Regions.kept in
    let first = kept c.args.g.now in
    let is = made_is first (kept c.all_states.new.g) c.in_ok-z.z _ (g.met.G.Regions.exact _) c.in_ok-z.ensures.made in
    record {
      made = is.1;
      same = c.all_states.ensures.keeps;
      falling = subst (IsFalling first.game (following first.game)) (sym is.0) (falling-first first.game (following first.game) (following-grows first.game) (following-inside first.game));
      value = (0, is.0);
    }

pub one_round-requires-clause-given : goal.one_round-requires-clause-given
one_round-requires-clause-given g c =
    let kept = g.G.Regions.kept in
    given_stays (kept c.args.g.now) (kept c.loop-z.g) c.args.given.now (g.met.G.Regions.exact _) c.loop-z.invariant.same (λ w. omega (arith, c.loop-z.invariant.made.held w)) c.requires.given

pub loop-z-preserved : goal.loop-z-preserved
loop-z-preserved g c =
    let kept = g.G.Regions.kept in
    let first = kept c.args.g.now in
    let k = kept c.loop-z.g in
    let new = kept c.one_round.new.g in
    let inv = c.loop-z.invariant in
    let steps = subst (Steps k new c.loop-z.z (k.set c.loop-z.z)) c.in-Next.is c.in_ok-z-2.ensures.steps in
    let is = replaced_is first k new c.loop-z.z c.in-Next.next (following k.game (k.set c.loop-z.z)) (g.met.G.Regions.exact _) inv.made steps.0 in
    let next_is = is.0 ∙ ap (λ h. following h (k.set c.loop-z.z)) inv.same.game in
    record {
      made = is.1;
      same = same_then first k new inv.same c.one_round.ensures.keeps;
      falling = subst (IsFalling first.game (following first.game)) (sym next_is) (falling-next first.game (following first.game) (following-grows first.game) (following-inside first.game) (k.set c.loop-z.z) inv.falling);
      value = (suc inv.value.0, next_is ∙ ap (following first.game) inv.value.1);
    }

pub loop-z-smaller : goal.loop-z-smaller
loop-z-smaller g c =
    let kept = g.G.Regions.kept in
    let first = kept c.args.g.now in
    let k = kept c.loop-z.g in
    let new = kept c.one_round.new.g in
    let inv = c.loop-z.invariant in
    let steps = subst (Steps k new c.loop-z.z (k.set c.loop-z.z)) c.in-Next.is c.in_ok-z-2.ensures.steps in
    let is = replaced_is first k new c.loop-z.z c.in-Next.next (following k.game (k.set c.loop-z.z)) (g.met.G.Regions.exact _) inv.made steps.0 in
    let next_is = is.0 ∙ ap (λ h. following h (k.set c.loop-z.z)) inv.same.game in
    let fewer = falling-fewer first.game (following first.game) (following-grows first.game) (following-inside first.game) (k.set c.loop-z.z) inv.falling (λ e. steps.1 (e ∙ ap (λ h. following h (k.set c.loop-z.z)) (sym inv.same.game))) in
    rw (next_is, c.one_round.ensures.keeps.game, inv.same.game) fewer

pub returns-in-Settled-clause-won : goal.returns-in-Settled-clause-won
returns-in-Settled-clause-won g c =
    let kept = g.G.Regions.kept in
    let first = kept c.args.g.now in
    let k = kept c.loop-z.g in
    let new = kept c.one_round.new.g in
    let inv = c.loop-z.invariant in
    let steps = subst (Steps k new c.loop-z.z (k.set c.loop-z.z)) c.in-Settled.is c.in_ok-z-2.ensures.steps in
    won_is first k new c.loop-z.z c.in-Settled.z c.in-Settled.goals.items (g.met.G.Regions.exact _) inv.same.game inv.made inv.falling steps.0 steps.1

pub returns-in-Settled-clause-value : goal.returns-in-Settled-clause-value
returns-in-Settled-clause-value g c =
    let kept = g.G.Regions.kept in
    let first = kept c.args.g.now in
    let k = kept c.loop-z.g in
    let new = kept c.one_round.new.g in
    let inv = c.loop-z.invariant in
    let steps = subst (Steps k new c.loop-z.z (k.set c.loop-z.z)) c.in-Settled.is c.in_ok-z-2.ensures.steps in
    let same = set_kept k new c.loop-z.z (g.met.G.Regions.exact _) (λ w. omega (arith, steps.1.1.0.held w)) (λ w. omega (arith, inv.made.held (λ i m. w i))) in
    subst (λ r. IsValueOfZ first.game (new.set r)) (sym steps.0) (subst (IsValueOfZ first.game) (sym same) inv.value)

pub returns-in_err-z-clause-told : goal.returns-in_err-z-clause-told
returns-in_err-z-clause-told g c =
    let kept = g.G.Regions.kept in
    let k = kept c.args.g.now in
    let new = kept c.all_states.new.g in
    let halt = c.in_err-z.field-0.0 in
    handed_on c.from_residual.result halt (TellsOneMoment k new) c.from_residual.ensures.1
    (of_value k new (all_states k.game) halt (0, refl) (c.in_err-z.ensures.told (all_states k.game)))

pub returns-in_err-z-2-clause-told : goal.returns-in_err-z-2-clause-told
returns-in_err-z-2-clause-told g c =
    let kept = g.G.Regions.kept in
    let first = kept c.args.g.now in
    let k = kept c.loop-z.g in
    let new = kept c.one_round.new.g in
    let inv = c.loop-z.invariant in
    let z = k.set c.loop-z.z in
    let halt = c.in_err-z-2.field-0.0 in
    handed_on c.from_residual-in_err-z-2.result halt (TellsOneMoment first new) c.from_residual-in_err-z-2.ensures.1
    (of_value first new z halt inv.value (past_one first k new new z c.loop-z.z z halt inv.same.game inv.made (iterated (this_value refl)) refl c.in_err-z-2.ensures.told))
