use Rattle.std.proofs.Common.{◌∙◌, ap, sym, subst, arith, refl, suc}
use Rattle.std.proofs.lemmas.Bool.{false≢true}
use Rattle.spec_model.specs.Sets.{all_states}
use Rattle.spec_model.proofs.Fixpoints.{IsFalling, falling-first, falling-next, falling-fewer}
use Rattle.regions.proofs.Holding.{made_is, replaced_is}
use Rattle.gr1_sys.specs.Solution.{following}
use Rattle.gr1_sys.specs.Moment.{iterated, this_value}
use Rattle.gr1_sys.specs.Told.{TellsOneMoment}
use Rattle.gr1_sys.proofs.Holdings.{on_err, same_then, dropped}
use Rattle.gr1_sys.proofs.Parted.{given_stays}
use Rattle.gr1_sys.proofs.Winning.{following-grows, following-inside}
use Rattle.gr1_sys.proofs.Told.{handed_on, past_one, of_value}
use Rattle.gr1_sys.proofs.Counted.{has_counted}
use Rattle.gr1_sys.proofs.counting.winning.Goals as goal

pub loop-next-init : goal.loop-next-init
loop-next-init g c =
    let kept = g.G.Regions.kept in
    let first = kept c.args.g.now in
    let is = made_is first (kept c.all_states.new.g) c.in_ok-z.z _ (g.met.G.Regions.exact _) c.in_ok-z.ensures.made in
    record {
      made = is.1;
      same = c.all_states.ensures.keeps;
      falling = subst (IsFalling first.game (following first.game)) (sym is.0) (falling-first first.game (following first.game) (following-grows first.game) (following-inside first.game));
      value = (0, is.0);
    }

pub one_turn-requires-clause-free : goal.one_turn-requires-clause-free
one_turn-requires-clause-free g c = c.loop-next.invariant.made.jam

pub one_turn-requires-clause-z : goal.one_turn-requires-clause-z
one_turn-requires-clause-z g c = λ w. omega (arith, c.loop-next.invariant.made.held (λ i m. w i))

pub one_turn-requires-clause-given : goal.one_turn-requires-clause-given
one_turn-requires-clause-given g c =
    let kept = g.G.Regions.kept in
    given_stays (kept c.args.g.now) (kept c.loop-next.g) c.args.given.now (g.met.G.Regions.exact _) c.loop-next.invariant.same (λ w. omega (arith, c.loop-next.invariant.made.held w)) c.requires.given

pub returns-in_err-next-clause-halted : goal.returns-in_err-next-clause-halted
returns-in_err-next-clause-halted g c =
    let kept = g.G.Regions.kept in
    on_err _ (dropped (kept c.args.g.now) (kept c.loop-next.g) (kept c.one_turn.new.g) c.loop-next.z _ (g.met.G.Regions.exact _) c.loop-next.invariant.made c.in_err-next.ensures.halted)

pub returns-then-settled-clause-counted : goal.returns-then-settled-clause-counted
returns-then-settled-clause-counted g c =
    let kept = g.G.Regions.kept in
    let inv = c.loop-next.invariant in
    has_counted (kept c.args.g.now) (kept c.loop-next.g) (kept c.one_turn.new.g) c.loop-next.z c.in_ok-next.next c.in_ok-next.k c.in_ok-next.settled (g.met.G.Regions.exact _) inv.same.game inv.made inv.falling inv.value c.in_ok-next.ensures.turned c.if-settled.true

pub loop-next-preserved : goal.loop-next-preserved
loop-next-preserved g c =
    let kept = g.G.Regions.kept in
    let first = kept c.args.g.now in
    let k = kept c.loop-next.g in
    let new = kept c.one_turn.new.g in
    let inv = c.loop-next.invariant in
    let is = replaced_is first k new c.loop-next.z c.in_ok-next.next (following k.game (k.set c.loop-next.z)) (g.met.G.Regions.exact _) inv.made c.in_ok-next.ensures.turned.replaced in
    let next_is = is.0 ∙ ap (λ h. following h (k.set c.loop-next.z)) inv.same.game in
    record {
      made = is.1;
      same = same_then first k new inv.same c.one_turn.ensures.keeps;
      falling = subst (IsFalling first.game (following first.game)) (sym next_is) (falling-next first.game (following first.game) (following-grows first.game) (following-inside first.game) (k.set c.loop-next.z) inv.falling);
      value = (suc inv.value.0, next_is ∙ ap (following first.game) inv.value.1);
    }

pub loop-next-smaller : goal.loop-next-smaller
loop-next-smaller g c =
    let kept = g.G.Regions.kept in
    let first = kept c.args.g.now in
    let k = kept c.loop-next.g in
    let new = kept c.one_turn.new.g in
    let inv = c.loop-next.invariant in
    let turned = c.in_ok-next.ensures.turned in
    let is = replaced_is first k new c.loop-next.z c.in_ok-next.next (following k.game (k.set c.loop-next.z)) (g.met.G.Regions.exact _) inv.made turned.replaced in
    let next_is = is.0 ∙ ap (λ h. following h (k.set c.loop-next.z)) inv.same.game in
    let fewer = falling-fewer first.game (following first.game) (following-grows first.game) (following-inside first.game) (k.set c.loop-next.z) inv.falling (λ e. false≢true (sym c.if-settled.false ∙ turned.settles.1 (e ∙ ap (λ h. following h (k.set c.loop-next.z)) (sym inv.same.game)))) in
    rw (next_is, c.one_turn.ensures.keeps.game, inv.same.game) fewer

pub returns-in_err-z-clause-told : goal.returns-in_err-z-clause-told
returns-in_err-z-clause-told g c =
    let kept = g.G.Regions.kept in
    let k = kept c.args.g.now in
    let new = kept c.all_states.new.g in
    let halt = c.in_err-z.field-0.0 in
    handed_on c.from_residual.result halt (TellsOneMoment k new) c.from_residual.ensures.1
    (of_value k new (all_states k.game) halt (0, refl) (c.in_err-z.ensures.told (all_states k.game)))

pub returns-in_err-next-clause-told : goal.returns-in_err-next-clause-told
returns-in_err-next-clause-told g c =
    let kept = g.G.Regions.kept in
    let first = kept c.args.g.now in
    let k = kept c.loop-next.g in
    let new = kept c.one_turn.new.g in
    let inv = c.loop-next.invariant in
    let z = k.set c.loop-next.z in
    let halt = c.in_err-next.field-0.0 in
    handed_on c.from_residual-in_err-next.result halt (TellsOneMoment first new) c.from_residual-in_err-next.ensures.1
    (of_value first new z halt inv.value (past_one first k new new z c.loop-next.z z halt inv.same.game inv.made (iterated (this_value refl)) refl c.in_err-next.ensures.told))
