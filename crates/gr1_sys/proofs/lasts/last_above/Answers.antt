use Rattle.std.proofs.Common.{◌∙◌, ◌≡◌, suc, [], subst, sym, refl, arith}
use Rattle.std.proofs.lemmas.Bool.{false≢true}
use Rattle.regions.specs.Kept.{NoStates, MakesRegion}
use Rattle.gr1_sys.specs.Solution.{layer_of}
use Rattle.gr1_sys.specs.Moment.{IsGoal, iterated, layer}
use Rattle.gr1_sys.specs.Told.{TellsHalt}
use Rattle.gr1_sys.proofs.Holdings.{on_err, same_then, dropped}
use Rattle.gr1_sys.proofs.Lists.{region_stays}
use Rattle.gr1_sys.proofs.Parted.{given_stays}
use Rattle.gr1_sys.proofs.Told.{handed_on, told, past_one}
use Rattle.gr1_sys.proofs.Counted.{at_layer, climbs_on, climbs_last, layers_fewer, unsettled_on, made_gone}
use Rattle.gr1_sys.proofs.lasts.last_above.Goals as goal

pub returns-in_err-y-clause-told : goal.returns-in_err-y-clause-told
returns-in_err-y-clause-told g c = λ z j goal_in reach_is.
    let kept = g.G.Regions.kept in
    let k = kept c.args.g.now in
    handed_on c.from_residual.result c.in_err-y.field-0.0 (TellsHalt k (kept c.none.new.self) z) c.from_residual.ensures.1
    (told k (kept c.none.new.self) z NoStates [] c.in_err-y.field-0.0 c.in_err-y.ensures.halted.jam tt tt)

pub climb-requires-clause-free : goal.climb-requires-clause-free
climb-requires-clause-free g c = let r = c.requires.reaches in (c.loop-next.invariant.made r.0 r.1.0 r.1.1).jam

pub climb-requires-clause-reach : goal.climb-requires-clause-reach
climb-requires-clause-reach g c =
    let kept = g.G.Regions.kept in
    let r = c.requires.reaches in
    let made = c.loop-next.invariant.made r.0 r.1.0 r.1.1 in
    region_stays (kept c.args.g.now) (kept c.loop-next.g) c.args.reach.now (λ w. omega (arith, made.held w)) c.requires.reach

pub climb-requires-clause-y : goal.climb-requires-clause-y
climb-requires-clause-y g c = let r = c.requires.reaches in let made = c.loop-next.invariant.made r.0 r.1.0 r.1.1 in λ w. omega (arith, made.held (λ i m. w i))

pub climb-requires-clause-layer : goal.climb-requires-clause-layer
climb-requires-clause-layer g c =
    let kept = g.G.Regions.kept in
    let r = c.requires.reaches in
    let inv = c.loop-next.invariant in
    (r.0, (r.1.0, (c.loop-next.n, at_layer (kept c.args.g.now) (kept c.loop-next.g) c.args.reach.now c.loop-next.y r.0 r.1.0 c.loop-next.n (g.met.G.Regions.exact _) inv.same.game c.requires.reach (inv.made r.0 r.1.0 r.1.1) r.1.1)))

pub climb-requires-clause-given : goal.climb-requires-clause-given
climb-requires-clause-given g c =
    let kept = g.G.Regions.kept in
    let r = c.requires.reaches in
    let made = c.loop-next.invariant.made r.0 r.1.0 r.1.1 in
    given_stays (kept c.args.g.now) (kept c.loop-next.g) c.args.given.now (g.met.G.Regions.exact _) c.loop-next.invariant.same (λ w. omega (arith, made.held w)) c.requires.given

pub returns-in_err-next-clause-halted : goal.returns-in_err-next-clause-halted
returns-in_err-next-clause-halted g c =
    let kept = g.G.Regions.kept in
    let r = c.requires.reaches in
    on_err _ (dropped (kept c.args.g.now) (kept c.loop-next.g) (kept c.climb.new.g) c.loop-next.y _ (g.met.G.Regions.exact _) (c.loop-next.invariant.made r.0 r.1.0 r.1.1) c.in_err-next.ensures.halted)

pub returns-in_err-next-clause-told : goal.returns-in_err-next-clause-told
returns-in_err-next-clause-told g c = λ z j goal_in reach_is.
    let kept = g.G.Regions.kept in
    let first = kept c.args.g.now in
    let k = kept c.loop-next.g in
    let new = kept c.climb.new.g in
    let inv = c.loop-next.invariant in
    let n = c.loop-next.n in
    let made = inv.made z j reach_is in
    let at = at_layer first k c.args.reach.now c.loop-next.y z j n (g.met.G.Regions.exact _) inv.same.game c.requires.reach made reach_is in
    handed_on c.from_residual-in_err-next.result c.in_err-next.field-0.0 (TellsHalt first new z) c.from_residual-in_err-next.ensures.1
    (past_one first k new new z c.loop-next.y (layer_of first.game z j n) c.in_err-next.field-0.0 inv.same.game made (iterated (layer j n goal_in refl)) refl
    (c.in_err-next.ensures.told z j n (subst (λ h. IsGoal h j) (sym inv.same.game) goal_in) at))

pub returns-then-settled-clause-last : goal.returns-then-settled-clause-last
returns-then-settled-clause-last g c = λ z j reach_is.
    let kept = g.G.Regions.kept in
    let first = kept c.args.g.now in
    let k = kept c.loop-next.g in
    let new = kept c.climb.new.g in
    let inv = c.loop-next.invariant in
    let n = c.loop-next.n in
    let made = inv.made z j reach_is in
    let at = at_layer first k c.args.reach.now c.loop-next.y z j n (g.met.G.Regions.exact _) inv.same.game c.requires.reach made reach_is in
    let on = climbs_on first k new c.loop-next.y c.in_ok-next.next z j n c.in_ok-next.settled (g.met.G.Regions.exact _) (g.met.G.Regions.exact _) inv.same.game made (c.in_ok-next.ensures.climbed z j n at) in
    climbs_last first new c.in_ok-next.next z j n on.0 (on.1.0 c.if-settled.true) (inv.unsettled z j reach_is)

pub loop-next-smaller : goal.loop-next-smaller
loop-next-smaller g c =
    let kept = g.G.Regions.kept in
    let first = kept c.args.g.now in
    let k = kept c.loop-next.g in
    let new = kept c.climb.new.g in
    let inv = c.loop-next.invariant in
    let n = c.loop-next.n in
    let r = c.requires.reaches in
    let made = inv.made r.0 r.1.0 r.1.1 in
    let at = at_layer first k c.args.reach.now c.loop-next.y r.0 r.1.0 n (g.met.G.Regions.exact _) inv.same.game c.requires.reach made r.1.1 in
    let on = climbs_on first k new c.loop-next.y c.in_ok-next.next r.0 r.1.0 n c.in_ok-next.settled (g.met.G.Regions.exact _) (g.met.G.Regions.exact _) inv.same.game made (c.in_ok-next.ensures.climbed r.0 r.1.0 n at) in
    let fewer = layers_fewer first k new c.loop-next.y c.in_ok-next.next r.0 r.1.0 n (g.met.G.Regions.exact _) (g.met.G.Regions.exact _) made on.0 (λ e. false≢true (sym c.if-settled.false ∙ on.1.1 e)) in
    rw (c.climb.ensures.keeps.game, inv.same.game) fewer

pub loop-next-preserved : goal.loop-next-preserved
loop-next-preserved g c =
    let kept = g.G.Regions.kept in
    let first = kept c.args.g.now in
    let k = kept c.loop-next.g in
    let new = kept c.climb.new.g in
    let inv = c.loop-next.invariant in
    let n = c.loop-next.n in
    let next : c.in-Some.more ≡ suc n = omega (arith, c.in-Some.ensures) in
    record {
      made = λ z j reach_is.
          let made = inv.made z j reach_is in
          let at = at_layer first k c.args.reach.now c.loop-next.y z j n (g.met.G.Regions.exact _) inv.same.game c.requires.reach made reach_is in
          let on = climbs_on first k new c.loop-next.y c.in_ok-next.next z j n c.in_ok-next.settled (g.met.G.Regions.exact _) (g.met.G.Regions.exact _) inv.same.game made (c.in_ok-next.ensures.climbed z j n at) in
          subst (λ m. MakesRegion first new c.in_ok-next.next (layer_of first.game z j m)) (sym next) on.0;
      unsettled = λ z j reach_is.
          let made = inv.made z j reach_is in
          let at = at_layer first k c.args.reach.now c.loop-next.y z j n (g.met.G.Regions.exact _) inv.same.game c.requires.reach made reach_is in
          let on = climbs_on first k new c.loop-next.y c.in_ok-next.next z j n c.in_ok-next.settled (g.met.G.Regions.exact _) (g.met.G.Regions.exact _) inv.same.game made (c.in_ok-next.ensures.climbed z j n at) in
          unsettled_on first.game z j n c.in-Some.more next (inv.unsettled z j reach_is) (λ e. false≢true (sym c.if-settled.false ∙ on.1.1 e));
      same = same_then first k new inv.same c.climb.ensures.keeps;
    }

pub spend-requires : goal.spend-requires
spend-requires g c =
    let kept = g.G.Regions.kept in
    let first = kept c.args.g.now in
    let k = kept c.loop-next.g in
    let inv = c.loop-next.invariant in
    let n = c.loop-next.n in
    let r = c.requires.reaches in
    let made = inv.made r.0 r.1.0 r.1.1 in
    let at = at_layer first k c.args.reach.now c.loop-next.y r.0 r.1.0 n (g.met.G.Regions.exact _) inv.same.game c.requires.reach made r.1.1 in
    let on = climbs_on first k (kept c.climb.new.g) c.loop-next.y c.in_ok-next.next r.0 r.1.0 n c.in_ok-next.settled (g.met.G.Regions.exact _) (g.met.G.Regions.exact _) inv.same.game made (c.in_ok-next.ensures.climbed r.0 r.1.0 n at) in
    λ w. omega (arith, on.0.held (λ i m. w i))

pub returns-in-None-clause-halted : goal.returns-in-None-clause-halted
returns-in-None-clause-halted g c =
    let kept = g.G.Regions.kept in
    let first = kept c.args.g.now in
    let k = kept c.loop-next.g in
    let inv = c.loop-next.invariant in
    let n = c.loop-next.n in
    let r = c.requires.reaches in
    let made = inv.made r.0 r.1.0 r.1.1 in
    let at = at_layer first k c.args.reach.now c.loop-next.y r.0 r.1.0 n (g.met.G.Regions.exact _) inv.same.game c.requires.reach made r.1.1 in
    let on = climbs_on first k (kept c.climb.new.g) c.loop-next.y c.in_ok-next.next r.0 r.1.0 n c.in_ok-next.settled (g.met.G.Regions.exact _) (g.met.G.Regions.exact _) inv.same.game made (c.in_ok-next.ensures.climbed r.0 r.1.0 n at) in
    (made_gone first (kept c.climb.new.g) (kept c.spend.new.self) c.in_ok-next.next _ (g.met.G.Regions.exact _) on.0 c.spend.ensures.spends).0

pub returns-in-None-clause-told : goal.returns-in-None-clause-told
returns-in-None-clause-told g c = λ z j goal_in reach_is.
    let kept = g.G.Regions.kept in
    let first = kept c.args.g.now in
    let k = kept c.loop-next.g in
    let inv = c.loop-next.invariant in
    let n = c.loop-next.n in
    let made = inv.made z j reach_is in
    let at = at_layer first k c.args.reach.now c.loop-next.y z j n (g.met.G.Regions.exact _) inv.same.game c.requires.reach made reach_is in
    let on = climbs_on first k (kept c.climb.new.g) c.loop-next.y c.in_ok-next.next z j n c.in_ok-next.settled (g.met.G.Regions.exact _) (g.met.G.Regions.exact _) inv.same.game made (c.in_ok-next.ensures.climbed z j n at) in
    (made_gone first (kept c.climb.new.g) (kept c.spend.new.self) c.in_ok-next.next _ (g.met.G.Regions.exact _) on.0 c.spend.ensures.spends).1
