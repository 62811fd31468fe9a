use Rattle.std.proofs.Common.{◌≡◌, [], ◌∷◌, sym, ◌∙◌, subst, ap, suc, refl, arith}
use Rattle.std.proofs.lemmas.Bool.{false≢true}
use Rattle.std.proofs.lemmas.Result.{IfOk-weaker, IfErr-weaker}
use Rattle.spec_model.proofs.Fixpoints.{IsFalling}
use Rattle.regions.specs.Kept.{MakesRegion, Or, States}
use Rattle.regions.proofs.Holding.{made_is}
use Rattle.gr1_sys.specs.Held.{waiting}
use Rattle.gr1_sys.proofs.Holdings.{same_then}
use Rattle.gr1_sys.proofs.Waits.{waiting-first, waiting-next, waiting-fewer, waiting-last, waiting-never, turned, still}
use Rattle.gr1_sys.specs.Moment.{iterated, part, part_iterate, based, lapse}
use Rattle.gr1_sys.specs.Told.{TellsHalt}
use Rattle.gr1_sys.proofs.Told.{handed_on, past_one, told}
use Rattle.gr1_sys.proofs.Naming.{part_iterated, part_still}
use Rattle.gr1_sys.proofs.parts.greatest_part.Goals as goal

pub returns-then-same-clause-made : goal.returns-then-same-clause-made
returns-then-same-clause-made g c =
    let kept = g.G.Regions.kept in
    let first = kept c.args.g.now in
    let new = kept c.or.new.self in
    let never = c.same.ensures.0 c.if-same.true ∙ c.requires.none.1 in
    let is = waiting-never first.game (first.set c.args.base.now) (first.set c.args.lapse.now) (g.met.G.Regions.proper c.args.g.now c.args.base.now c.requires.base) never in
    IfOk-weaker c.or.result _ _ (λ r made. subst (MakesRegion first new r) is made) c.or.ensures.made

pub returns-then-same-clause-told : goal.returns-then-same-clause-told
returns-then-same-clause-told g c = λ z j r i are.
    let kept = g.G.Regions.kept in
    let first = kept c.args.g.now in
    let new = kept c.or.new.self in
    IfErr-weaker c.or.result _ _
    (λ halt halts. told first new z Or (States (first.set c.args.base.now) ∷ States (first.set c.args.lapse.now) ∷ []) halt halts.jam
    (based j r are.goal_in are.base_is, (lapse i are.index_in are.away_is, tt)) tt) c.or.ensures.halted

pub loop-next-init : goal.loop-next-init
loop-next-init g c =
    let kept = g.G.Regions.kept in
    let first = kept c.args.g.now in
    let is = made_is first (kept c.all_states.new.g) c.in_ok-x.x _ (g.met.G.Regions.exact _) c.in_ok-x.ensures.made in
    record {
      made = is.1;
      same = c.all_states.ensures.keeps;
      falling = subst (IsFalling first.game (waiting first.game (first.set c.args.base.now) (first.set c.args.lapse.now))) (sym is.0) (waiting-first first.game (first.set c.args.base.now) (first.set c.args.lapse.now) (g.met.G.Regions.proper c.args.g.now c.args.base.now c.requires.base));
      iterates = (0, is.0);
    }

pub loop-next-preserved : goal.loop-next-preserved
loop-next-preserved g c =
    let kept = g.G.Regions.kept in
    let first = kept c.args.g.now in
    let k = kept c.loop-next.g in
    let inv = c.loop-next.invariant in
    let is = turned first k (kept c.next_part.new.g) c.loop-next.x c.in_ok-next.next c.args.base.now c.args.lapse.now (g.met.G.Regions.exact _) (g.met.G.Regions.exact _) inv.made inv.same c.requires.base c.requires.lapse c.in_ok-next.ensures.made in
    record {
      made = is.1;
      same = same_then first k (kept c.next_part.new.g) inv.same c.next_part.ensures.keeps;
      falling = subst (IsFalling first.game (waiting first.game (first.set c.args.base.now) (first.set c.args.lapse.now))) (sym is.0)
          (waiting-next first.game (first.set c.args.base.now) (first.set c.args.lapse.now) (g.met.G.Regions.proper c.args.g.now c.args.base.now c.requires.base) (k.set c.loop-next.x) inv.falling);
      iterates = (suc inv.iterates.0, is.0 ∙ ap (waiting first.game (first.set c.args.base.now) (first.set c.args.lapse.now)) inv.iterates.1);
    }

pub loop-next-smaller : goal.loop-next-smaller
loop-next-smaller g c =
    let kept = g.G.Regions.kept in
    let first = kept c.args.g.now in
    let k = kept c.loop-next.g in
    let inv = c.loop-next.invariant in
    let is = turned first k (kept c.next_part.new.g) c.loop-next.x c.in_ok-next.next c.args.base.now c.args.lapse.now (g.met.G.Regions.exact _) (g.met.G.Regions.exact _) inv.made inv.same c.requires.base c.requires.lapse c.in_ok-next.ensures.made in
    let value_is = still first k c.loop-next.x c.args.base.now c.args.lapse.now (g.met.G.Regions.exact _) inv.made inv.same c.requires.base c.requires.lapse in
    let unsettled : k.set c.loop-next.x ≡ waiting first.game (first.set c.args.base.now) (first.set c.args.lapse.now) (k.set c.loop-next.x) → ⊥ = λ e. false≢true (sym c.if-settled.false ∙ c.in_ok-next.ensures.settled.1 (e ∙ sym value_is)) in
    let fewer = waiting-fewer first.game (first.set c.args.base.now) (first.set c.args.lapse.now) (g.met.G.Regions.proper c.args.g.now c.args.base.now c.requires.base) (k.set c.loop-next.x) inv.falling unsettled in
    rw (is.0, c.next_part.ensures.keeps.game, inv.same.game) fewer

pub returns-then-settled-clause-made : goal.returns-then-settled-clause-made
returns-then-settled-clause-made g c =
    let kept = g.G.Regions.kept in
    let first = kept c.args.g.now in
    let k = kept c.loop-next.g in
    let inv = c.loop-next.invariant in
    let is = turned first k (kept c.next_part.new.g) c.loop-next.x c.in_ok-next.next c.args.base.now c.args.lapse.now (g.met.G.Regions.exact _) (g.met.G.Regions.exact _) inv.made inv.same c.requires.base c.requires.lapse c.in_ok-next.ensures.made in
    let value_is = still first k c.loop-next.x c.args.base.now c.args.lapse.now (g.met.G.Regions.exact _) inv.made inv.same c.requires.base c.requires.lapse in
    let settled = c.in_ok-next.ensures.settled.0 c.if-settled.true ∙ value_is in
    let last = waiting-last first.game (first.set c.args.base.now) (first.set c.args.lapse.now) (g.met.G.Regions.proper c.args.g.now c.args.base.now c.requires.base) (k.set c.loop-next.x) inv.falling settled in
    subst (λ t. MakesRegion first (kept c.next_part.new.g) c.in_ok-next.next t) (is.0 ∙ (sym settled ∙ last)) is.1

pub returns-in_err-x-clause-told : goal.returns-in_err-x-clause-told
returns-in_err-x-clause-told g c = λ z j r i are.
    let kept = g.G.Regions.kept in
    handed_on c.from_residual.result c.in_err-x.field-0.0 (TellsHalt (kept c.args.g.now) (kept c.all_states.new.g) z) c.from_residual.ensures.1 (c.in_err-x.ensures.told z)

pub returns-in_err-next-clause-told : goal.returns-in_err-next-clause-told
returns-in_err-next-clause-told g c = λ z j r i are.
    let kept = g.G.Regions.kept in
    let first = kept c.args.g.now in
    let k = kept c.loop-next.g in
    let inv = c.loop-next.invariant in
    let n = inv.iterates.0 in
    let is = part_iterated first.game z j r i n (first.set c.args.base.now) (first.set c.args.lapse.now) (k.set c.loop-next.x) are inv.iterates.1 in
    let here = part_still first k z j r i c.args.base.now c.args.lapse.now (g.met.G.Regions.exact _) inv.same.game (λ w. omega (arith, inv.made.held w)) c.requires.base c.requires.lapse are in
    handed_on c.from_residual-in_err-next.result c.in_err-next.field-0.0 (TellsHalt first (kept c.next_part.new.g) z) c.from_residual-in_err-next.ensures.1
    (past_one first k (kept c.next_part.new.g) (kept c.next_part.new.g) z c.loop-next.x (k.set c.loop-next.x) c.in_err-next.field-0.0 inv.same.game inv.made (iterated (part j r i n are.goal_in are.index_in is)) refl
    (c.in_err-next.ensures.told z j r i n here (is ∙ ap (λ h. part_iterate h z j r i n) (sym inv.same.game))))
