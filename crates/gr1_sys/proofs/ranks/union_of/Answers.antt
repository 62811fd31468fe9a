use Rattle.std.proofs.Common.{◌≡◌, suc, ◌+◌, subst, sym, arith, ◌∙◌, [], length}
use Rattle.spec_model.specs.Sets.{either}
use Rattle.regions.specs.Kept.{MakesRegion}
use Rattle.gr1_law.specs.Layers.{union}
use Rattle.gr1_sys.specs.Held.{set_at}
use Rattle.gr1_sys.proofs.Holdings.{on_err, same_then, dropped, replaced_as}
use Rattle.gr1_sys.proofs.Lists.{one_of, set_at_is, region_stays}
use Rattle.regions.specs.Kept.{NoStates, Or}
use Rattle.gr1_sys.specs.Solution.{part_of, layer_of}
use Rattle.gr1_sys.specs.Moment.{IsNamed}
use Rattle.gr1_sys.specs.Told.{TellsHalt}
use Rattle.gr1_sys.proofs.Told.{handed_on, told, joined_told}
use Rattle.gr1_sys.proofs.Naming.{set_of_list, part_named, union_named}
use Rattle.gr1_sys.proofs.ranks.union_of.Goals as goal

pub or_in-requires-clause-b : goal.or_in-requires-clause-b
or_in-requires-clause-b g c =
    let kept = g.G.Regions.kept in
    region_stays (kept c.args.g.now) (kept c.loop-x.g) c.x-item.result (λ w. omega (arith, c.loop-x.invariant.made.held w)) (one_of (kept c.args.g.now) c.args.xs.now c.loop-x.x-index c.x-item.result c.requires.xs c.loop-x-test.true c.x-item.is)

pub returns-in_err-joined-2-clause-halted : goal.returns-in_err-joined-2-clause-halted
returns-in_err-joined-2-clause-halted g c =
    let kept = g.G.Regions.kept in
    on_err _ (dropped (kept c.args.g.now) (kept c.loop-x.g) (kept c.or_in.new.g) c.loop-x.joined _ (g.met.G.Regions.exact _) c.loop-x.invariant.made c.in_err-joined-2.ensures.halted)

pub loop-x-preserved : goal.loop-x-preserved
loop-x-preserved g c =
    let kept = g.G.Regions.kept in
    let first = kept c.args.g.now in
    let here = one_of first c.args.xs.now c.loop-x.x-index c.x-item.result c.requires.xs c.loop-x-test.true c.x-item.is in
    let sofar = union (set_at first c.args.xs.now) c.loop-x.x-index in
    let made = replaced_as first (kept c.loop-x.g) (kept c.or_in.new.g) c.loop-x.joined c.in_ok-joined-2.joined c.x-item.result sofar either (g.met.G.Regions.exact _) here c.loop-x.invariant.made c.in_ok-joined-2.ensures.made in
    let next : c.loop-x.x-index + 1 ≡ suc c.loop-x.x-index = omega arith in
    record {
      made = subst (λ n. MakesRegion first (kept c.or_in.new.g) c.in_ok-joined-2.joined (union (set_at first c.args.xs.now) n)) (sym next)
          (subst (λ t. MakesRegion first (kept c.or_in.new.g) c.in_ok-joined-2.joined (either sofar t)) (sym (set_at_is first c.args.xs.now c.loop-x.x-index c.x-item.result c.loop-x-test.true c.x-item.is)) made);
      same = same_then first (kept c.loop-x.g) (kept c.or_in.new.g) c.loop-x.invariant.same c.or_in.ensures.keeps;
    }

pub returns-in_err-joined-clause-told : goal.returns-in_err-joined-clause-told
returns-in_err-joined-clause-told g c = λ z j r n goal_in few are.
    let kept = g.G.Regions.kept in
    let k = kept c.args.g.now in
    handed_on c.from_residual.result c.in_err-joined.field-0.0 (TellsHalt k (kept c.none.new.self) z) c.from_residual.ensures.1
    (told k (kept c.none.new.self) z NoStates [] c.in_err-joined.field-0.0 c.in_err-joined.ensures.halted.jam tt tt)

pub returns-in_err-joined-2-clause-told : goal.returns-in_err-joined-2-clause-told
returns-in_err-joined-2-clause-told g c = λ z j r n goal_in few are.
    let kept = g.G.Regions.kept in
    let first = kept c.args.g.now in
    let i = c.loop-x.x-index in
    let inv = c.loop-x.invariant in
    let here = one_of first c.args.xs.now i c.x-item.result c.requires.xs c.loop-x-test.true c.x-item.is in
    let sets = set_of_list first c.args.xs.now (part_of first.game z (layer_of first.game z j r) j) n are in
    let x_is = sym (set_at_is first c.args.xs.now i c.x-item.result c.loop-x-test.true c.x-item.is) ∙ sets i c.loop-x-test.true in
    handed_on c.from_residual-in_err-joined-2.result c.in_err-joined-2.field-0.0 (TellsHalt first (kept c.or_in.new.g) z) c.from_residual-in_err-joined-2.ensures.1
    (joined_told first (kept c.loop-x.g) (kept c.or_in.new.g) z c.loop-x.joined c.x-item.result (union (set_at first c.args.xs.now) i) Or c.in_err-joined-2.field-0.0 (g.met.G.Regions.exact _) inv.same.game here inv.made
    (union_named first.game z (set_at first c.args.xs.now) j r i (length c.args.xs.now) goal_in few sets (omega (arith, c.loop-x-test.true))) (subst (IsNamed first.game z) (sym x_is) (part_named first.game z j r i goal_in (omega (arith, few, c.loop-x-test.true)))) tt c.in_err-joined-2.ensures.told)
