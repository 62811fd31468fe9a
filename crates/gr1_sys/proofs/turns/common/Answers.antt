use Rattle.std.proofs.Common.{◌≡◌, ◌∙◌, ◌+◌, suc, ap, subst, sym, arith, [], length}
use Rattle.spec_model.specs.Sets.{both}
use Rattle.regions.specs.Kept.{HasRegion, MakesRegion}
use Rattle.gr1_sys.specs.Solution.{meet}
use Rattle.gr1_sys.specs.Held.{HasEach, goal_regions, last_region, last_set}
use Rattle.gr1_sys.proofs.Holdings.{on_err, same_then, dropped, replaced_as}
use Rattle.gr1_sys.proofs.Lists.{region_stays}
use Rattle.gr1_sys.proofs.Climbed.{last_region_held}
use Rattle.gr1_sys.proofs.Turned.{each_goal, last_set_is}
use Rattle.spec_model.specs.Steps.{states_of}
use Rattle.regions.specs.Kept.{All, And}
use Rattle.gr1_sys.specs.Moment.{iterated, layer}
use Rattle.gr1_sys.specs.Told.{TellsHalt}
use Rattle.gr1_sys.proofs.Told.{handed_on, told, joined_told}
use Rattle.gr1_sys.proofs.Naming.{meet_named}
use Rattle.gr1_sys.proofs.turns.common.Goals as goal

pub and_in-requires-clause-b : goal.and_in-requires-clause-b
and_in-requires-clause-b g c =
    let kept = g.G.Regions.kept in
    let first = kept c.args.g.now in
    let item = c.layers-item.result in
    let each = subst (λ v. HasEach first (goal_regions v.items)) (sym c.layers-item.is) (each_goal first c.args.goals.now c.loop-layers.layers-index item c.requires.goals c.loop-layers-test.true) in
    let last_is = c.last_layer.ensures ∙ ap (last_region c.args.none.now) c.deref.ensures.value in
    subst (HasRegion (kept c.loop-layers.g)) (sym last_is)
    (region_stays first (kept c.loop-layers.g) (last_region c.args.none.now item.items) (λ w. omega (arith, c.loop-layers.invariant.made.held w)) (last_region_held first c.args.none.now item.items c.requires.none each))

pub returns-in_err-met-2-clause-halted : goal.returns-in_err-met-2-clause-halted
returns-in_err-met-2-clause-halted g c =
    let kept = g.G.Regions.kept in
    on_err _ (dropped (kept c.args.g.now) (kept c.loop-layers.g) (kept c.and_in.new.g) c.loop-layers.met _ (g.met.G.Regions.exact _) c.loop-layers.invariant.made c.in_err-met-2.ensures.halted)

pub loop-layers-preserved : goal.loop-layers-preserved
loop-layers-preserved g c =
    let kept = g.G.Regions.kept in
    let first = kept c.args.g.now in
    let new = kept c.and_in.new.g in
    let item = c.layers-item.result in
    let each = subst (λ v. HasEach first (goal_regions v.items)) (sym c.layers-item.is) (each_goal first c.args.goals.now c.loop-layers.layers-index item c.requires.goals c.loop-layers-test.true) in
    let last_is = c.last_layer.ensures ∙ ap (last_region c.args.none.now) c.deref.ensures.value in
    let here = subst (HasRegion first) (sym last_is) (last_region_held first c.args.none.now item.items c.requires.none each) in
    let sofar = meet first.game (last_set first c.args.none.now c.args.goals.now) c.loop-layers.layers-index in
    let made = replaced_as first (kept c.loop-layers.g) new c.loop-layers.met c.in_ok-met-2.met c.last_layer.result.now sofar both (g.met.G.Regions.exact _) here c.loop-layers.invariant.made c.in_ok-met-2.ensures.made in
    let next : c.loop-layers.layers-index + 1 ≡ suc c.loop-layers.layers-index = omega arith in
    let set_is = ap first.set last_is ∙ sym (last_set_is first c.args.none.now c.args.goals.now c.loop-layers.layers-index item c.loop-layers-test.true c.layers-item.is) in
    record {
      made = subst (λ n. MakesRegion first new c.in_ok-met-2.met (meet first.game (last_set first c.args.none.now c.args.goals.now) n)) (sym next)
          (subst (λ t. MakesRegion first new c.in_ok-met-2.met (both sofar t)) set_is made);
      same = same_then first (kept c.loop-layers.g) new c.loop-layers.invariant.same c.and_in.ensures.keeps;
    }

pub returns-in_err-met-clause-told : goal.returns-in_err-met-clause-told
returns-in_err-met-clause-told g c = λ z few lasts.
    let kept = g.G.Regions.kept in
    let k = kept c.args.g.now in
    handed_on c.from_residual.result c.in_err-met.field-0.0 (TellsHalt k (kept c.all.new.self) z) c.from_residual.ensures.1
    (told k (kept c.all.new.self) z All [] c.in_err-met.field-0.0 c.in_err-met.ensures.halted.jam tt tt)

pub returns-in_err-met-2-clause-told : goal.returns-in_err-met-2-clause-told
returns-in_err-met-2-clause-told g c = λ z few lasts.
    let kept = g.G.Regions.kept in
    let first = kept c.args.g.now in
    let new = kept c.and_in.new.g in
    let inv = c.loop-layers.invariant in
    let item = c.layers-item.result in
    let j = c.loop-layers.layers-index in
    let each = subst (λ v. HasEach first (goal_regions v.items)) (sym c.layers-item.is) (each_goal first c.args.goals.now j item c.requires.goals c.loop-layers-test.true) in
    let last_is = c.last_layer.ensures ∙ ap (last_region c.args.none.now) c.deref.ensures.value in
    let here = subst (HasRegion first) (sym last_is) (last_region_held first c.args.none.now item.items c.requires.none each) in
    let set_is = ap first.set last_is ∙ (sym (last_set_is first c.args.none.now c.args.goals.now j item c.loop-layers-test.true c.layers-item.is) ∙ lasts j c.loop-layers-test.true) in
    handed_on c.from_residual-in_err-met-2.result c.in_err-met-2.field-0.0 (TellsHalt first new z) c.from_residual-in_err-met-2.ensures.1
    (joined_told first (kept c.loop-layers.g) new z c.loop-layers.met c.last_layer.result.now (meet first.game (last_set first c.args.none.now c.args.goals.now) j) And c.in_err-met-2.field-0.0 (g.met.G.Regions.exact _) inv.same.game here inv.made
    (meet_named first.game z (last_set first c.args.none.now c.args.goals.now) j (length c.args.goals.now) few lasts (omega (arith, c.loop-layers-test.true))) (iterated (layer j (length (states_of first.game)) (omega (arith, few, c.loop-layers-test.true)) set_is)) tt c.in_err-met-2.ensures.told)
