use Rattle.std.proofs.Common.{◌≡◌, ◌∙◌, ◌+◌, suc, ap, subst, sym, arith, [], length}
use Rattle.std.proofs.lemmas.List.{get_or-map}
use Rattle.spec_model.specs.Sets.{either, no_states}
use Rattle.regions.specs.Kept.{MakesRegion}
use Rattle.gr1_law.specs.Layers.{union}
use Rattle.gr1_sys.specs.Held.{HasEach}
use Rattle.gr1_env.specs.Held.{hold_regions, hold_set}
use Rattle.gr1_sys.proofs.Holdings.{on_err, same_then, dropped, replaced_as}
use Rattle.gr1_sys.proofs.Lists.{region_stays}
use Rattle.gr1_env.proofs.Gathered.{each_gathered}
use Rattle.regions.specs.Kept.{NoStates, Or}
use Rattle.gr1_sys.specs.Moment.{IsGoal}
use Rattle.gr1_env.specs.Moment.{IsNamed, iterated, value}
use Rattle.gr1_env.specs.Told.{TellsHalt}
use Rattle.gr1_env.proofs.Told.{handed_on, told, joined_told}
use Rattle.gr1_env.proofs.Naming.{union_named}
use Rattle.gr1_env.proofs.layering.union_of.Goals as goal

pub or_in-requires-clause-b : goal.or_in-requires-clause-b
or_in-requires-clause-b g c =
    let kept = g.G.Regions.kept in
    let first = kept c.args.g.now in
    let item = c.e-item.result in
    let each = subst (λ e. HasEach first (hold_regions e)) (sym c.e-item.is) (each_gathered first _ c.args.goals.now c.loop-e.e-index item c.requires.goals c.loop-e-test.true) in
    region_stays first (kept c.loop-e.g) item.y (λ w. omega (arith, c.loop-e.invariant.made.held w)) each.0

pub returns-in_err-joined-2-clause-halted : goal.returns-in_err-joined-2-clause-halted
returns-in_err-joined-2-clause-halted g c =
    let kept = g.G.Regions.kept in
    on_err _ (dropped (kept c.args.g.now) (kept c.loop-e.g) (kept c.or_in.new.g) c.loop-e.joined _ (g.met.G.Regions.exact _) c.loop-e.invariant.made c.in_err-joined-2.ensures.halted)

pub loop-e-preserved : goal.loop-e-preserved
loop-e-preserved g c =
    let kept = g.G.Regions.kept in
    let first = kept c.args.g.now in
    let new = kept c.or_in.new.g in
    let item = c.e-item.result in
    let each = subst (λ e. HasEach first (hold_regions e)) (sym c.e-item.is) (each_gathered first _ c.args.goals.now c.loop-e.e-index item c.requires.goals c.loop-e-test.true) in
    let sofar = union (hold_set first c.args.goals.now) c.loop-e.e-index in
    let made = replaced_as first (kept c.loop-e.g) new c.loop-e.joined c.in_ok-joined-2.joined item.y sofar either (g.met.G.Regions.exact _) each.0 c.loop-e.invariant.made c.in_ok-joined-2.ensures.made in
    let next : c.loop-e.e-index + 1 ≡ suc c.loop-e.e-index = omega arith in
    let set_is = ap (λ e. first.set e.y) c.e-item.is ∙ sym (get_or-map (λ e. first.set e.y) c.args.goals.now c.loop-e.e-index item no_states c.loop-e-test.true) in
    record {
      made = subst (λ n. MakesRegion first new c.in_ok-joined-2.joined (union (hold_set first c.args.goals.now) n)) (sym next)
          (subst (λ t. MakesRegion first new c.in_ok-joined-2.joined (either sofar t)) set_is made);
      same = same_then first (kept c.loop-e.g) new c.loop-e.invariant.same c.or_in.ensures.keeps;
    }

pub returns-in_err-joined-clause-told : goal.returns-in_err-joined-clause-told
returns-in_err-joined-clause-told g c = λ game m a same few are.
    let kept = g.G.Regions.kept in
    let k = kept c.args.g.now in
    handed_on c.from_residual.result c.in_err-joined.field-0.0 (TellsHalt game k (kept c.none.new.self) m) c.from_residual.ensures.1
    (told game m k (kept c.none.new.self) NoStates [] c.in_err-joined.field-0.0 c.in_err-joined.ensures.halted.jam tt tt)

pub returns-in_err-joined-2-clause-told : goal.returns-in_err-joined-2-clause-told
returns-in_err-joined-2-clause-told g c = λ game m a same few are.
    let kept = g.G.Regions.kept in
    let first = kept c.args.g.now in
    let item = c.e-item.result in
    let j = c.loop-e.e-index in
    let inv = c.loop-e.invariant in
    let goals = c.args.goals.now in
    let each = subst (λ e. HasEach first (hold_regions e)) (sym c.e-item.is) (each_gathered first _ goals j item c.requires.goals c.loop-e-test.true) in
    let set_is = ap (λ e. first.set e.y) c.e-item.is ∙ sym (get_or-map (λ e. first.set e.y) goals j item no_states c.loop-e-test.true) in
    let goal_in : IsGoal game j = omega (arith, few, c.loop-e-test.true) in
    let named : IsNamed game m (first.set item.y) = iterated (value a j goal_in (set_is ∙ are j c.loop-e-test.true)) in
    handed_on c.from_residual-in_err-joined-2.result c.in_err-joined-2.field-0.0 (TellsHalt game first (kept c.or_in.new.g) m) c.from_residual-in_err-joined-2.ensures.1
    (joined_told game m first (kept c.loop-e.g) (kept c.or_in.new.g) c.loop-e.joined item.y (union (hold_set first goals) j) Or c.in_err-joined-2.field-0.0 (g.met.G.Regions.exact _) each.0 inv.made
    (union_named game m (hold_set first goals) a j (length goals) few are (omega (arith, c.loop-e-test.true))) named tt c.in_err-joined-2.ensures.told)
