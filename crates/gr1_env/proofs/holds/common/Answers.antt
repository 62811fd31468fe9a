use Rattle.std.proofs.Common.{◌≡◌, ◌∙◌, ◌+◌, suc, ap, subst, sym, arith, [], length}
use Rattle.std.proofs.lemmas.List.{get_or-map}
use Rattle.spec_model.specs.Sets.{both, no_states}
use Rattle.regions.specs.Kept.{HasRegion, MakesRegion}
use Rattle.gr1_sys.specs.Solution.{meet}
use Rattle.gr1_sys.specs.Held.{HasEach}
use Rattle.gr1_env.specs.Held.{last_of, last_set}
use Rattle.gr1_sys.proofs.Holdings.{on_err, same_then, dropped, replaced_as}
use Rattle.gr1_sys.proofs.Lists.{region_stays}
use Rattle.gr1_env.proofs.Gathered.{each_gathered, last_held}
use Rattle.regions.specs.Kept.{All, And}
use Rattle.gr1_sys.specs.Moment.{IsAssumption}
use Rattle.gr1_env.specs.Moment.{IsNamed, iterated, delayed}
use Rattle.gr1_env.specs.Told.{TellsHalt}
use Rattle.spec_model.specs.Steps.{states_of}
use Rattle.gr1_env.proofs.Told.{handed_on, told, joined_told}
use Rattle.gr1_env.proofs.Naming.{common_named}
use Rattle.gr1_env.proofs.holds.common.Goals as goal

pub and_in-requires-clause-b : goal.and_in-requires-clause-b
and_in-requires-clause-b g c =
    let kept = g.G.Regions.kept in
    let first = kept c.args.g.now in
    let item = c.rs-item.result in
    let each = subst (λ v. HasEach first v.items) (sym c.rs-item.is) (each_gathered first _ c.args.xs.now c.loop-rs.rs-index item c.requires.xs c.loop-rs-test.true) in
    let last_is = c.last_or.ensures ∙ ap (last_of c.args.none.now) c.deref.ensures.value in
    subst (HasRegion (kept c.loop-rs.g)) (sym last_is)
    (region_stays first (kept c.loop-rs.g) (last_of c.args.none.now item.items) (λ w. omega (arith, c.loop-rs.invariant.made.held w)) (last_held first c.args.none.now item.items c.requires.none each))

pub returns-in_err-met-2-clause-halted : goal.returns-in_err-met-2-clause-halted
returns-in_err-met-2-clause-halted g c =
    let kept = g.G.Regions.kept in
    on_err _ (dropped (kept c.args.g.now) (kept c.loop-rs.g) (kept c.and_in.new.g) c.loop-rs.met _ (g.met.G.Regions.exact _) c.loop-rs.invariant.made c.in_err-met-2.ensures.halted)

pub loop-rs-preserved : goal.loop-rs-preserved
loop-rs-preserved g c =
    let kept = g.G.Regions.kept in
    let first = kept c.args.g.now in
    let new = kept c.and_in.new.g in
    let item = c.rs-item.result in
    let none = c.args.none.now in
    let each = subst (λ v. HasEach first v.items) (sym c.rs-item.is) (each_gathered first _ c.args.xs.now c.loop-rs.rs-index item c.requires.xs c.loop-rs-test.true) in
    let last_is = c.last_or.ensures ∙ ap (last_of none) c.deref.ensures.value in
    let here = subst (HasRegion first) (sym last_is) (last_held first none item.items c.requires.none each) in
    let sofar = meet first.game (last_set first none c.args.xs.now) c.loop-rs.rs-index in
    let made = replaced_as first (kept c.loop-rs.g) new c.loop-rs.met c.in_ok-met-2.met c.last_or.result.now sofar both (g.met.G.Regions.exact _) here c.loop-rs.invariant.made c.in_ok-met-2.ensures.made in
    let next : c.loop-rs.rs-index + 1 ≡ suc c.loop-rs.rs-index = omega arith in
    let set_is = ap first.set last_is ∙ (ap (λ v. first.set (last_of none v.items)) c.rs-item.is ∙ sym (get_or-map (λ v. first.set (last_of none v.items)) c.args.xs.now c.loop-rs.rs-index item no_states c.loop-rs-test.true)) in
    record {
      made = subst (λ n. MakesRegion first new c.in_ok-met-2.met (meet first.game (last_set first none c.args.xs.now) n)) (sym next)
          (subst (λ t. MakesRegion first new c.in_ok-met-2.met (both sofar t)) set_is made);
      same = same_then first (kept c.loop-rs.g) new c.loop-rs.invariant.same c.and_in.ensures.keeps;
    }

pub returns-in_err-met-clause-told : goal.returns-in_err-met-clause-told
returns-in_err-met-clause-told g c = λ game m a j same goal_in few are.
    let kept = g.G.Regions.kept in
    let k = kept c.args.g.now in
    handed_on c.from_residual.result c.in_err-met.field-0.0 (TellsHalt game k (kept c.all.new.self) m) c.from_residual.ensures.1
    (told game m k (kept c.all.new.self) All [] c.in_err-met.field-0.0 c.in_err-met.ensures.halted.jam tt tt)

pub returns-in_err-met-2-clause-told : goal.returns-in_err-met-2-clause-told
returns-in_err-met-2-clause-told g c = λ game m a j same goal_in few are.
    let kept = g.G.Regions.kept in
    let first = kept c.args.g.now in
    let item = c.rs-item.result in
    let none = c.args.none.now in
    let i = c.loop-rs.rs-index in
    let inv = c.loop-rs.invariant in
    let each = subst (λ v. HasEach first v.items) (sym c.rs-item.is) (each_gathered first _ c.args.xs.now i item c.requires.xs c.loop-rs-test.true) in
    let last_is = c.last_or.ensures ∙ ap (last_of none) c.deref.ensures.value in
    let here = subst (HasRegion first) (sym last_is) (last_held first none item.items c.requires.none each) in
    let set_is = ap first.set last_is ∙ (ap (λ v. first.set (last_of none v.items)) c.rs-item.is ∙ sym (get_or-map (λ v. first.set (last_of none v.items)) c.args.xs.now i item no_states c.loop-rs-test.true)) in
    let index_in : IsAssumption game i = omega (arith, few, c.loop-rs-test.true) in
    let last_named : IsNamed game m (first.set c.last_or.result.now) = iterated (delayed a j i (length (states_of game)) goal_in index_in (set_is ∙ are i c.loop-rs-test.true)) in
    handed_on c.from_residual-in_err-met-2.result c.in_err-met-2.field-0.0 (TellsHalt game first (kept c.and_in.new.g) m) c.from_residual-in_err-met-2.ensures.1
    (joined_told game m first (kept c.loop-rs.g) (kept c.and_in.new.g) c.loop-rs.met c.last_or.result.now (meet first.game (last_set first none c.args.xs.now) i) And c.in_err-met-2.field-0.0 (g.met.G.Regions.exact _) here inv.made
    (common_named game m first.game (last_set first none c.args.xs.now) a j i (length c.args.xs.now) same goal_in few are (omega (arith, c.loop-rs-test.true))) last_named tt c.in_err-met-2.ensures.told)
