use Rattle.std.proofs.Common.{[], refl, sym, subst, arith}
use Rattle.std.proofs.lemmas.Result.{IfErr-weaker}
use Rattle.spec_model.specs.Sets.{no_states}
use Rattle.regions.specs.Kept.{NoStates}
use Rattle.regions.proofs.Holding.{set_is}
use Rattle.gr1_sys.proofs.Holdings.{on_err}
use Rattle.gr1_env.specs.Held.{all_regions}
use Rattle.strategy_parts.specs.Owned.{MakesAll}
use Rattle.strategy_parts.specs.Told.{AsksFor, TellsHalt}
use Rattle.strategy_parts.proofs.Telling.{each_stays, nothing_made, told}
use Rattle.counterstrategy.specs.Owned.{moves_in}
use Rattle.counterstrategy.specs.Made.{HoldsSome, move_meanings}
use Rattle.counterstrategy.proofs.Adding.{nothing_held}
use Rattle.counterstrategy.proofs.Erring.{err_told, on_ok_as, on_err_as}
use Rattle.counterstrategy.proofs.Filling.{bare_items, meanings_stay, tale_stays, none_made, none_held, none_told}
use Rattle.counterstrategy.proofs.equipping.fill.Goals as goal

pub returns-in_err-none-clause-halted : goal.returns-in_err-none-clause-halted
returns-in_err-none-clause-halted g c =
    let kept = g.G.Regions.kept in
    let k = kept c.args.g.now in
    let new = kept c.none.new.self in
    on_err _ (subst (HoldsSome k new) (sym (bare_items c.args.kit.now c.requires.bare)) ([], nothing_held k new c.in_err-none.ensures.halted.held))

pub returns-in_err-none-clause-told : goal.returns-in_err-none-clause-told
returns-in_err-none-clause-told g c = λ tale of.
    let kept = g.G.Regions.kept in
    let k = kept c.args.g.now in
    let new = kept c.none.new.self in
    err_told c.from_residual.result (TellsHalt k new tale) _ c.from_residual.ensures.1
    (told k k new tale [] [] NoStates [] c.in_err-none.field-0.0 (nothing_made k c.requires.free) c.in_err-none.ensures.halted tt (subst (λ o. AsksFor o tale.targets NoStates []) (sym of.who) refl))

pub fill_from-filled-requires-clause-empty : goal.fill_from-filled-requires-clause-empty
fill_from-filled-requires-clause-empty g c =
    let kept = g.G.Regions.kept in
    let k = kept c.args.g.now in
    let k1 = kept c.none.new.self in
    let made = c.in_ok-none.ensures.made in
    set_is k1 c.in_ok-none.none no_states (g.met.G.Regions.exact _) (λ w. omega (arith, made.held w))

pub fill_from-filled-requires-clause-regions : goal.fill_from-filled-requires-clause-regions
fill_from-filled-requires-clause-regions g c =
    let kept = g.G.Regions.kept in
    let k = kept c.args.g.now in
    let k1 = kept c.none.new.self in
    let made = c.in_ok-none.ensures.made in
    each_stays k k1 (g.met.G.Regions.exact _) (λ w. omega (arith, made.held w)) (all_regions c.args.layers.now) c.requires.regions

pub returns-clause-made : goal.returns-clause-made
returns-clause-made g c =
    let kept = g.G.Regions.kept in
    let k = kept c.args.g.now in
    let k1 = kept c.none.new.self in
    let made = c.in_ok-none.ensures.made in
    let new = kept c.fill_from-filled.new.g in
    let items = moves_in c.fill_from-filled.new.kit in
    on_ok_as c.fill_from-filled.result
    (λ all. none_made k k1 (kept c.fill_from-filled.new.g) (kept c.spend.new.self) c.in_ok-none.none made (g.met.G.Regions.exact _) (g.met.G.Regions.exact _) c.spend.ensures.spends items (move_meanings k c.args.layers.now)
    (subst (MakesAll k1 new items) (meanings_stay k k1 (g.met.G.Regions.exact _) (λ w. omega (arith, made.held w)) c.args.layers.now c.requires.regions) all))
    c.fill_from-filled.ensures.made

pub returns-clause-halted : goal.returns-clause-halted
returns-clause-halted g c =
    let kept = g.G.Regions.kept in
    let k = kept c.args.g.now in
    let k1 = kept c.none.new.self in
    let made = c.in_ok-none.ensures.made in
    on_err_as c.fill_from-filled.result (none_held k k1 (kept c.fill_from-filled.new.g) (kept c.spend.new.self) c.in_ok-none.none made (g.met.G.Regions.exact _) (g.met.G.Regions.exact _) c.spend.ensures.spends (moves_in c.fill_from-filled.new.kit)) c.fill_from-filled.ensures.halted

pub returns-clause-told : goal.returns-clause-told
returns-clause-told g c = λ tale of.
    let kept = g.G.Regions.kept in
    let k = kept c.args.g.now in
    let k1 = kept c.none.new.self in
    let made = c.in_ok-none.ensures.made in
    IfErr-weaker c.fill_from-filled.result _ _ (λ halt tells. none_told k k1 (kept c.fill_from-filled.new.g) (kept c.spend.new.self) c.in_ok-none.none made (g.met.G.Regions.exact _) (g.met.G.Regions.exact _) c.spend.ensures.spends tale halt of.none tells)
    (c.fill_from-filled.ensures.told tale (tale_stays k k1 (g.met.G.Regions.exact _) (λ w. omega (arith, made.held w)) c.args.layers.now c.requires.regions tale of))
