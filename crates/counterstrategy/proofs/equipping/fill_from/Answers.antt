use Rattle.std.proofs.Common.{[], List, subst, sym}
use Rattle.std.proofs.lemmas.Result.{IfErr-weaker}
use Rattle.regions.specs.declared.types.When.TheVariants.{First}
use Rattle.gr1_sys.proofs.Holdings.{on_err}
use Rattle.strategy_parts.specs.Told.{IsIn, TellsHalt}
use Rattle.counterstrategy.specs.Owned.{AreLike}
use Rattle.counterstrategy.proofs.Begun.{layers_each}
use Rattle.counterstrategy.proofs.Erring.{err_told, on_ok_as, on_err_as}
use Rattle.counterstrategy.proofs.Filling.{first_count, then_each, then_targets, then_told, later_some, later_count, last_each, last_targets, last_told, moves_made, moves_some}
use Rattle.counterstrategy.proofs.equipping.fill_from.Goals as goal

pub add_layers-requires-clause-regions : goal.add_layers-requires-clause-regions
add_layers-requires-clause-regions g c = (c.requires.none, layers_each (g.G.Regions.kept c.args.g.now) c.args.layers.now c.requires.regions)

pub returns-in_err-add_layers-clause-told : goal.returns-in_err-add_layers-clause-told
returns-in_err-add_layers-clause-told g c = λ tale of.
    let kept = g.G.Regions.kept in
    let k = kept c.args.g.now in
    err_told c.from_residual.result (TellsHalt k (kept c.add_layers.new.g) tale) _ c.from_residual.ensures.1
    (c.in_err-add_layers.ensures.told tale of.who (subst (λ s. IsIn s (tale.targets First)) (sym c.requires.empty) (of.none_in First), of.layers First))

pub add_layers-requires-2-clause-regions : goal.add_layers-requires-2-clause-regions
add_layers-requires-2-clause-regions g c =
    let kept = g.G.Regions.kept in
    let k = kept c.args.g.now in
    let k1 = kept c.add_layers.new.g in
    let ls = c.args.layers.now in
    let kit = c.args.kit.now in
    then_each k k1 (g.met.G.Regions.exact _) c.args.none.now ls c.requires.regions c.requires.none c.requires.empty kit.first.items c.add_layers.new.moves.items c.requires.bare.first c.in_ok-add_layers.ensures.added

pub returns-in_err-add_layers-2-clause-halted : goal.returns-in_err-add_layers-2-clause-halted
returns-in_err-add_layers-2-clause-halted g c =
    let kept = g.G.Regions.kept in
    let k = kept c.args.g.now in
    let k1 = kept c.add_layers.new.g in
    let ls = c.args.layers.now in
    let kit = c.args.kit.now in
    let k2 = kept c.add_layers-2.new.g in
    on_err _ (later_some k k1 (g.met.G.Regions.exact _) c.args.none.now ls c.requires.regions c.requires.none c.requires.empty kit.first.items c.add_layers.new.moves.items c.requires.bare.first c.in_ok-add_layers.ensures.added k2 (g.met.G.Regions.exact _) kit.later.items c.add_layers-2.new.moves.items c.requires.bare.later kit.delays.items c.requires.bare.delays c.in_err-add_layers-2.ensures.halted)

pub returns-in_err-add_layers-2-clause-told : goal.returns-in_err-add_layers-2-clause-told
returns-in_err-add_layers-2-clause-told g c = λ tale of.
    let kept = g.G.Regions.kept in
    let k = kept c.args.g.now in
    let k1 = kept c.add_layers.new.g in
    let ls = c.args.layers.now in
    let kit = c.args.kit.now in
    let k2 = kept c.add_layers-2.new.g in
    err_told c.from_residual-in_err-add_layers-2.result (TellsHalt k k2 tale) _ c.from_residual-in_err-add_layers-2.ensures.1
    (then_told k k1 (g.met.G.Regions.exact _) c.args.none.now ls c.requires.regions c.requires.none c.requires.empty kit.first.items c.add_layers.new.moves.items c.requires.bare.first c.in_ok-add_layers.ensures.added tale of k2 _ (c.in_err-add_layers-2.ensures.told tale of.who (then_targets k k1 (g.met.G.Regions.exact _) c.args.none.now ls c.requires.regions c.requires.none c.requires.empty kit.first.items c.add_layers.new.moves.items c.requires.bare.first c.in_ok-add_layers.ensures.added tale of)))

pub add_delays-requires-clause-regions : goal.add_delays-requires-clause-regions
add_delays-requires-clause-regions g c =
    let kept = g.G.Regions.kept in
    let k = kept c.args.g.now in
    let k1 = kept c.add_layers.new.g in
    let ls = c.args.layers.now in
    let kit = c.args.kit.now in
    let k2 = kept c.add_layers-2.new.g in
    last_each k k1 (g.met.G.Regions.exact _) c.args.none.now ls c.requires.regions c.requires.none c.requires.empty kit.first.items c.add_layers.new.moves.items c.requires.bare.first c.in_ok-add_layers.ensures.added k2 (g.met.G.Regions.exact _) kit.later.items c.add_layers-2.new.moves.items c.requires.bare.later c.in_ok-add_layers-2.ensures.added

pub returns-clause-made : goal.returns-clause-made
returns-clause-made g c =
    let kept = g.G.Regions.kept in
    let k = kept c.args.g.now in
    let k1 = kept c.add_layers.new.g in
    let ls = c.args.layers.now in
    let kit = c.args.kit.now in
    let k2 = kept c.add_layers-2.new.g in
    on_ok_as c.add_delays.result (moves_made k k1 (g.met.G.Regions.exact _) c.args.none.now ls c.requires.regions c.requires.none c.requires.empty kit.first.items c.add_layers.new.moves.items c.requires.bare.first c.in_ok-add_layers.ensures.added k2 (g.met.G.Regions.exact _) kit.later.items c.add_layers-2.new.moves.items c.requires.bare.later c.in_ok-add_layers-2.ensures.added (kept c.add_delays.new.g) kit.delays.items c.add_delays.new.chains.items c.requires.bare.delays) c.add_delays.ensures.added

pub returns-clause-counted : goal.returns-clause-counted
returns-clause-counted g c =
    let kept = g.G.Regions.kept in
    let k = kept c.args.g.now in
    let k1 = kept c.add_layers.new.g in
    let ls = c.args.layers.now in
    let kit = c.args.kit.now in
    let k2 = kept c.add_layers-2.new.g in
    on_ok_as c.add_delays.result
    (λ like. record { first = first_count k k1 (g.met.G.Regions.exact _) c.args.none.now ls c.requires.regions c.requires.none c.requires.empty kit.first.items c.add_layers.new.moves.items c.requires.bare.first c.in_ok-add_layers.ensures.added; later = later_count k k1 (g.met.G.Regions.exact _) c.args.none.now ls c.requires.regions c.requires.none c.requires.empty kit.first.items c.add_layers.new.moves.items c.requires.bare.first c.in_ok-add_layers.ensures.added k2 (g.met.G.Regions.exact _) kit.later.items c.add_layers-2.new.moves.items c.requires.bare.later c.in_ok-add_layers-2.ensures.added; delays = like })
    (c.add_delays.ensures.alike [] (subst (λ (cs : List _). AreLike cs []) (sym c.requires.bare.delays) tt))

pub returns-clause-halted : goal.returns-clause-halted
returns-clause-halted g c =
    let kept = g.G.Regions.kept in
    let k = kept c.args.g.now in
    let k1 = kept c.add_layers.new.g in
    let ls = c.args.layers.now in
    let kit = c.args.kit.now in
    let k2 = kept c.add_layers-2.new.g in
    on_err_as c.add_delays.result (moves_some k k1 (g.met.G.Regions.exact _) c.args.none.now ls c.requires.regions c.requires.none c.requires.empty kit.first.items c.add_layers.new.moves.items c.requires.bare.first c.in_ok-add_layers.ensures.added k2 (g.met.G.Regions.exact _) kit.later.items c.add_layers-2.new.moves.items c.requires.bare.later c.in_ok-add_layers-2.ensures.added (kept c.add_delays.new.g) kit.delays.items c.add_delays.new.chains.items c.requires.bare.delays) c.add_delays.ensures.halted

pub returns-clause-told : goal.returns-clause-told
returns-clause-told g c = λ tale of.
    let kept = g.G.Regions.kept in
    let k = kept c.args.g.now in
    let k1 = kept c.add_layers.new.g in
    let ls = c.args.layers.now in
    let kit = c.args.kit.now in
    let k2 = kept c.add_layers-2.new.g in
    let k3 = kept c.add_delays.new.g in
    IfErr-weaker c.add_delays.result _ _ (λ halt tells. last_told k k1 (g.met.G.Regions.exact _) c.args.none.now ls c.requires.regions c.requires.none c.requires.empty kit.first.items c.add_layers.new.moves.items c.requires.bare.first c.in_ok-add_layers.ensures.added k2 (g.met.G.Regions.exact _) kit.later.items c.add_layers-2.new.moves.items c.requires.bare.later c.in_ok-add_layers-2.ensures.added tale of k3 halt tells) (c.add_delays.ensures.told tale of.who (last_targets k k1 (g.met.G.Regions.exact _) c.args.none.now ls c.requires.regions c.requires.none c.requires.empty kit.first.items c.add_layers.new.moves.items c.requires.bare.first c.in_ok-add_layers.ensures.added k2 (g.met.G.Regions.exact _) kit.later.items c.add_layers-2.new.moves.items c.requires.bare.later c.in_ok-add_layers-2.ensures.added tale of))
