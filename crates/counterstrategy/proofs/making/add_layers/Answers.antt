use Rattle.std.proofs.Common.{◌∷◌, [], List, take, refl, sym, subst}
use Rattle.spec_model.specs.declared.value.Owner.TheVariants.{Env}
use Rattle.regions.specs.Kept.{HasRegion}
use Rattle.gr1_sys.proofs.Holdings.{on_err}
use Rattle.strategy_parts.specs.Owned.{move_items}
use Rattle.strategy_parts.specs.Told.{IsIn, TellsHalt, leadings}
use Rattle.strategy_parts.proofs.Holdings.{same_then}
use Rattle.strategy_parts.proofs.Telling.{has_every, every_at}
use Rattle.counterstrategy.specs.Settled.{tops}
use Rattle.counterstrategy.specs.Made.{Adds}
use Rattle.counterstrategy.proofs.Adding.{move_items-append}
use Rattle.counterstrategy.proofs.Erring.{err_told}
use Rattle.counterstrategy.proofs.Settling.{tops_count, tops_at}
use Rattle.counterstrategy.proofs.Stepping.{step_each, step_adds, step_some, step_told, tops_next, every_tops_take}
use Rattle.counterstrategy.proofs.making.add_layers.Goals as goal

pub add_moves-requires-in-loop-l-clause-region : goal.add_moves-requires-in-loop-l-clause-region
add_moves-requires-in-loop-l-clause-region g c =
    let kept = g.G.Regions.kept in
    let first = kept c.args.g.now in
    let layers = c.args.layers.now in
    let i = c.loop-l.l-index in
    let item = c.l-item.result in
    let here = every_at (HasRegion first) (tops layers) i item.z (has_every first (tops layers) c.requires.regions.1) (tops_count layers i c.loop-l-test.true) (tops_at layers i c.loop-l-test.true item c.l-item.is) in
    (step_each move_items refl move_items-append first (kept c.loop-l.g) (g.met.G.Regions.exact _) c.args.moves.now.items c.loop-l.moves.items c.args.when (c.args.none.now ∷ tops (take i layers)) (item.z ∷ []) (here, tt) c.loop-l.invariant.added).0

pub returns-in_err-add_moves-2-clause-halted : goal.returns-in_err-add_moves-2-clause-halted
returns-in_err-add_moves-2-clause-halted g c =
    let kept = g.G.Regions.kept in
    let first = kept c.args.g.now in
    let layers = c.args.layers.now in
    let i = c.loop-l.l-index in
    let item = c.l-item.result in
    let here = every_at (HasRegion first) (tops layers) i item.z (has_every first (tops layers) c.requires.regions.1) (tops_count layers i c.loop-l-test.true) (tops_at layers i c.loop-l-test.true item c.l-item.is) in
    on_err _ (step_some move_items refl move_items-append first (kept c.loop-l.g) (g.met.G.Regions.exact _) c.args.moves.now.items c.loop-l.moves.items c.args.when (c.args.none.now ∷ tops (take i layers)) (item.z ∷ []) (here, tt) c.loop-l.invariant.added
    (kept c.add_moves-in-loop-l.new.g) c.add_moves-in-loop-l.new.moves.items c.in_err-add_moves-2.ensures.halted)

pub returns-in_err-add_moves-2-clause-told : goal.returns-in_err-add_moves-2-clause-told
returns-in_err-add_moves-2-clause-told g c = λ tale who all.
    let kept = g.G.Regions.kept in
    let first = kept c.args.g.now in
    let layers = c.args.layers.now in
    let i = c.loop-l.l-index in
    let item = c.l-item.result in
    let when = c.args.when in
    let below = tops_count layers i c.loop-l-test.true in
    let is = tops_at layers i c.loop-l-test.true item c.l-item.is in
    let here = every_at (HasRegion first) (tops layers) i item.z (has_every first (tops layers) c.requires.regions.1) below is in
    let new = kept c.add_moves-in-loop-l.new.g in
    err_told c.from_residual-in_err-add_moves-2.result (TellsHalt first new tale) _ c.from_residual-in_err-add_moves-2.ensures.1
    (step_told move_items refl move_items-append first (kept c.loop-l.g) (g.met.G.Regions.exact _) c.args.moves.now.items c.loop-l.moves.items when (c.args.none.now ∷ tops (take i layers)) (item.z ∷ []) (here, tt) c.loop-l.invariant.added
    new tale _ who (all.0, every_tops_take (λ r. IsIn (first.set r) (tale.targets when)) i layers all.1)
    (every_at (λ r. IsIn (first.set r) (tale.targets when)) (tops layers) i item.z all.1 below is, tt)
    (λ t. c.in_err-add_moves-2.ensures.told tale who t.0))

pub loop-l-preserved : goal.loop-l-preserved
loop-l-preserved g c =
    let kept = g.G.Regions.kept in
    let first = kept c.args.g.now in
    let layers = c.args.layers.now in
    let i = c.loop-l.l-index in
    let item = c.l-item.result in
    let when = c.args.when in
    let below = tops_count layers i c.loop-l-test.true in
    let here = every_at (HasRegion first) (tops layers) i item.z (has_every first (tops layers) c.requires.regions.1) below (tops_at layers i c.loop-l-test.true item c.l-item.is) in
    let new = kept c.add_moves-in-loop-l.new.g in
    let moves = c.add_moves-in-loop-l.new.moves.items in
    record {
      added = subst (λ (rs : List _). Adds move_items first new c.args.moves.now.items moves (leadings first Env when (c.args.none.now ∷ rs))) (sym (tops_next layers i item c.loop-l-test.true c.l-item.is))
          (step_adds move_items refl move_items-append first (kept c.loop-l.g) (g.met.G.Regions.exact _) c.args.moves.now.items c.loop-l.moves.items when (c.args.none.now ∷ tops (take i layers)) (item.z ∷ []) (here, tt) c.loop-l.invariant.added
          new moves c.in_ok-add_moves-2.ensures.added);
      same = same_then first (kept c.loop-l.g) new c.loop-l.invariant.same c.add_moves-in-loop-l.ensures.keeps;
    }
