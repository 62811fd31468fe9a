use Rattle.std.proofs.Common.{◌∷◌, IfErr, refl, ap, subst, sym, arith}
use Rattle.std.proofs.lemmas.Result.{err_from_is_err_and}
use Rattle.regions.specs.Kept.{Move, Meaning, Outputs}
use Rattle.strategy_parts.specs.Owned.{MakesAll, move_items}
use Rattle.strategy_parts.specs.Told.{IsIn}
use Rattle.controller.specs.Made.{tale_of, TellsHalt, leadings}
use Rattle.strategy_parts.proofs.Telling.{region_stays, set_stays, makes_before, still_all, made_and_spent}
use Rattle.controller.proofs.Makings.{made_moves, told, told_still}
use Rattle.controller.proofs.making.aim_into.Goals as goal

pub out_moves-requires-clause-free : goal.out_moves-requires-clause-free
out_moves-requires-clause-free g c = c.in_ok-parts.ensures.made.jam

pub out_moves-requires-clause-t : goal.out_moves-requires-clause-t
out_moves-requires-clause-t g c =
    let kept = g.G.Regions.kept in
    let made = c.in_ok-parts.ensures.made in
    region_stays (kept c.args.g.now) (kept c.moves_into.new.g) (g.met.G.Regions.exact _) (λ w. omega (arith, made.held w)) c.args.layer.now c.requires.regions.0

pub returns-in-Ok-clause-made : goal.returns-in-Ok-clause-made
returns-in-Ok-clause-made g c =
    let kept = g.G.Regions.kept in
    let first = kept c.args.g.now in
    let k = kept c.moves_into.new.g in
    let new = kept c.out_moves.new.self in
    let made = c.in_ok-parts.ensures.made in
    let stays = ap (Outputs c.args.when) (set_stays first k (g.met.G.Regions.exact _) (λ w. omega (arith, made.held w)) c.args.layer.now c.requires.regions.0) in
    subst (λ (n : Meaning). MakesAll first new (Move c.in-Ok.layer ∷ move_items c.in_ok-parts.parts.items) (n ∷ leadings first c.args.when c.args.parts.now)) stays
    (makes_before first k new (Move c.in-Ok.layer) (move_items c.in_ok-parts.parts.items) _ (leadings first c.args.when c.args.parts.now) made c.in-Ok.ensures.made)

pub spend_moves-requires : goal.spend_moves-requires
spend_moves-requires g c =
    let kept = g.G.Regions.kept in
    still_all (kept c.args.g.now) (kept c.moves_into.new.g) (kept c.out_moves.new.self) (move_items c.in_ok-parts.parts.items) _ (g.met.G.Regions.exact _) c.in_ok-parts.ensures.made c.in-Err.ensures.halted.held

pub returns-in-Err-clause-halted : goal.returns-in-Err-clause-halted
returns-in-Err-clause-halted g c =
    let kept = g.G.Regions.kept in
    made_and_spent (kept c.args.g.now) (kept c.moves_into.new.g) (kept c.out_moves.new.self) (kept c.spend_moves.new.g) (move_items c.in_ok-parts.parts.items) _ (g.met.G.Regions.exact _) c.in_ok-parts.ensures.made c.in-Err.ensures.halted.held c.spend_moves.ensures.spends

pub returns-in-Err-clause-told : goal.returns-in-Err-clause-told
returns-in-Err-clause-told g c = λ l all.
    let kept = g.G.Regions.kept in
    let first = kept c.args.g.now in
    let k = kept c.moves_into.new.g in
    let new = kept c.out_moves.new.self in
    let made = c.in_ok-parts.ensures.made in
    let set_is = set_stays first k (g.met.G.Regions.exact _) (λ w. omega (arith, made.held w)) c.args.layer.now c.requires.regions.0 in
    told_still first new (kept c.spend_moves.new.g) l c.in-Err.halt c.spend_moves.ensures.spends.jam
    (told first k new l (move_items c.in_ok-parts.parts.items) (leadings first c.args.when c.args.parts.now) c.args.when (k.set c.args.layer.now) c.in-Err.halt made c.in-Err.ensures.halted
    (made_moves first l c.args.when c.args.parts.now all.1) (subst (λ s. IsIn s (l c.args.when)) (sym set_is) all.0))

pub returns-in_err-parts-clause-told : goal.returns-in_err-parts-clause-told
returns-in_err-parts-clause-told g c = λ l all.
    let kept = g.G.Regions.kept in
    let k = kept c.args.g.now in
    let p = err_from_is_err_and c.from_residual.result c.from_residual.ensures.1 in
    subst (λ r. IfErr r (TellsHalt k (kept c.moves_into.new.g) l)) (sym p.1) (subst (TellsHalt k (kept c.moves_into.new.g) l) (sym p.2) (c.in_err-parts.ensures.told (tale_of k.game l) refl all.1))
