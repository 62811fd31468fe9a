use Rattle.std.proofs.Common.{◌∙◌, ◌+◌, ◌∷◌, [], List, map, take, ap, subst, sym, refl, arith}
use Rattle.std.proofs.lemmas.List.{map-append, take_all}
use Rattle.regions.specs.Kept.{Move, Meaning, HasRegion, Each}
use Rattle.strategy_parts.specs.Owned.{MakesAll, move_items}
use Rattle.strategy_parts.specs.Told.{IsIn, leadings, moves_meant, IsMade}
use Rattle.strategy_parts.proofs.Holdings.{same_then}
use Rattle.strategy_parts.proofs.Telling.{every_at, every_take, take_next, has_every, region_stays, set_stays, nothing_made, makes_one, makes_next, still_all, made_and_spent, made_moves, told_after, told_still}
use Rattle.strategy_parts.proofs.making.moves_into.Goals as goal

pub loop-r-init : goal.loop-r-init
loop-r-init g c =
    let first = g.G.Regions.kept c.args.g.now in
    record {
      made = subst (λ (ms : List _). MakesAll first first (move_items ms) []) (sym c.in-Ok.ensures.items) (nothing_made first c.requires.free);
      counted = c.in-Ok.ensures.len;
      room = omega (arith, c.in-Ok.ensures.capacity);
      same = record { game = refl; bound = refl };
    }

pub moves_to-requires-clause-free : goal.moves_to-requires-clause-free
moves_to-requires-clause-free g c = c.loop-r.invariant.made.jam

pub moves_to-requires-clause-region : goal.moves_to-requires-clause-region
moves_to-requires-clause-region g c =
    let kept = g.G.Regions.kept in
    let first = kept c.args.g.now in
    let made = c.loop-r.invariant.made in
    region_stays first (kept c.loop-r.g) (g.met.G.Regions.exact _) (λ w. omega (arith, made.held w)) c.r-item.result
    (every_at (HasRegion first) c.args.regions.now c.loop-r.r-index c.r-item.result (has_every first c.args.regions.now c.requires.regions) c.loop-r-test.true c.r-item.is)

pub loop-r-preserved : goal.loop-r-preserved
loop-r-preserved g c =
    let kept = g.G.Regions.kept in
    let first = kept c.args.g.now in
    let k = kept c.loop-r.g in
    let new = kept c.moves_to.new.g in
    let inv = c.loop-r.invariant in
    let made = inv.made in
    let r = c.r-item.result in
    let m = c.in-Ok-moves_to.m in
    let who = c.args.who in
    let when = c.args.when in
    let regions = c.args.regions.now in
    let here = every_at (HasRegion first) regions c.loop-r.r-index r (has_every first regions c.requires.regions) c.loop-r-test.true c.r-item.is in
    let stays = ap (moves_meant who when) (set_stays first k (g.met.G.Regions.exact _) (λ w. omega (arith, made.held w)) r here) in
    let part : MakesAll k new (Move m ∷ []) (moves_meant who when (first.set r) ∷ []) =
    subst (λ (n : Meaning). MakesAll k new (Move m ∷ []) (n ∷ [])) stays (makes_one k new (Move m) (moves_meant who when (k.set r)) c.in-Ok-moves_to.ensures.made) in
    let f : _ → Meaning = λ r. moves_meant who when (first.set r) in
    record {
      made = makes_next first k new (move_items c.loop-r.moves.items) (Move m ∷ []) _ (leadings first who when (take c.loop-r.r-index regions)) (moves_meant who when (first.set r) ∷ []) _
          (ap move_items c.push_reserved.ensures.items ∙ map-append Move c.loop-r.moves.items (m ∷ []))
          (ap (map f) (take_next regions c.loop-r.r-index r c.loop-r-test.true c.r-item.is) ∙ map-append f (take c.loop-r.r-index regions) (r ∷ [])) made part;
      counted = c.push_reserved.ensures.len ∙ ap (λ n. n + 1) inv.counted;
      room = omega (arith, inv.room, c.push_reserved.ensures.capacity);
      same = same_then first k new inv.same c.moves_to.ensures.keeps;
    }

pub spend_moves-requires : goal.spend_moves-requires
spend_moves-requires g c =
    let kept = g.G.Regions.kept in
    still_all (kept c.args.g.now) (kept c.loop-r.g) (kept c.moves_to.new.g) (move_items c.loop-r.moves.items) _ (g.met.G.Regions.exact _) c.loop-r.invariant.made c.in-Err.ensures.halted

pub returns-in-Err-clause-halted : goal.returns-in-Err-clause-halted
returns-in-Err-clause-halted g c =
    let kept = g.G.Regions.kept in
    made_and_spent (kept c.args.g.now) (kept c.loop-r.g) (kept c.moves_to.new.g) (kept c.spend_moves.new.g) (move_items c.loop-r.moves.items) _ (g.met.G.Regions.exact _) c.loop-r.invariant.made c.in-Err.ensures.halted c.spend_moves.ensures.spends

pub returns-in-Err-clause-told : goal.returns-in-Err-clause-told
returns-in-Err-clause-told g c = λ tale is all.
    let kept = g.G.Regions.kept in
    let first = kept c.args.g.now in
    let k = kept c.loop-r.g in
    let new = kept c.moves_to.new.g in
    let made = c.loop-r.invariant.made in
    let r = c.r-item.result in
    let who = c.args.who in
    let when = c.args.when in
    let regions = c.args.regions.now in
    let here = every_at (HasRegion first) regions c.loop-r.r-index r (has_every first regions c.requires.regions) c.loop-r-test.true c.r-item.is in
    let set_is = set_stays first k (g.met.G.Regions.exact _) (λ w. omega (arith, made.held w)) r here in
    let of = every_at (λ r. IsIn (first.set r) (tale.targets when)) regions c.loop-r.r-index r all c.loop-r-test.true c.r-item.is in
    told_still first new (kept c.spend_moves.new.g) tale c.in-Err.halt c.spend_moves.ensures.spends.jam
    (told_after first k new tale (move_items c.loop-r.moves.items) (leadings first who when (take c.loop-r.r-index regions)) c.in-Err.halt made
    (subst (λ o. Each (IsMade tale) (leadings first o when (take c.loop-r.r-index regions))) is
    (made_moves first tale when (take c.loop-r.r-index regions) (every_take (λ r. IsIn (first.set r) (tale.targets when)) c.loop-r.r-index regions all)))
    (c.in-Err.ensures.told tale is (subst (λ s. IsIn s (tale.targets when)) (sym set_is) of)))

pub returns-clause-made : goal.returns-clause-made
returns-clause-made g c =
    let first = g.G.Regions.kept c.args.g.now in
    let regions = c.args.regions.now in
    subst (λ (rs : List _). MakesAll first (g.G.Regions.kept c.loop-r.g) (move_items c.loop-r.moves.items) (leadings first c.args.who c.args.when rs)) (take_all c.loop-r.r-index regions (omega (arith, c.loop-r-test.false))) c.loop-r.invariant.made
