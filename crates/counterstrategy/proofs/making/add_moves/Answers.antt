use Rattle.std.proofs.Common.{◌∙◌, ◌∷◌, [], ◌++◌, List, refl, sym, ap, subst, arith}
use Rattle.regions.specs.Kept.{Move, Inputs, States, InMoves}
use Rattle.strategy_parts.specs.Owned.{move_items}
use Rattle.strategy_parts.specs.Told.{AsksFor}
use Rattle.strategy_parts.proofs.Telling.{nothing_made, makes_one, told}
use Rattle.counterstrategy.proofs.Adding.{move_items-append, none_of_some, one_added}
use Rattle.counterstrategy.proofs.making.add_moves.Goals as goal

pub returns-then-is_err-clause-halted : goal.returns-then-is_err-clause-halted
returns-then-is_err-clause-halted g c =
    let k = g.G.Regions.kept c.args.g.now in
    none_of_some move_items refl move_items-append k k (λ w. omega arith) c.args.moves.now.items c.reserve.new.self.items c.reserve.ensures.items

pub returns-in-Ok-clause-added : goal.returns-in-Ok-clause-added
returns-in-Ok-clause-added g c =
    let kept = g.G.Regions.kept in
    let k = kept c.args.g.now in
    let new = kept c.in_moves.new.self in
    let m = c.in-Ok.m in
    let one = Inputs c.args.when (k.set c.args.r.now) in
    one_added move_items refl move_items-append k new c.args.moves.now.items m c.push_reserved.new.self.items (one ∷ []) (c.push_reserved.ensures.items ∙ ap (λ (ms : List _). ms ++ m ∷ []) c.reserve.ensures.items) (makes_one k new (Move m) one c.in-Ok.ensures.made)

pub returns-in-Err-clause-halted : goal.returns-in-Err-clause-halted
returns-in-Err-clause-halted g c =
    let kept = g.G.Regions.kept in
    none_of_some move_items refl move_items-append (kept c.args.g.now) (kept c.in_moves.new.self) c.in-Err.ensures.halted.held c.args.moves.now.items c.reserve.new.self.items c.reserve.ensures.items

pub returns-in-Err-clause-told : goal.returns-in-Err-clause-told
returns-in-Err-clause-told g c = λ tale who is.
    let kept = g.G.Regions.kept in
    let k = kept c.args.g.now in
    let s = k.set c.args.r.now in
    told k k (kept c.in_moves.new.self) tale [] [] (InMoves c.args.when) (States s ∷ []) c.in-Err.halt (nothing_made k c.requires.free) c.in-Err.ensures.halted tt
    (subst (λ o. AsksFor o tale.targets (InMoves c.args.when) (States s ∷ [])) (sym who) (s, is, refl))
