use Rattle.std.proofs.Common.{◌∙◌, ◌∷◌, [], sym, refl, subst}
use Rattle.std.proofs.lemmas.Result.{IfErr-weaker}
use Rattle.regions.specs.Kept.{States, InMoves, OutMoves}
use Rattle.strategy_parts.specs.Told.{AsksFor}
use Rattle.strategy_parts.proofs.Telling.{nothing_made, told}
use Rattle.strategy_parts.proofs.making.moves_to.Goals as goal

pub returns-in-Env-clause-told : goal.returns-in-Env-clause-told
returns-in-Env-clause-told g c = λ tale who is.
    let kept = g.G.Regions.kept in
    let k = kept c.args.g.now in
    let s = k.set c.args.r.now in
    IfErr-weaker c.in_moves.result _ _
    (λ halt halts. told k k (kept c.in_moves.new.self) tale [] [] (InMoves c.args.when) (States s ∷ []) halt (nothing_made k c.requires.free) halts tt
    (subst (λ o. AsksFor o tale.targets (InMoves c.args.when) (States s ∷ [])) (sym (who ∙ c.in-Env.is)) (s, is, refl)))
    c.in_moves.ensures.halted

pub returns-in-Sys-clause-told : goal.returns-in-Sys-clause-told
returns-in-Sys-clause-told g c = λ tale who is.
    let kept = g.G.Regions.kept in
    let k = kept c.args.g.now in
    let s = k.set c.args.r.now in
    IfErr-weaker c.out_moves.result _ _
    (λ halt halts. told k k (kept c.out_moves.new.self) tale [] [] (OutMoves c.args.when) (States s ∷ []) halt (nothing_made k c.requires.free) halts tt
    (subst (λ o. AsksFor o tale.targets (OutMoves c.args.when) (States s ∷ [])) (sym (who ∙ c.in-Sys.is)) (s, is, refl)))
    c.out_moves.ensures.halted
