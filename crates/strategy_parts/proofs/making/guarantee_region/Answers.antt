use Rattle.std.proofs.Common.{◌∙◌, [], subst, sym}
use Rattle.std.proofs.lemmas.Result.{IfOk-weaker, IfErr-weaker}
use Rattle.regions.specs.Kept.{All, Holding, MakesRegion}
use Rattle.gr1_sys.proofs.Givings.{goal_alone, goal_there}
use Rattle.strategy_parts.proofs.Telling.{nothing_made, told, asks_all, asks_holding}
use Rattle.strategy_parts.proofs.making.guarantee_region.Goals as goal

pub returns-then-is_empty-clause-made : goal.returns-then-is_empty-clause-made
returns-then-is_empty-clause-made g c =
    let kept = g.G.Regions.kept in
    let k = kept c.args.g.now in
    IfOk-weaker c.all.result _ _ (λ r made. subst (MakesRegion k (kept c.all.new.self) r) (sym (goal_alone c.game.result.now k.game c.game.ensures (sym c.is_empty.ensures ∙ c.if-is_empty.true) c.args.j c.requires.there)) made) c.all.ensures.made

pub holding-requires-clause-there : goal.holding-requires-clause-there
holding-requires-clause-there g c = (goal_there c.game.result.now (g.G.Regions.kept c.args.g.now).game c.game.ensures (sym c.is_empty.ensures ∙ c.if-is_empty.false) c.args.j c.requires.there).0

pub returns-else-is_empty-clause-made : goal.returns-else-is_empty-clause-made
returns-else-is_empty-clause-made g c =
    let kept = g.G.Regions.kept in
    let k = kept c.args.g.now in
    IfOk-weaker c.holding.result _ _ (λ r made. subst (MakesRegion k (kept c.holding.new.self) r) (goal_there c.game.result.now k.game c.game.ensures (sym c.is_empty.ensures ∙ c.if-is_empty.false) c.args.j c.requires.there).1 made) c.holding.ensures.made

pub returns-then-is_empty-clause-told : goal.returns-then-is_empty-clause-told
returns-then-is_empty-clause-told g c = λ l.
    let kept = g.G.Regions.kept in
    let k = kept c.args.g.now in
    IfErr-weaker c.all.result _ _ (λ halt halts. told k k (kept c.all.new.self) l [] [] All [] halt (nothing_made k c.requires.free) halts tt (asks_all l)) c.all.ensures.halted

pub returns-else-is_empty-clause-told : goal.returns-else-is_empty-clause-told
returns-else-is_empty-clause-told g c = λ l.
    let kept = g.G.Regions.kept in
    let k = kept c.args.g.now in
    IfErr-weaker c.holding.result _ _ (λ halt halts. told k k (kept c.holding.new.self) l [] [] Holding [] halt (nothing_made k c.requires.free) halts tt (asks_holding l)) c.holding.ensures.halted
