use Rattle.std.proofs.Common.{List, length, ap, arith}
use Rattle.spec_model.specs.GameViews.{goal_data}
use Rattle.spec_model.specs.Games.{GameData}
use Rattle.strategy_parts.proofs.Owning.{length_map}
use Rattle.counterstrategy.proofs.counterstrategy.Counterstrategy.note.Goals as goal

pub label_of-requires : goal.label_of-requires
label_of-requires g c =
    let inner = c.requires c.if-self.true in
    let same = ap (λ (h : GameData). length h.goals) c.game.ensures in
    let there = ap (λ (gs : List _). length gs) c.deref.ensures.value in
    omega (arith, inner, same, there, length_map goal_data c.game.result.now.goals.items)
