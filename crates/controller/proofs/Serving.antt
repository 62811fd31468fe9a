-- The layers that the solver gives are those that a strategy is made for.
use Rattle.std.proofs.Common.{◌≡◌, List, map, length, Vec, Some, None, true, slice_get, suc, ℕ, sym, subst, arith}
use Rattle.std.specs.declared.alloc.Global.{Global}
use Rattle.spec_model.specs.Games.{GameData}
use Rattle.spec_model.specs.Steps.{below}
use Rattle.spec_model.specs.Sets.{system_forces}
use Rattle.spec_model.specs.WellMade.{WellMade}
use Rattle.regions.specs.Kept.{Kept, IsSameGame}
use Rattle.gr1_law.specs.Layers.{LayerSets, IsWinning, AreGreatestRanks, assumption_sets}
use Rattle.gr1_sys.specs.declared.layers.SysLayer.{SysLayer}
use Rattle.gr1_sys.specs.Held.{ranks_of}
use Rattle.gr1_sys.specs.Solved.{WonBySystem}
use Rattle.controller.specs.Made.{AreLayersOf}

pub solved_layers : {G R M : Type 0} (old new : Kept R M) (z : R) (layers : List (Vec (SysLayer G R M) Global)) (l : LayerSets) → WellMade old.game → IsSameGame old new → WonBySystem old new z layers l → AreLayersOf new z layers l
solved_layers {G} {R} {M} old new z layers l made same won =
    record {
      made = subst WellMade (sym same.game) made;
      held = λ w. omega (arith, won.held w);
      winning = subst (λ (g : GameData). IsWinning g (new.set z) l) (sym same.game) won.winning;
      forced = subst (λ (g : GameData). system_forces g (new.set z) None ≡ true) (sym same.game) won.forced;
      ranks = subst (λ (g : GameData). AreGreatestRanks g l (ranks_of layers)) (sym same.game) won.ranks;
      shown = subst (λ (g : GameData). (j r : ℕ) (goal : Vec (SysLayer G R M) Global) (layer : SysLayer G R M) → slice_get layers j ≡ Some goal → slice_get goal.items r ≡ Some layer →
          (new.set layer.y ≡ l.y j (suc r)) × (map new.set layer.x.items ≡ map (l.x j (suc r)) (below (length (assumption_sets g))))) (sym same.game) won.shown;
    }
