-- The layers that the solver gives are those that a strategy is made for.
use Rattle.std.proofs.Common.{◌≡◌, ℕ, List, length, slice_get, Some, sym, subst, arith}
use Rattle.spec_model.specs.Games.{GameData}
use Rattle.spec_model.specs.WellMade.{WellMade}
use Rattle.regions.specs.Kept.{Kept, IsSameGame}
use Rattle.gr1_law.specs.Layers.{goal_sets}
use Rattle.gr1_law.specs.EnvLayers.{EnvLayerSets}
use Rattle.gr1_law.specs.CounterLaws.{IsLostWith}
use Rattle.gr1_env.specs.declared.layers.EnvLayer.{EnvLayer}
use Rattle.gr1_env.specs.Solved.{counts_of, WonByEnvironment}
use Rattle.counterstrategy.specs.Made.{AreLayersOf}

pub solved_layers : {G R M : Type 0} (old new : Kept R M) (ls : List (EnvLayer G R M)) (e : EnvLayerSets) → WellMade old.game → IsSameGame old new → WonByEnvironment old new ls e → AreLayersOf new ls e
solved_layers {G} {R} {M} old new ls e made same won =
    record {
      made = subst WellMade (sym same.game) made;
      held = λ w. omega (arith, won.held w);
      lost = subst (λ (g : GameData). IsLostWith g e (length ls) (counts_of ls)) (sym same.game) (record { layers = won.layers; delays = won.counts; forced = won.forced });
      goals = subst (λ (g : GameData). (a : ℕ) (l : EnvLayer G R M) → slice_get ls a ≡ Some l → length l.goals.items ≡ length (goal_sets g)) (sym same.game) won.goals;
      shown = won.shown;
    }
