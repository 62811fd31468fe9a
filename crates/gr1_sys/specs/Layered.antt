-- Which sets the layers of a value stand for.
use Rattle.std.specs.Prelude.{ℕ, zero, suc}
use Rattle.spec_model.specs.Games.{GameData}
use Rattle.spec_model.specs.Sets.{StateSet, no_states}
use Rattle.gr1_law.specs.Layers.{LayerSets}
use Rattle.gr1_sys.specs.Solution.{part_of, layer_of}

module _ (g : GameData) (z : StateSet) where
  abbrev parts_of : ℕ → ℕ → ℕ → StateSet
  parts_of j zero i = no_states
  parts_of j (suc r) i = part_of g z (layer_of g z j r) j i

  abbrev pub layers_for : LayerSets
  layers_for = record { y = layer_of g z; x = parts_of }
