-- A comparison that one code of one slot decides.
use Rattle.std.specs.Prelude.{◌≡◌, ◌<◌, length}
use Rattle.spec_model.specs.Diagrams.{Function}
use Rattle.bit_compile.specs.declared.reading.Equation.{Equation}
use Rattle.bit_compile.specs.declared.scenes.Scene.{Scene}
use Rattle.bit_compile.specs.Compiled.{is_code}
use Rattle.bit_compile.specs.Scenes.{codes_seen}

-- the function is true where the slot has the code
pub record Decides (s : Scene) (q : Equation) (f : Function) : Type 0 where
  pub within : q.place < length (codes_seen s)
  pub same : is_code (codes_seen s) q.at q.place q.code ≡ f
