-- When the sets that the solver may hold fill a budget.
use Rattle.std.specs.Prelude.{◌≡◌, ◌⊎◌, ℕ}
use Rattle.spec_model.specs.Diagrams.{Function}
use Rattle.spec_model.specs.Games.{GameData}
use Rattle.spec_model.specs.Sets.{StateSet, all_states, both}
use Rattle.game_values.specs.declared.seen.At.TheVariants.{Now}
use Rattle.bdd_ops.specs.Unfinished.{negated}
use Rattle.bit_compile.specs.Domains.{state_domains, level_count}
use Rattle.bit_compile.specs.Filling.{IsFilledBy}
use Rattle.bdd_sets.specs.StateBits.{Tells}
use Rattle.bdd_sets.specs.NamedGame.{IsOfGame, IsOfSet}
use Rattle.gr1_sys.specs.Moment as sys
use Rattle.gr1_sys.specs.Solution.{following}
use Rattle.gr1_env.specs.Moment as env

-- ---- one moment

-- of the system's equations, one value of Z; of the environment's, one value of Y for each layer and goal
pub data Moment : Type 0 where
  of_system : StateSet → Moment
  of_environment : env.Moment → Moment

-- Z begins at all states, and so does each Y; the layers are the game's.
abbrev pub IsMomentOf : GameData → Moment → Type 0
IsMomentOf g (of_system z) = sys.IsValueOfZ g z
IsMomentOf g (of_environment m) = env.IsMoment g m

-- an iterate of an equation: that value of Z and the one that follows, or an iterate of an inner equation for it; a layer, one
-- of those values of Y, or an iterate of an inner equation for it
abbrev pub IsIterate : GameData → Moment → StateSet → Type 0
IsIterate g (of_system z) t = sys.IsIterate g z t ⊎ (t ≡ following g z)
IsIterate g (of_environment m) t = env.IsIterate g m t

-- an iterate, a formula of the game, or a part of the right side of an equation at iterates
abbrev pub IsNamedState : GameData → Moment → StateSet → Type 0
IsNamedState g (of_system z) t = sys.IsNamed g z t
IsNamedState g (of_environment m) t = env.IsNamed g m t

-- ---- named sets

-- What a part of a named formula stands for, at the bits of a state and of the next one: of the game's own formulas; of the right
-- sides of equations at iterates of the moment; of the formulas of an iterate; or what is left of any of these. A set of states
-- is known by those of the game.
pub data IsNamed (g : GameData) (m : Moment) : Function → Type 0 where
  own : {f : Function} → IsOfGame g f → IsNamed g m f
  states : {f : Function} (t : StateSet) → IsNamedState g m t → Tells g Now f (both (all_states g) t) → IsNamed g m f
  step : {f : Function} (t : StateSet) → IsIterate g m t → IsOfSet g (both (all_states g) t) f → IsNamed g m f
  complement : {f : Function} (h : Function) → IsNamed g m h → f ≡ negated h → IsNamed g m f

-- Some named sets of one moment, and the unfinished results that one operation on named sets holds, have reduced diagrams with
-- together exactly so many different parts, constants included, over the bits of a state and of the next one.
abbrev pub Crowded : GameData → (budget : ℕ) → Type 0
Crowded g budget = ∥ ((m : Moment) × IsMomentOf g m × IsFilledBy (level_count (state_domains g)) budget (IsNamed g m)) ∥₁
