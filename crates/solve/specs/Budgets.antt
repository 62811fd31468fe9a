-- What a halt for want of budget tells.
use Rattle.std.specs.Prelude.{◌≡◌, ℕ, ◌<◌, List, Some}
use Rattle.spec_model.specs.Syntax.{Specification}
use Rattle.spec_model.specs.Games.{GameData}
use Rattle.spec_model.specs.Needs.{need_of, Tried}
use Rattle.regions.specs.declared.types.Halt.{Halt}
use Rattle.regions.specs.declared.types.Halt.TheVariants.{Budget, Memory}
use Rattle.regions.specs.Kept.{Kept, Item, Meaning, States, Each, IsSameGame, Jam, weigh, weight}
use Rattle.hidden_game.specs.GameOf.{game_of}
use Rattle.core_min.specs.declared.fault.CoreFault.{CoreFault}
use Rattle.core_min.specs.declared.fault.CoreFault.TheVariants as faults
use Rattle.solve.specs.Crowded.{Moment, IsMomentOf, IsIterate, Crowded}
use Rattle.solve.specs.Told.{IsOfOneMoment}

-- ---- of any regions

abbrev pub IsIterateMeant : GameData → Moment → Meaning → Type 0
IsIterateMeant g m (States t) = IsIterate g m t
IsIterateMeant g m meaning = ⊥

abbrev pub HoldsNothing : {R M : Type 0} → Kept R M → Type 0
HoldsNothing {R} {M} k = (w : Item R M → Meaning → ℕ) → weight k w ≡ 0

-- All that is held are, order aside, iterates of one moment.
pub record HoldsOneMoment {R M : Type 0} (k : Kept R M) : Type 0 where
  pub moment : Moment
  pub is : IsMomentOf k.game moment
  pub listed : List Meaning
  pub held : (w : Meaning → ℕ) → weight k (λ i m. w m) ≡ weigh w listed
  pub iterates : Each (IsIterateMeant k.game moment) listed

module _ {G R M : Type 0} (kept : G → Kept R M) (k : Kept R M) (IsFit : Type 0) where
  -- Regions of the same game, with the same budget, tell of a call that was refused for want of it; where what was held at first
  -- is fit, all that they tell is of one moment.
  pub record RanOut : Type 0 where
    pub g : G
    pub same : IsSameGame k (kept g)
    pub jam : Jam
    pub told : (kept g).jam ≡ Some jam
    pub of_one_moment : IsFit → IsOfOneMoment k.game jam

  -- where it halts for want of budget, it ran out
  abbrev pub IsHalt : Halt → Type 0
  IsHalt Budget = RanOut
  IsHalt Memory = Unit {0}

-- while a solver that nothing was held for halts, and while a strategy is made of what one gave
abbrev pub SolverHalts : {G R M : Type 0} → (G → Kept R M) → Kept R M → Halt → Type 0
SolverHalts kept k = IsHalt kept k (HoldsNothing k)

abbrev pub PlayHalts : {G R M : Type 0} → (G → Kept R M) → Kept R M → Halt → Type 0
PlayHalts kept k = IsHalt kept k (HoldsOneMoment k)

-- ---- of a specification

-- the budget is below its need, and named sets of its game fill it
pub record IsShort (budget : ℕ) (s : Specification) : Type 0 where
  pub few : budget < need_of s
  pub crowded : Crowded (game_of s) budget

-- the same of one of those that trying for its core asks about
pub record IsShortInTurn (budget : ℕ) (s : Specification) : Type 0 where
  pub few : budget < need_of s
  pub part : Specification
  pub tried : Tried s part
  pub crowded : Crowded (game_of part) budget

-- why a specification may get no verdict: memory may run out at any
abbrev pub MayHalt : (budget : ℕ) → Specification → Halt → Type 0
MayHalt budget s Budget = IsShort budget s
MayHalt budget s Memory = Unit {0}

-- and no core
abbrev pub MayHaltInTurn : (budget : ℕ) → Specification → Halt → Type 0
MayHaltInTurn budget s Budget = IsShortInTurn budget s
MayHaltInTurn budget s Memory = Unit {0}

abbrev pub MayFail : (budget : ℕ) → Specification → CoreFault Halt → Type 0
MayFail budget s (faults.Judge halt) = MayHaltInTurn budget s halt
MayFail budget s faults.Memory = Unit {0}
