-- What is told of the sets of one moment when a call halts, and which sets are of a part.
use Rattle.std.specs.Prelude.{◌≡◌, ℕ, List, [], ◌∷◌, map, Some, None}
use Rattle.spec_model.specs.Games.{GameData}
use Rattle.spec_model.specs.Sets.{StateSet, rest}
use Rattle.regions.specs.declared.types.Halt.{Halt}
use Rattle.regions.specs.declared.types.Halt.TheVariants.{Budget, Memory}
use Rattle.regions.specs.Kept.{Kept, Meaning, States, Each, Call, All, NoStates, And, Or, Not, Holding, PreSys, StartSys, Jam, JamAdds}
use Rattle.gr1_law.specs.Layers.{assumption_set, assumption_sets}
use Rattle.gr1_sys.specs.Moment.{IsGoal, IsAssumption, IsValueOfZ, base_of, IsIterate, IsNamed}

-- ---- what is told

abbrev pub IsOfMoment : GameData → StateSet → Meaning → Type 0
IsOfMoment g z (States t) = IsNamed g z t
IsOfMoment g z _ = ⊥

abbrev pub IsIterateOfMoment : GameData → StateSet → Meaning → Type 0
IsIterateOfMoment g z (States t) = IsIterate g z t
IsIterateOfMoment g z _ = ⊥

-- Only these calls are made: whether the first state is forced into a set is asked of the value, and from where the next is, of iterates.
abbrev pub AsksOfIterates : GameData → StateSet → Call → List Meaning → Type 0
AsksOfIterates g z PreSys asked = Each (IsIterateOfMoment g z) asked
AsksOfIterates g z StartSys asked = asked ≡ States z ∷ []
AsksOfIterates g z All asked = Unit {0}
AsksOfIterates g z NoStates asked = Unit {0}
AsksOfIterates g z And asked = Unit {0}
AsksOfIterates g z Or asked = Unit {0}
AsksOfIterates g z Not asked = Unit {0}
AsksOfIterates g z Holding asked = Unit {0}
AsksOfIterates g z _ asked = ⊥

module _ {R M : Type 0} where
  -- A budget that ran out is told, with what was held then: what was held at first, and of what was made only sets of this moment.
  pub record TellsMoment (old new : Kept R M) (z : StateSet) : Type 0 where
    pub jam : Jam
    pub told : new.jam ≡ Some jam
    pub adds : JamAdds old (IsOfMoment old.game z) jam
    pub asked : AsksOfIterates old.game z jam.call jam.arguments

  -- where a call halted for this value of Z
  abbrev pub TellsHalt : Kept R M → Kept R M → StateSet → Halt → Type 0
  TellsHalt old new z Budget = TellsMoment old new z
  TellsHalt old new z Memory = new.jam ≡ None

  -- where it halted for some value of Z
  abbrev pub TellsOneMoment : Kept R M → Kept R M → Halt → Type 0
  TellsOneMoment old new Budget = (z : StateSet) × (IsValueOfZ old.game z × TellsMoment old new z)
  TellsOneMoment old new Memory = new.jam ≡ None

-- ---- what a part is made for

-- The two sets are the base of a layer's parts, and the states at which the assumption is false.
pub record AreOfPart (g : GameData) (z : StateSet) (j r i : ℕ) (base away : StateSet) : Type 0 where
  pub goal_in : IsGoal g j
  pub index_in : IsAssumption g i
  pub base_is : base ≡ base_of g z j r
  pub away_is : away ≡ rest g (assumption_set g i)

-- the sets are those at which each assumption is false
abbrev pub AreLapses : GameData → List StateSet → Type 0
AreLapses g sets = sets ≡ map (rest g) (assumption_sets g)
