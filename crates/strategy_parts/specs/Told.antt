-- What is told where a strategy isn't made, since a budget ran out.
use Rattle.std.specs.Prelude.{◌≡◌, ◌⊎◌, ℕ, ◌+◌, List, [], ◌∷◌, map, Some, None}
use Rattle.spec_model.specs.declared.value.Owner.{Owner}
use Rattle.spec_model.specs.declared.value.Owner.TheVariants.{Env, Sys}
use Rattle.spec_model.specs.Sets.{StateSet}
use Rattle.regions.specs.declared.types.Halt.{Halt}
use Rattle.regions.specs.declared.types.Halt.TheVariants.{Budget, Memory}
use Rattle.regions.specs.declared.types.When.{When}
use Rattle.regions.specs.Kept.{Kept, Meaning, States, Outputs, Inputs, Each, Call, All, NoStates, Holding, OutMoves, InMoves, Jam, weigh, weight}
use Rattle.strategy_parts.specs.Owned.{Every}

-- it is one of them
abbrev pub IsIn : StateSet → List StateSet → Type 0
IsIn s [] = ⊥
IsIn s (t ∷ ts) = (s ≡ t) ⊎ IsIn s ts

-- the moves of a side that lead into a set
abbrev pub moves_meant : Owner → When → StateSet → Meaning
moves_meant Sys when s = Outputs when s
moves_meant Env when s = Inputs when s

-- and the call that makes them
abbrev pub moves_asked : Owner → When → Call
moves_asked Sys when = OutMoves when
moves_asked Env when = InMoves when

-- What may be made besides the layers for the strategy of a side: these sets of states, and the moves into the targets of that
-- time.
pub record Tale : Type 0 where
  pub who : Owner
  pub sets : List StateSet
  pub targets : When → List StateSet

abbrev pub IsMadeBy : Owner → List StateSet → (When → List StateSet) → Meaning → Type 0
IsMadeBy who sets targets (States s) = IsIn s sets
IsMadeBy Sys sets targets (Outputs when s) = IsIn s (targets when)
IsMadeBy Env sets targets (Inputs when s) = IsIn s (targets when)
IsMadeBy who sets targets m = ⊥

abbrev pub IsMade : Tale → Meaning → Type 0
IsMade tale = IsMadeBy tale.who tale.sets tale.targets

-- Only these calls are made: for the side's moves, into a target of that time, and without an argument for the states of a
-- goal, and on the environment's side for no states.
abbrev pub AsksFor : Owner → (When → List StateSet) → Call → List Meaning → Type 0
AsksFor Sys targets (OutMoves when) asked = (s : StateSet) × IsIn s (targets when) × (asked ≡ States s ∷ [])
AsksFor Env targets (InMoves when) asked = (s : StateSet) × IsIn s (targets when) × (asked ≡ States s ∷ [])
AsksFor who targets Holding asked = asked ≡ []
AsksFor who targets All asked = asked ≡ []
AsksFor Env targets NoStates asked = asked ≡ []
AsksFor who targets _ asked = ⊥

abbrev pub AsksOf : Tale → Call → List Meaning → Type 0
AsksOf tale = AsksFor tale.who tale.targets

module _ {R M : Type 0} where
  -- each region stands for a target of that time
  abbrev pub AreTargets : Tale → When → Kept R M → List R → Type 0
  AreTargets tale when k rs = Every (λ r. IsIn (k.set r) (tale.targets when)) rs

  -- A budget that ran out is told: which call, of what, and what was held then, order aside: what was held at first, and what was made.
  pub record TellsBudget (old new : Kept R M) (tale : Tale) : Type 0 where
    pub jam : Jam
    pub told : new.jam ≡ Some jam
    pub besides : List Meaning
    pub held : (w : Meaning → ℕ) → weigh w jam.held ≡ weigh w besides + weight old (λ i m. w m)
    pub made : Each (IsMade tale) besides
    pub asked : AsksOf tale jam.call jam.arguments

  abbrev pub TellsHalt : Kept R M → Kept R M → Tale → Halt → Type 0
  TellsHalt old new tale Budget = TellsBudget old new tale
  TellsHalt old new tale Memory = new.jam ≡ None

  -- the moves of a side into each region
  abbrev pub leadings : Kept R M → Owner → When → List R → List Meaning
  leadings k who when rs = map (λ r. moves_meant who when (k.set r)) rs
