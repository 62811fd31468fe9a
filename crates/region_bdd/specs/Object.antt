-- What an object of regions as diagrams keeps true, and what it is seen as.
use Rattle.std.specs.Prelude.{◌≡◌, ℕ, ◌+◌, false, not, List, [], ◌∷◌, ◌++◌, map, Option, Some, None}
use Rattle.spec_model.specs.Diagrams.{Function}
use Rattle.spec_model.specs.Games.{GameData}
use Rattle.spec_model.specs.Sets.{all_states}
use Rattle.spec_model.specs.WellMade.{WellMade}
use Rattle.game_values.specs.declared.seen.At.TheVariants.{Now, Next}
use Rattle.regions.specs.Kept.{Kept, Meaning, Call, Jam}
use Rattle.regions.specs.Kept as kept
use Rattle.regions.specs.declared.types.When.TheVariants.{First, Later}
use Rattle.bdd_store.specs.State.{roots_at}
use Rattle.bdd_bits.specs.Contents.{Contents, function_at, IsDeclared}
use Rattle.bit_compile.specs.Domains.{state_domains}
use Rattle.bit_compile.specs.Compiled.{compiled, proper}
use Rattle.bdd_sets.specs.NextOrders.{FitsNext}
use Rattle.bdd_sets.specs.declared.moves.Members.{Members}
use Rattle.bdd_sets.specs.StateBits.{TellsStates, Tells, set_at}
use Rattle.bdd_sets.specs.ToldMoves.{TellsMoves, some_leads}
use Rattle.bdd_sets.specs.Forcing.{FitMoves}
use Rattle.bdd_sets.specs.MoveBits.{AreLevelsOf}
use Rattle.bdd_sets.specs.declared.moves.NextLevels.{NextLevels}
use Rattle.bdd_sets.specs.Members.{move_functions, functions_at, lists_at}
use Rattle.bdd_sets.specs.MoveFunctions.{MoveFunctions}
use Rattle.bdd_sets.specs.Lists.{one_at, times_in}
use Rattle.bdd_sets.specs.Goals.{TellGoals}
use Rattle.bdd_sets.specs.NamedGame.{lines_of}
use Rattle.bdd_products.specs.Early.{FitsEarly, AreLinesOf, roots_of_early, is_grouped}
use Rattle.region_bdd.specs.declared.slots.Slot.{Slot}
use Rattle.region_bdd.specs.declared.slots.Slot.TheVariants.{Free, Taken, Spent}
use Rattle.region_bdd.specs.declared.slots.BddRegion.{BddRegion}
use Rattle.region_bdd.specs.declared.slots.BddMove.{BddMove}
use Rattle.region_bdd.specs.declared.own.Own.{Own}
use Rattle.region_bdd.specs.declared.own.Asked.{Asked}
use Rattle.region_bdd.specs.declared.own.Asked.TheVariants as asked
use Rattle.region_bdd.specs.declared.own.Refused.{Refused}
use Rattle.region_bdd.specs.Bound.{bound_of}
use Rattle.region_bdd.specs.Needs.{IsTight}
use Rattle.region_bdd.specs.Crowding.{LeadsInto, IsJammed}
use Rattle.region_bdd.specs.Slots.{Shown, Nothing, Set, OutputsInto, InputsInto, shown_of, shown_once, shown_meaning, shown_at, meanings_in, kept_in, roots_of_slots}

-- ---- what the object keeps for itself

pub record OwnFunctions : Type 0 where
  pub nothing : Function
  pub proper : Function
  pub assume : List Function
  pub goals : List Function
  pub first : MoveFunctions
  pub later : MoveFunctions

abbrev pub own_functions : Contents → Own → OwnFunctions
own_functions c own =
    record {
      nothing = function_at c own.step.nothing;
      proper = function_at c own.step.proper;
      assume = functions_at c own.assume.items;
      goals = functions_at c own.goals.items;
      first = move_functions c own.first;
      later = move_functions c own.step.later;
    }

pub record OwnFits (g : GameData) (own : OwnFunctions) : Type 0 where
  pub nothing : own.nothing ≡ (λ b. false)
  pub proper : Tells g Now own.proper (all_states g)
  pub assume : TellGoals g g.assume own.assume
  pub goals : TellGoals g g.goals own.goals
  pub first : FitMoves g First own.first
  pub later : FitMoves g Later own.later

abbrev pub roots_of_members : ℕ → Members → ℕ
roots_of_members n m = times_in n m.inputs.items + (times_in n m.outputs.items + times_in n m.update.items)

-- how often the object keeps the root for itself
abbrev pub roots_of_own : ℕ → Own → ℕ
roots_of_own n own = one_at n own.step.nothing + (one_at n own.step.proper + (times_in n own.assume.items + (times_in n own.goals.items + (roots_of_members n own.first + (roots_of_members n own.step.later + roots_of_early n own.early)))))

-- the products, if there are any, are of the lines of later moves
abbrev pub FitsOwnEarly : NextLevels → Contents → Own → Type 0
FitsOwnEarly lists c own = FitsEarly (move_functions c own.step.later) lists c own.early

-- What is kept are the diagrams of the game's own formulas: all states, its goals, and its lines; so are the products' lines
-- under the declared order, and under another one they are grouped.
pub record OwnIsNamed (g : GameData) (to : List ℕ) (c : Contents) (own : Own) : Type 0 where
  pub states : function_at c own.step.proper ≡ proper (state_domains g) Now
  pub assume : functions_at c own.assume.items ≡ map (λ goal. compiled g goal.holds) g.assume
  pub goals : functions_at c own.goals.items ≡ map (λ goal. compiled g goal.holds) g.goals
  pub first : lists_at c own.first ≡ lines_of g to First
  pub later : lists_at c own.step.later ≡ lines_of g to Later
  pub early : IsDeclared c → AreLinesOf (lines_of g to Later) c own.early
  pub plain : IsDeclared c → is_grouped own.early ≡ false

-- ---- what slots hold

-- The functions tell states; that of inputs is true where every legal output leads into the set, and is named so.
abbrev pub ShownFits : GameData → Shown → Type 0
ShownFits g Nothing = Unit {0}
ShownFits g (Set f) = TellsStates g Now f
ShownFits g (OutputsInto when f) = TellsStates g Next f
ShownFits g (InputsInto when f leads) = TellsStates g Now f × TellsMoves g when leads (λ b s. not (some_leads g (λ s. not (set_at g Now f s)) b s.position.input)) × ∥ LeadsInto g when (set_at g Now f) leads ∥₁

abbrev pub AllFit : GameData → Contents → List Slot → Type 0
AllFit g c [] = Unit {0}
AllFit g c (slot ∷ slots) = ShownFits g (shown_of c slot) × AllFit g c slots

-- none is spent and keeps its diagrams
abbrev pub NoneSpent : List Slot → Type 0
NoneSpent [] = Unit {0}
NoneSpent (Free next ∷ slots) = NoneSpent slots
NoneSpent (Taken content ∷ slots) = NoneSpent slots
NoneSpent (Spent content ∷ slots) = ⊥

-- the kept roots are the object's own and those in slots, and each has the function that it is kept for
pub record IsSound (g : GameData) (c : Contents) (own : Own) (slots : List Slot) : Type 0 where
  pub counted : (n : ℕ) → roots_at c.state n ≡ roots_of_own n own + roots_of_slots n slots
  pub own_fits : OwnFits g (own_functions c own)
  pub slots_fit : AllFit g c slots

-- before the budget runs out no slot keeps what was spent
abbrev pub IsOpen : Option Refused → List Slot → Type 0
IsOpen None slots = NoneSpent slots
IsOpen (Some refused) slots = Unit {0}

-- ---- what is told of a refusal

abbrev pub call_of : Asked → Call
call_of asked.All = kept.All
call_of asked.NoStates = kept.NoStates
call_of asked.Copy = kept.Copy
call_of asked.And = kept.And
call_of asked.Or = kept.Or
call_of asked.Not = kept.Not
call_of asked.Holding = kept.Holding
call_of asked.PreSys = kept.PreSys
call_of asked.PreEnv = kept.PreEnv
call_of (asked.OutMoves when) = kept.OutMoves when
call_of (asked.InMoves when) = kept.InMoves when
call_of asked.StartSys = kept.StartSys
call_of asked.StartEnv = kept.StartEnv

-- the meaning of the argument in a slot
abbrev pub argument_in : GameData → List Shown → Option ℕ → List Meaning
argument_in g shown None = []
argument_in g shown (Some i) = shown_meaning g (shown_at shown i) ∷ []

abbrev pub jam_in : GameData → List Shown → Option Refused → Option Jam
jam_in g shown None = None
jam_in g shown (Some r) = Some (record { call = call_of r.asked; arguments = argument_in g shown r.first ++ argument_in g shown r.second; held = meanings_in g shown })

-- ---- the object

pub record IsObject (g : GameData) (c : Contents) (own : Own) (lists : NextLevels) (slots : List Slot) (refused : Option Refused) : Type 0 where
  pub made : WellMade g
  pub fits : FitsNext g lists.to.items c
  pub lists_are : AreLevelsOf g lists
  pub early : FitsOwnEarly lists c own
  pub named : ∥ OwnIsNamed g lists.to.items c own ∥₁
  pub sound : IsSound g c own slots
  pub unspent : IsOpen refused slots
  pub tight : IsTight refused c.state.table
  pub jammed : IsJammed g c (jam_in g (map (shown_once c) slots) refused)

abbrev pub kept_of : GameData → Contents → List Slot → Option Refused → Kept BddRegion BddMove
kept_of g c slots refused = kept_in g (bound_of c) (jam_in g (map (shown_once c) slots) refused) (map (shown_of c) slots)
