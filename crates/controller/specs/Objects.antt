-- What a strategy is seen as: which plays it stands for, and what it holds.
use Rattle.std.specs.Prelude.{◌≡◌, ◌≤◌, ◌+◌, ◌++◌, ℕ, suc, List, [], ◌∷◌, Vec, length, sum, Some, None, true, false, IsTrue}
use Rattle.std.specs.declared.alloc.Global.{Global}
use Rattle.spec_model.specs.Values.{Assignment}
use Rattle.spec_model.specs.Rules.{Run, after}
use Rattle.spec_model.specs.Games.{GameData}
use Rattle.spec_model.specs.Steps.{Before, reached}
use Rattle.spec_model.specs.Sets.{StateSet, system_forces}
use Rattle.spec_model.specs.WellMade.{WellMade}
use Rattle.regions.specs.declared.types.When.TheVariants.{First}
use Rattle.regions.specs.Kept.{Kept, Item, Stays, IsSameGame}
use Rattle.game_play.specs.Judged.{IsJudgeOf}
use Rattle.gr1_law.specs.Layers.{LayerSets, IsWinning, AreGreatestRanks, goal_set, goal_sets, assumption_sets}
use Rattle.gr1_law.specs.Choice.{Memory, first_memory, IsChosen, ChosenPlay}
use Rattle.gr1_sys.specs.Held.{AllHaveParts, ranks_of}
use Rattle.gr1_sys.specs.declared.layers.SysLayer.{SysLayer}
use Rattle.controller.specs.declared.aims.Aim.{Aim}
use Rattle.controller.specs.declared.controller.Controller.{Controller}
use Rattle.strategy_parts.specs.Owned.{RegionsAre, HasAll, SpendsAll, MakesAll}
use Rattle.controller.specs.Aims.{AimsLead, GoalsLead, AllLayersAre}
use Rattle.controller.specs.Owned.{layer_items, made_items}
use Rattle.controller.specs.Made.{made_meanings}
use Rattle.controller.specs.Places.{IsAt}
use Rattle.strategy_parts.specs.Positions.{IsWholeBefore}
use Rattle.controller.specs.Turns.{HaveParts}
use Rattle.controller.specs.Replies.{AreRepliesOf, HasRoomFor}

module _ {G R M : Type 0} where
  -- each layer of each goal has so many parts
  abbrev pub AllAimsHaveParts : ℕ → List (Vec (Aim G R M) Global) → Type 0
  AllAimsHaveParts n [] = Unit {0}
  AllAimsHaveParts n (v ∷ vs) = HaveParts n v.items × AllAimsHaveParts n vs

  -- there are moves into each layer
  abbrev pub AreAlike : List (Vec (Aim G R M) Global) → List (Vec (SysLayer G R M) Global) → Type 0
  AreAlike [] [] = Unit {0}
  AreAlike (a ∷ more) [] = ⊥
  AreAlike [] (v ∷ vs) = ⊥
  AreAlike (a ∷ more) (v ∷ vs) = (length a.items ≡ length v.items) × AreAlike more vs

  -- as many first moves as the first goal has layers
  abbrev pub IsFirstOf : List (Aim G R M) → List (Vec (SysLayer G R M) Global) → Type 0
  IsFirstOf first [] = ⊥
  IsFirstOf first (v ∷ vs) = length first ≡ length v.items

  -- The regions and the moves are those of the layers of the winning states, from which the system starts.
  pub record AreSound (k : Kept R M) (layers : List (Vec (SysLayer G R M) Global)) (first_aims : List (Aim G R M)) (later_aims : List (Vec (Aim G R M) Global)) (held_goals : List R) (z : StateSet) (l : LayerSets) : Type 0 where
    pub made : WellMade k.game
    pub won : IsWinning k.game z l
    pub ranks : AreGreatestRanks k.game l (ranks_of layers)
    pub starts : IsTrue (system_forces k.game z None)
    pub first : AimsLead k First first_aims (λ r. l.y 0 (suc r)) (λ r. l.x 0 (suc r))
    pub goals : GoalsLead k later_aims (λ j r. l.y j (suc r)) (λ j r. l.x j (suc r))
    pub parts : AllAimsHaveParts (length (assumption_sets k.game)) later_aims
    pub regions : AllLayersAre k layers (λ j r. l.x j (suc r))
    pub region_parts : AllHaveParts (length (assumption_sets k.game)) layers
    pub holds : RegionsAre k held_goals (goal_set k.game)
    pub counted : length held_goals ≡ length (goal_sets k.game)
    pub alike : AreAlike later_aims layers
    pub first_alike : IsFirstOf first_aims layers

  -- all that it owns: Z and the layers, the states of the goals, and the moves
  abbrev pub items_of : Controller G R M → List (Item R M)
  items_of c = layer_items c.z c.layers.items ++ made_items c.first.items c.goals.items c.holds.items

  -- whether the play has begun
  abbrev pub IsFresh : Controller G R M → Type 0
  IsFresh c = c.place.position.started ≡ false

  abbrev pub IsStarted : Controller G R M → Type 0
  IsStarted c = c.place.position.started ≡ true

  module _ (kept : G → Kept R M) where
    abbrev pub game_of : Controller G R M → GameData
    game_of c = (kept c.g).game

    abbrev pub IsSound : Controller G R M → StateSet → LayerSets → Type 0
    IsSound c z l = AreSound (kept c.g) c.layers.items c.first.items c.goals.items c.holds.items z l

    -- it stands for this play of chosen outputs, which ends in its state with what it remembers
    pub record StandsFor (c : Controller G R M) (z : StateSet) (l : LayerSets) (h : Run) (b : Before) (m : Memory) : Type 0 where
      pub sound : IsSound c z l
      pub play : ChosenPlay (game_of c) l h b m
      pub whole : IsWholeBefore (game_of c) b
      pub place : IsAt (game_of c) c.place b m
      pub owned : HasAll (kept c.g) (items_of c)
      pub few : 1 + sum (ranks_of c.layers.items) ≤ 18446744073709551615
      pub judge : IsJudgeOf (game_of c) c.judge
      pub replies : AreRepliesOf (game_of c) l c.replies
      pub room : HasRoomFor (game_of c) c.replies

    abbrev pub Stands : Controller G R M → Type 0
    Stands c = (z : StateSet) × (l : LayerSets) × (h : Run) × (b : Before) × (m : Memory) × StandsFor c z l h b m

    -- something holds of each play that it stands for
    abbrev pub InEachPlay : Controller G R M → (StateSet → LayerSets → Run → Before → Memory → Type 0) → Type 0
    InEachPlay c P = (z : StateSet) (l : LayerSets) (h : Run) (b : Before) (m : Memory) → StandsFor c z l h b m → P z l h b m

    -- the output is the chosen one, and it stands for the play with the new position
    pub record GoesOn (old new : Controller G R M) (z : StateSet) (l : LayerSets) (h : Run) (b : Before) (m : Memory) (x y : Assignment) (next : Memory) : Type 0 where
      pub chosen : IsChosen (game_of old) l b m x y next
      pub stands : StandsFor new z l (after h x y) (Some (reached (game_of old) b x y)) next

    -- it stands for the empty play alone, and holds the moves into the layers, and the states of the goals, besides what was held
    pub record Begins (old : Kept R M) (z : R) (layers : List (Vec (SysLayer G R M) Global)) (l : LayerSets) (c : Controller G R M) : Type 0 where
      pub stands : StandsFor c (old.set z) l [] None first_memory
      pub fresh : InEachPlay c (λ t sets h b m. (h ≡ []) × (b ≡ None) × (m ≡ first_memory))
      pub not_started : IsFresh c
      pub made : MakesAll old (kept c.g) (made_items c.first.items c.goals.items c.holds.items) (made_meanings old layers)
      pub game : IsSameGame old (kept c.g)
      pub same_z : c.z ≡ z
      pub same_layers : c.layers.items ≡ layers

    -- all that it owns is spent
    pub record GivesBack (c : Controller G R M) (g : G) : Type 0 where
      pub spent : SpendsAll (kept c.g) (kept g) (items_of c)
      pub game : IsSameGame (kept c.g) (kept g)

    -- nothing is held more or less, and the regions and the moves are the same
    pub record HoldsTheSame (old new : Controller G R M) : Type 0 where
      pub held : Stays (kept old.g) (kept new.g)
      pub game : IsSameGame (kept old.g) (kept new.g)
      pub z : new.z ≡ old.z
      pub layers : new.layers ≡ old.layers
      pub first : new.first ≡ old.first
      pub goals : new.goals ≡ old.goals
      pub holds : new.holds ≡ old.holds
      pub judge : new.judge ≡ old.judge
