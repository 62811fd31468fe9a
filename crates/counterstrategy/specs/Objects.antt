-- What a strategy is seen as: which noted plays it stands for, and what it holds.
use Rattle.std.specs.Prelude.{◌≡◌, ◌≤◌, ◌++◌, ℕ, suc, List, [], ◌∷◌, length, Some, None, true, false}
use Rattle.spec_model.specs.Values.{Assignment}
use Rattle.spec_model.specs.Rules.{Run, after}
use Rattle.spec_model.specs.Unrealizable.{NoteData, Shift, Deny}
use Rattle.spec_model.specs.Games.{GameData}
use Rattle.spec_model.specs.Steps.{Before, reached}
use Rattle.spec_model.specs.WellMade.{WellMade}
use Rattle.regions.specs.declared.types.When.TheVariants.{First, Later}
use Rattle.regions.specs.Kept.{Kept, Item, Stays, IsSameGame}
use Rattle.regions.specs.Rules.{input_count}
use Rattle.game_play.specs.Judged.{IsOutputJudgeOf}
use Rattle.gr1_law.specs.Layers.{goal_sets, assumption_sets}
use Rattle.gr1_law.specs.EnvLayers.{EnvLayerSets}
use Rattle.gr1_law.specs.Counter.{CounterMemory, first_counter, IsGiven, IsNoted, note_of, AnsweredPlay}
use Rattle.gr1_law.specs.CounterLaws.{IsLostWith}
use Rattle.gr1_env.specs.declared.layers.EnvLayer.{EnvLayer}
use Rattle.gr1_env.specs.Solved.{counts_of, denials_of}
use Rattle.strategy_parts.specs.Owned.{HasAll, SpendsAll, MakesAll}
use Rattle.strategy_parts.specs.Positions.{IsWholeBefore}
use Rattle.counterstrategy.specs.declared.kit.Kit.{Kit}
use Rattle.counterstrategy.specs.declared.counterstrategy.Counterstrategy.{Counterstrategy}
use Rattle.counterstrategy.specs.declared.counterstrategy.Note.{Note}
use Rattle.counterstrategy.specs.declared.counterstrategy.Note.TheVariants as variant
use Rattle.counterstrategy.specs.Forced.{MovesLead, ChainsLead}
use Rattle.counterstrategy.specs.Settled.{LayersAre, GoalsAre}
use Rattle.counterstrategy.specs.Owned.{layer_items, kit_items}
use Rattle.counterstrategy.specs.Made.{made_meanings}
use Rattle.counterstrategy.specs.Places.{IsAt}
use Rattle.counterstrategy.specs.Turns.{rank_kept}

-- a note, as the laws have it
abbrev pub note_data : Note → NoteData
note_data variant.Shift = Shift
note_data (variant.Deny label) = Deny label

module _ {G R M : Type 0} where
  -- The regions and the moves are those of the layers, into the last of which the environment forces the first state.
  pub record AreSound (k : Kept R M) (ls : List (EnvLayer G R M)) (kit : Kit G R M) (e : EnvLayerSets) : Type 0 where
    pub made : WellMade k.game
    pub lost : IsLostWith k.game e (length ls) (counts_of ls)
    pub layers : LayersAre k ls e
    pub goals : GoalsAre k kit
    pub first : MovesLead k First kit.first.items e.z
    pub first_counted : length kit.first.items ≡ suc (length ls)
    pub later : MovesLead k Later kit.later.items e.z
    pub later_counted : length kit.later.items ≡ suc (length ls)
    pub delays : ChainsLead k kit.delays.items (length ls) (length (goal_sets k.game)) (length (assumption_sets k.game)) e (counts_of ls)

  -- all that it owns: the layers, the states of the goals and the assumptions, and the moves
  abbrev pub items_of : Counterstrategy G R M → List (Item R M)
  items_of c = layer_items c.layers.items ++ kit_items c.kit

  -- whether an input was given, and the one that was given last
  abbrev pub IsFresh : Counterstrategy G R M → Type 0
  IsFresh c = c.has_given ≡ false

  abbrev pub HasGiven : Counterstrategy G R M → Type 0
  HasGiven c = c.has_given ≡ true

  abbrev pub given_by : Counterstrategy G R M → Assignment
  given_by c = c.given.items

  module _ (kept : G → Kept R M) where
    abbrev pub game_of : Counterstrategy G R M → GameData
    game_of c = (kept c.g).game

    abbrev pub IsSound : Counterstrategy G R M → EnvLayerSets → Type 0
    IsSound c e = AreSound (kept c.g) c.layers.items c.kit e

    -- It stands for this noted play of given inputs, which ends in its state with what it remembers; where it has given an
    -- input, that is the one which is given after the play, and after a denial the number of the iterate is kept with it.
    pub record StandsFor (c : Counterstrategy G R M) (e : EnvLayerSets) (h : Run) (notes : List NoteData) (b : Before) (k : CounterMemory) : Type 0 where
      pub sound : IsSound c e
      pub play : AnsweredPlay (game_of c) e h notes b k
      pub whole : IsWholeBefore (game_of c) b
      pub place : IsAt (game_of c) c.place b k
      pub given : HasGiven c → (r : ℕ) × IsGiven (game_of c) e b k r (given_by c) × (c.rank ≡ rank_kept k r)
      pub room : length (given_by c) ≡ input_count (game_of c)
      pub owned : HasAll (kept c.g) (items_of c)
      pub few : denials_of c.layers.items ≤ 18446744073709551615
      pub judge : IsOutputJudgeOf (game_of c) c.judge

    abbrev pub Stands : Counterstrategy G R M → Type 0
    Stands c = (e : EnvLayerSets) × (h : Run) × (notes : List NoteData) × (b : Before) × (k : CounterMemory) × StandsFor c e h notes b k

    -- something holds of each play that it stands for
    abbrev pub InEachPlay : Counterstrategy G R M → (EnvLayerSets → Run → List NoteData → Before → CounterMemory → Type 0) → Type 0
    InEachPlay c P = (e : EnvLayerSets) (h : Run) (notes : List NoteData) (b : Before) (k : CounterMemory) → StandsFor c e h notes b k → P e h notes b k

    -- It stands for the play, and the input is the one that is given after it.
    pub record Gives (c : Counterstrategy G R M) (e : EnvLayerSets) (h : Run) (notes : List NoteData) (b : Before) (k : CounterMemory) (x : Assignment) : Type 0 where
      pub stands : StandsFor c e h notes b k
      pub has_given : HasGiven c
      pub input : given_by c ≡ x
      pub rank : ℕ
      pub given : IsGiven (game_of c) e b k rank x

    -- The note is that of the position which the reply completes, and it stands for the play with this position and its note.
    pub record Completes (old new : Counterstrategy G R M) (e : EnvLayerSets) (h : Run) (notes : List NoteData) (b : Before) (k : CounterMemory) (y : Assignment) (shown : Note) (next : CounterMemory) : Type 0 where
      pub noted : IsNoted (game_of old) e k (reached (game_of old) b (given_by old) y) next
      pub note : note_data shown ≡ note_of (game_of old) next
      pub stands : StandsFor new e (after h (given_by old) y) (notes ++ note_of (game_of old) next ∷ []) (Some (reached (game_of old) b (given_by old) y)) next
      pub fresh : IsFresh new

    -- The note is that of the position which the reply completes. It stands for the play with this position and its note, and
    -- the input is the one that is given then.
    pub record GoesOn (old new : Counterstrategy G R M) (e : EnvLayerSets) (h : Run) (notes : List NoteData) (b : Before) (k : CounterMemory) (y : Assignment) (shown : Note) (next : CounterMemory) (x' : Assignment) : Type 0 where
      pub noted : IsNoted (game_of old) e k (reached (game_of old) b (given_by old) y) next
      pub note : note_data shown ≡ note_of (game_of old) next
      pub gives : Gives new e (after h (given_by old) y) (notes ++ note_of (game_of old) next ∷ []) (Some (reached (game_of old) b (given_by old) y)) next x'

    -- it stands for the empty play alone, and holds the moves, and the states of the goals and the assumptions, besides what was held
    pub record Begins (old : Kept R M) (ls : List (EnvLayer G R M)) (e : EnvLayerSets) (c : Counterstrategy G R M) : Type 0 where
      pub stands : StandsFor c e [] [] None first_counter
      pub empty : InEachPlay c (λ e h notes b k. (h ≡ []) × (notes ≡ []) × (b ≡ None) × (k ≡ first_counter))
      pub fresh : IsFresh c
      pub made : MakesAll old (kept c.g) (kit_items c.kit) (made_meanings old ls)
      pub game : IsSameGame old (kept c.g)
      pub same_layers : c.layers.items ≡ ls

    -- all that it owns is spent
    pub record GivesBack (c : Counterstrategy G R M) (g : G) : Type 0 where
      pub spent : SpendsAll (kept c.g) (kept g) (items_of c)
      pub game : IsSameGame (kept c.g) (kept g)

    -- nothing is held more or less, and the regions and the moves are the same
    pub record HoldsTheSame (old new : Counterstrategy G R M) : Type 0 where
      pub held : Stays (kept old.g) (kept new.g)
      pub game : IsSameGame (kept old.g) (kept new.g)
      pub layers : new.layers ≡ old.layers
      pub kit : new.kit ≡ old.kit
      pub judge : new.judge ≡ old.judge
