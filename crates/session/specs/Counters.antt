-- The environment's strategy in a talk: the noted plays of a specification that it stands for.
use Rattle.std.specs.Prelude.{◌≡◌, ℕ, [], List, length}
use Rattle.spec_model.specs.Values.{Assignment}
use Rattle.spec_model.specs.Syntax.{Specification}
use Rattle.spec_model.specs.Laws.{NumbersRise}
use Rattle.spec_model.specs.Rules.{Run}
use Rattle.spec_model.specs.Unrealizable.{NoteData}
use Rattle.spec_model.specs.Agreement.{Agrees}
use Rattle.spec_model.specs.Steps.{Before}
use Rattle.regions.specs.Kept.{Kept}
use Rattle.gr1_law.specs.EnvLayers.{EnvLayerSets, denial_count}
use Rattle.gr1_law.specs.Counter.{CounterMemory}
use Rattle.gr1_env.specs.Solved.{counts_of}
use Rattle.counterstrategy.specs.declared.counterstrategy.Counterstrategy.{Counterstrategy}
use Rattle.counterstrategy.specs.Objects.{game_of as game_played, IsFresh, HasGiven, given_by, StandsFor, InEachPlay}
use Rattle.session.specs.CounterTerms.{CounterState}

module _ {G R M : Type 0} where
  -- N, by the layers that it was made for
  abbrev pub shifts_of : Counterstrategy G R M → ℕ
  shifts_of c = length c.layers.items

  module _ (kept : G → Kept R M) where
    -- M, by the iterates of their holds
    abbrev pub denials_of : Counterstrategy G R M → ℕ
    denials_of c = denial_count (game_played kept c) (shifts_of c) (counts_of c.layers.items)

    -- its game agrees with the specification, whose line numbers rise
    pub record IsCounterOf (c : Counterstrategy G R M) (s : Specification) : Type 0 where
      pub agrees : Agrees s (game_played kept c)
      pub rise : NumbersRise s.lines

    -- no position was played yet
    abbrev pub HasPlayedNothing : Counterstrategy G R M → Type 0
    HasPlayedNothing c = InEachPlay kept c (λ e h notes b k. h ≡ [])

    -- It stands for this noted play of the specification; n and m are its numbers.
    pub record StandsIn (c : Counterstrategy G R M) (s : Specification) (n m : ℕ) (h : Run) (notes : List NoteData) : Type 0 where
      pub is_of : IsCounterOf c s
      pub shifts : n ≡ shifts_of c
      pub denials : m ≡ denials_of c
      pub layers : EnvLayerSets
      pub before : Before
      pub memory : CounterMemory
      pub stands : StandsFor kept c layers h notes before memory

    -- and it has given no input yet
    pub record WaitsIn (c : Counterstrategy G R M) (s : Specification) (n m : ℕ) (h : Run) (notes : List NoteData) : Type 0 where
      pub place : StandsIn c s n m h notes
      pub fresh : IsFresh c

    -- and has given this input after it
    pub record GivesIn (c : Counterstrategy G R M) (s : Specification) (n m : ℕ) (h : Run) (notes : List NoteData) (x : Assignment) : Type 0 where
      pub place : StandsIn c s n m h notes
      pub has_given : HasGiven c
      pub input : given_by c ≡ x

    -- likewise of a state of the talk
    abbrev pub waits_in : Counterstrategy G R M → Specification → CounterState → Type 0
    waits_in c s st = WaitsIn c s st.shifts st.denials st.play st.notes

    abbrev pub gives_in : Counterstrategy G R M → Specification → CounterState → Type 0
    gives_in c s st = GivesIn c s st.shifts st.denials st.play st.notes st.input
