-- What a verdict says of a specification.
use Rattle.std.specs.Prelude.{◌≡◌, ℕ, [], length}
use Rattle.spec_model.specs.Syntax.{Specification}
use Rattle.spec_model.specs.Games.{GameData}
use Rattle.spec_model.specs.Agreement.{Agrees}
use Rattle.spec_model.specs.Laws.{NumbersRise}
use Rattle.regions.specs.Kept.{Kept}
use Rattle.hidden_game.specs.GameOf.{game_of}
use Rattle.gr1_law.specs.Layers.{round_count}
use Rattle.gr1_law.specs.EnvLayers.{denial_count}
use Rattle.gr1_sys.specs.Held.{ranks_of}
use Rattle.gr1_env.specs.Solved.{counts_of}
use Rattle.counterstrategy.specs.declared.counterstrategy.Counterstrategy.{Counterstrategy}
use Rattle.counterstrategy.specs.Objects as counters
use Rattle.controller.specs.declared.controller.Controller.{Controller}
use Rattle.controller.specs.Objects as controllers
use Rattle.solve.specs.declared.answers.Numbers.{Numbers}
use Rattle.solve.specs.declared.answers.Numbers.TheVariants as numbers
use Rattle.solve.specs.declared.answers.Opposition.{Opposition}
use Rattle.solve.specs.declared.answers.Opposition.TheVariants as opposition
use Rattle.solve.specs.declared.answers.Verdict.{Verdict}
use Rattle.solve.specs.declared.answers.Verdict.TheVariants.{Realizable, Unrealizable}
use Rattle.solve.specs.Spaces.{space_kept}
use Rattle.solve.specs.Winners.{IsWonGame, IsLostGame, IsWonBySystem, IsWonByEnvironment}

-- The strategy has made no move, it stands for the empty play, its game is the specification's own, with the same hidden tables
-- in the same order, which agrees with it, and k is its number of rounds.
pub record IsPlayFor {G R M : Type 0} (kept : G → Kept R M) (s : Specification) (k : ℕ) (c : Controller G R M) : Type 0 where
  pub fresh : controllers.IsFresh c
  pub stands : controllers.Stands kept c
  pub game : controllers.game_of kept c ≡ game_of s
  pub agrees : Agrees s (controllers.game_of kept c)
  pub rounds : k ≡ round_count (ranks_of c.layers.items)

-- The strategy has given no input, it stands for the empty play alone, its game is the specification's own, with the same hidden
-- tables in the same order, which agrees with it, line numbers rise, and n and m are its numbers of shifts and of denials in a row.
pub record IsCounterplayFor {G R M : Type 0} (kept : G → Kept R M) (s : Specification) (n m : ℕ) (c : Counterstrategy G R M) : Type 0 where
  pub fresh : counters.IsFresh c
  pub empty : counters.InEachPlay kept c (λ e h notes b k. h ≡ [])
  pub stands : counters.Stands kept c
  pub game : counters.game_of kept c ≡ game_of s
  pub agrees : Agrees s (counters.game_of kept c)
  pub rise : NumbersRise s.lines
  pub shifts : n ≡ length c.layers.items
  pub denials : m ≡ denial_count (counters.game_of kept c) (length c.layers.items) (counts_of c.layers.items)

-- the winner's numbers, of a game and of a specification
abbrev pub AreNumbersOfGame : GameData → Numbers → Type 0
AreNumbersOfGame g (numbers.Realizable k) = IsWonGame g k
AreNumbersOfGame g (numbers.Unrealizable n m) = IsLostGame g n m

abbrev pub AreNumbersOf : Specification → Numbers → Type 0
AreNumbersOf s (numbers.Realizable k) = IsWonBySystem s k
AreNumbersOf s (numbers.Unrealizable n m) = IsWonByEnvironment s n m

-- the winner, with the numbers and the strategy
abbrev pub IsVerdictOn : Specification → Verdict → Type 0
IsVerdictOn s (Realizable k play) = IsWonBySystem s k × IsPlayFor space_kept s k play
IsVerdictOn s (Unrealizable n m play) = IsWonByEnvironment s n m × IsCounterplayFor space_kept s n m play

-- the winner, with the numbers, and the environment's strategy where it wins
abbrev pub IsOppositionOn : Specification → Opposition → Type 0
IsOppositionOn s (opposition.Realizable k) = IsWonBySystem s k
IsOppositionOn s (opposition.Unrealizable n m play) = IsWonByEnvironment s n m × IsCounterplayFor space_kept s n m play
