-- Too many seats are too many ends of plays.
use Rattle.std.proofs.Common.{◌≡◌, ◌<◌, ℕ, List, [], get_or, slice_get, Some, inl, inr, sym, ap, subst, ◌∙◌, arith}
use Rattle.std.proofs.lemmas.Option.{slice_get-get_or}
use Rattle.spec_model.specs.declared.value.Value.{Value}
use Rattle.spec_model.specs.Syntax.{Specification}
use Rattle.spec_model.specs.Games.{GameData, State, listed}
use Rattle.spec_model.specs.Sets.{StateSet}
use Rattle.spec_model.specs.Steps.{Before}
use Rattle.gr1_law.specs.Layers.{LayerSets, IsWinning}
use Rattle.gr1_law.specs.EnvLayers.{EnvLayerSets, AreEnvLayers}
use Rattle.gr1_law.specs.Choice.{Memory, first_memory}
use Rattle.gr1_law.specs.Counter.{CounterMemory, first_counter, IsGiven, AnsweredPlay}
use Rattle.regions.specs.Kept.{Kept}
use Rattle.hidden_game.specs.GameOf.{game_of}
use Rattle.controller.specs.declared.controller.Controller.{Controller}
use Rattle.controller.specs.declared.spot.Spot.{Spot}
use Rattle.controller.specs.Spots as system
use Rattle.counterstrategy.specs.declared.counterstrategy.Counterstrategy.{Counterstrategy}
use Rattle.counterstrategy.specs.Spots as environment
use Rattle.strategy_check.specs.Seats as seats
use Rattle.strategy_check.specs.Systems as systems
use Rattle.strategy_check.specs.Walks as walks
use Rattle.counter_tables.specs.Seats as counter_seats
use Rattle.counter_tables.specs.Environments as environments
use Rattle.counter_tables.specs.Walks as counter_walks
use Rattle.spectra_talks.specs.Exporting.{PlayEnd, PlaysEndAtMany, CounterplayEnd, CounterplaysEndAtMany, IsLargeForSystem, IsLargeForEnvironment}

-- ---- the system's

abbrev seat_of_parts : List Value → Spot → seats.SeatData
seat_of_parts values spot = record { values = values; spot = spot }

parts_are : (v : seats.SeatData) (values : List Value) (spot : Spot) → values ≡ v.values → spot ≡ v.spot → v ≡ seat_of_parts values spot
parts_are v values spot same also = sym (ap (λ (xs : List Value). seat_of_parts xs spot) same ∙ ap (seat_of_parts v.values) also)

module _ (g : GameData) (z : StateSet) (l : LayerSets) (winning : IsWinning g z l) (many : walks.AreTooMany g l) where
  abbrev seat : ℕ → seats.SeatData
  seat n = get_or many.0 n (record { values = []; spot = system.spot_at first_memory })

  there : (n : ℕ) → n < 1025 → slice_get many.0 n ≡ Some (seat n)
  there n below = slice_get-get_or many.0 n _ (let counted = many.1 in omega (arith, below, counted))

  end_at : (n : ℕ) → n < 1025 → PlayEnd g l
  end_at n below =
      let at = many.2 n (seat n) (there n below) in
      record { run = at.0; state = at.1; memory = at.2; play = at.3.play }

  -- the seat is that of the state with what is remembered
  is_at : (n : ℕ) (below : n < 1025) → seat n ≡ seat_of_parts (listed (end_at n below).state) (system.spot_at (end_at n below).memory)
  unfolding end_at
  is_at n below =
      let at = many.2 n (seat n) (there n below) in
      parts_are (seat n) (listed at.1) (system.spot_at at.2) at.3.lists at.3.remembered

  pub plays_end_at_many : PlaysEndAtMany g
  plays_end_at_many =
      record {
        winning_states = z;
        layers = l;
        winning = winning;
        ends = end_at;
        differ = λ m n a b same_state same_memory.
            let values = ap (λ (s : State). seat_of_parts (listed s) (system.spot_at (end_at m a).memory)) same_state in
            let spots = ap (λ (k : Memory). seat_of_parts (listed (end_at n b).state) (system.spot_at k)) same_memory in
            let same = is_at m a ∙ (values ∙ (spots ∙ sym (is_at n b))) in
            many.3 m n (seat n) (there m a ∙ ap Some same) (there n b);
      }

-- ---- the environment's

module _ (g : GameData) (e : EnvLayerSets) (are : AreEnvLayers g e) (many : counter_walks.AreTooMany g e) where
  abbrev counter_seat : ℕ → counter_seats.SeatData
  counter_seat n = get_or many.0 n (record { values = []; spot = environment.spot_at first_counter 0; reply = [] })

  counter_there : (n : ℕ) → n < 1025 → slice_get many.0 n ≡ Some (counter_seat n)
  counter_there n below = slice_get-get_or many.0 n _ (let counted = many.1 in omega (arith, below, counted))

  counter_end : (n : ℕ) → n < 1025 → CounterplayEnd g e
  counter_end n below =
      let at = many.2 n (counter_seat n) (counter_there n below) in
      record {
        run = at.0.run;
        notes = at.0.notes;
        state = at.2.state;
        memory = at.0.memory;
        rank = at.0.rank;
        input = at.0.input;
        play = subst (λ (b : Before). AnsweredPlay g e at.0.run at.0.notes b at.0.memory) at.2.before at.1.play;
        given = subst (λ (b : Before). IsGiven g e b at.0.memory at.0.rank at.0.input) at.2.before at.1.given;
      }

  counter_values : (n : ℕ) (below : n < 1025) → (counter_seat n).values ≡ listed (counter_end n below).state
  unfolding counter_end
  counter_values n below = let at = many.2 n (counter_seat n) (counter_there n below) in ap (λ (v : counter_seats.SeatData). v.values) (sym at.2.is)

  counter_spot : (n : ℕ) (below : n < 1025) → (counter_seat n).spot ≡ environment.spot_at (counter_end n below).memory (counter_end n below).rank
  unfolding counter_end
  counter_spot n below = let at = many.2 n (counter_seat n) (counter_there n below) in ap (λ (v : counter_seats.SeatData). v.spot) (sym at.2.is)

  pub counterplays_end_at_many : CounterplaysEndAtMany g
  counterplays_end_at_many =
      record {
        layers = e;
        are_layers = are;
        ends = counter_end;
        differ = λ m n a b same_state same_memory same_rank.
            let values = counter_values m a ∙ (ap listed same_state ∙ sym (counter_values n b)) in
            let memories = ap (λ (k : CounterMemory). environment.spot_at k (counter_end m a).rank) same_memory in
            let ranks = ap (environment.spot_at (counter_end n b).memory) same_rank in
            let spots = counter_spot m a ∙ (memories ∙ (ranks ∙ sym (counter_spot n b))) in
            many.3 m n (counter_seat m) (counter_seat n) (counter_there m a) (counter_there n b) (record { values_are = values; spot_is = spots });
      }

-- ---- what a table call tells

module _ {G R M : Type 0} (kept : G → Kept R M) (s : Specification) where
  pub large_for_system : (k : ℕ) (c : Controller G R M) → systems.IsPlayOf kept s k c → systems.IsTooLarge kept (game_of s) c → IsLargeForSystem s k
  large_for_system k c play (inl listed) = inl listed
  large_for_system k c play (inr many) =
      let at = play.stands in
      let winning = subst (λ (g : GameData). IsWinning g at.0 at.1) play.game at.5.sound.won in
      inr (inl (plays_end_at_many (game_of s) at.0 at.1 winning (many at.0 at.1 at.2 at.3 at.4 at.5)))

  pub large_for_environment : (n m : ℕ) (c : Counterstrategy G R M) → environments.IsCounterplayOf kept s n m c → environments.IsTooLarge kept (game_of s) c → IsLargeForEnvironment s n m
  large_for_environment n m c play (inl listed) = inl listed
  large_for_environment n m c play (inr many) =
      let at = play.stands in
      let are = subst (λ (g : GameData). AreEnvLayers g at.0) play.game at.5.sound.lost.layers in
      inr (inl (counterplays_end_at_many (game_of s) at.0 are (many at.0 at.1 at.2 at.3 at.4 at.5)))
