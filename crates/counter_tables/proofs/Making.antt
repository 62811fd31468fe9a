-- The table that a walk makes.
use Rattle.std.proofs.Common.{◌≡◌, ℕ, ◌≤◌, List, [], length, None, refl, ◌∙◌, ap, subst, arith}
use Rattle.spec_model.specs.Values.{Assignment}
use Rattle.spec_model.specs.Rules.{Run}
use Rattle.spec_model.specs.Unrealizable.{NoteData}
use Rattle.spec_model.specs.Games.{GameData, outputs_of}
use Rattle.spec_model.specs.Steps.{Before}
use Rattle.regions.specs.Kept.{Kept}
use Rattle.gr1_law.specs.EnvLayers.{EnvLayerSets, denial_count}
use Rattle.gr1_law.specs.Counter.{CounterMemory, first_counter, IsGiven, AnsweredPlay}
use Rattle.gr1_law.specs.CounterLaws.{IsLostWith}
use Rattle.strategy_parts.specs.Counts.{HasFewGoals}
use Rattle.gr1_env.specs.Solved.{counts_of}
use Rattle.counterstrategy.specs.declared.counterstrategy.Counterstrategy.{Counterstrategy}
use Rattle.counterstrategy.specs.Objects.{game_of, StandsFor, Stands, InEachPlay, Gives, HoldsTheSame}
use Rattle.strategy_tables.specs.Tables.{NodeData}
use Rattle.counter_tables.specs.declared.walk.Walk.{Walk}
use Rattle.counter_tables.specs.Seats.{SeatData, seats_of, AllDiffer}
use Rattle.counter_tables.specs.Walks.{Ending, IsEnding, IsStart, IsFrom, AreSeats, HasMetNone, IsWalk}
use Rattle.counter_tables.specs.Nodes.{AddsRow, IsWalkedTo, AreInGame, AreNodesOf}
use Rattle.counter_tables.specs.Environments.{IsEnvironmentTable}
use Rattle.counter_tables.proofs.Ends.{inside}
use Rattle.counter_tables.proofs.Moves.{plays_as}
use Rattle.counter_tables.proofs.Leading.{walk_begins}
use Rattle.counter_tables.proofs.Tables as tables

-- each seat is in the game
pub seats_inside : (g : GameData) (e : EnvLayerSets) (n : ℕ) (counts : ℕ → ℕ → List ℕ) → IsLostWith g e n counts → (seats : List SeatData) → AreSeats g e seats → AreInGame g seats
seats_inside g e n counts lost seats are i v there =
    let ends = are i v there in
    (ends.2.state, inside g e n counts lost ends.0 ends.1 ends.2.state ends.2.before, ap (λ (q : SeatData). q.values) ends.2.is)

-- the start, with an input that is given there
abbrev pub start_with : ℕ → Assignment → Ending
start_with r x = record { run = []; notes = []; before = None; memory = first_counter; rank = r; input = x }

-- what was walked by the layers, from the start on
pub record HasWalked (g : GameData) (e : EnvLayerSets) (met seats : List SeatData) (x : Assignment) (first : List ℕ) (rows : List (List ℕ)) : Type 0 where
  pub seats_end : AreSeats g e seats
  pub rank : ℕ
  pub given : IsGiven g e None first_counter rank x
  pub begins : AddsRow g e [] met (start_with rank x) (outputs_of g) first
  pub walked : IsWalkedTo g e met seats rows

module _ {G R M : Type 0} (kept : G → Kept R M) (c : Counterstrategy G R M) (g : GameData) (game : game_of kept c ≡ g) where
  pub lost_with : (e : EnvLayerSets) (h : Run) (notes : List NoteData) (b : Before) (k : CounterMemory) → StandsFor kept c e h notes b k → IsLostWith g e (length c.layers.items) (counts_of c.layers.items)
  lost_with e h notes b k st = subst (λ (d : GameData). IsLostWith d e (length c.layers.items) (counts_of c.layers.items)) game st.sound.lost

  module _ (met seats : List SeatData) (x : Assignment) (first : List ℕ) (rows : List (List ℕ)) (nodes : List NodeData) (are : AreNodesOf g nodes seats rows) (differ : AllDiffer seats) (few : length seats ≤ 1024)
      (walked : (e : EnvLayerSets) (h : Run) (notes : List NoteData) (b : Before) (k : CounterMemory) → StandsFor kept c e h notes b k → HasWalked g e met seats x first rows) (stands : Stands kept c) (listed : length (outputs_of g) ≤ 1024)
      (n m : ℕ) (shifts : n ≡ length c.layers.items) (denials : m ≡ denial_count (game_of kept c) (length c.layers.items) (counts_of c.layers.items)) where
    begun : (e : EnvLayerSets) (w : HasWalked g e met seats x first rows) → IsEnding g e (start_with w.rank x)
    begun e w = record { play = AnsweredPlay.nothing; given = w.given }

    starts : (r : ℕ) → IsStart (start_with r x)
    starts r = record { run = refl; notes = refl; before = refl; memory = refl }

    pub makes_table : IsEnvironmentTable kept g n m c (record { n = n; m = m; reply = x; first = first; nodes = nodes })
    makes_table =
        let count = length c.layers.items in
        let counts = counts_of c.layers.items in
        let e = stands.0 in
        let lost = lost_with e stands.1 stands.2 stands.3 stands.4 stands.5 in
        let w = walked e stands.1 stands.2 stands.3 stands.4 stands.5 in
        let enough_n : count ≤ n = omega (arith, shifts) in
        let most : m ≡ denial_count g count counts = denials ∙ ap (λ (d : GameData). denial_count d count counts) game in
        let enough_m : denial_count g count counts ≤ m = omega (arith, most) in
        record {
          numbers = (refl, refl);
          listed = listed;
          of_game = tables.of_game g e count counts lost nodes seats rows are w.seats_end met (start_with w.rank x) (begun e w) (starts w.rank) first w.begins w.walked n m few enough_n enough_m;
          sound = (tables.is_sound g e count counts lost nodes seats rows are w.seats_end met (start_with w.rank x) (begun e w) (starts w.rank) first w.begins w.walked n m enough_n enough_m).2;
          plays = λ e h notes b k st.
              let lost = lost_with e h notes b k st in
              let w = walked e h notes b k st in
              (tables.is_table g e count counts lost nodes seats rows are w.seats_end met (start_with w.rank x) (begun e w) (starts w.rank) first w.begins w.walked n m, tables.node_ends g e count counts lost nodes seats rows are w.seats_end);
          differ = tables.nodes_differ g e count counts lost nodes seats rows are w.seats_end differ;
          counted = tables.all_counted g e count counts lost nodes seats rows are w.seats_end met (start_with w.rank x) (begun e w) (starts w.rank) first w.begins w.walked n m;
        }

module _ {G R M : Type 0} (kept : G → Kept R M) (old new : Counterstrategy G R M) (w w' : Walk) (g : GameData) (e : EnvLayerSets) (game : game_of kept old ≡ g) (same : HoldsTheSame kept old new) (h : Run) (notes : List NoteData) (b : Before) (k : CounterMemory) (stands : StandsFor kept old e h notes b k)
    (few : HasFewGoals g) (none : HasMetNone g w) (seats : seats_of w'.seats ≡ seats_of w.seats) (input : length w'.room.input.items ≡ length w.room.input.items) (state : length w'.room.state.items ≡ length w.room.state.items)
    (x : Assignment) (gives : InEachPlay kept old (λ e h notes b k. Gives kept new e [] [] None first_counter x)) where
  begun_now : game_of kept new ≡ g
  begun_now = same.game.game ∙ game

  -- the walk begins where the first input is given
  pub begun_walk : IsWalk kept new w' g e
  begun_walk =
      walk_begins kept new w' g e (plays_as kept new g begun_now e [] [] None first_counter (gives e h notes b k stands).stands) few (record { none = seats ∙ none.none; input = input ∙ none.input; state = state ∙ none.state })

  pub begun_given : (r : ℕ) × IsGiven g e None first_counter r x
  begun_given = let gave = gives e h notes b k stands in (gave.rank, subst (λ (d : GameData). IsGiven d e None first_counter gave.rank x) begun_now gave.given)

  -- where it goes on from: the empty play
  pub begun_from : (r : ℕ) → IsGiven g e None first_counter r x → IsFrom g e None (start_with r x)
  begun_from r given = (record { play = AnsweredPlay.nothing; given = given }, record { run = refl; notes = refl; before = refl; memory = refl })

-- a walk stands for a play
pub walk_stands : {G R M : Type 0} (kept : G → Kept R M) (c : Counterstrategy G R M) (w : Walk) (g : GameData) (e : EnvLayerSets) → IsWalk kept c w g e → Stands kept c
walk_stands kept c w g e walk = let plays = walk.plays in (e, plays.run, plays.notes, plays.before, plays.memory, plays.stands)
