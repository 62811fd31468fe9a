-- The table that a walk makes.
use Rattle.std.proofs.Common.{◌≡◌, true, ℕ, ◌≤◌, List, [], None, length, refl, subst, arith}
use Rattle.std.specs.List.{AllByRecursion}
use Rattle.spec_model.specs.Values.{Assignment}
use Rattle.spec_model.specs.Rules.{Run}
use Rattle.spec_model.specs.Games.{GameData, inputs_of}
use Rattle.spec_model.specs.Steps.{Before, is_input}
use Rattle.spec_model.specs.Sets.{StateSet}
use Rattle.spec_model.proofs.Listed.{inputs_fit}
use Rattle.regions.specs.Kept.{Kept}
use Rattle.gr1_law.specs.Layers.{LayerSets, round_count}
use Rattle.gr1_law.specs.Choice.{Memory, first_memory}
use Rattle.gr1_law.specs.Specifications.{IsWonWith}
use Rattle.gr1_sys.specs.Held.{ranks_of}
use Rattle.controller.specs.declared.controller.Controller.{Controller}
use Rattle.controller.specs.Objects.{game_of, StandsFor, Stands}
use Rattle.strategy_tables.specs.Tables.{NodeData}
use Rattle.strategy_check.specs.Seats.{SeatData, AllDiffer}
use Rattle.strategy_check.specs.Walks.{AreSeats, Plays}
use Rattle.strategy_check.specs.Nodes.{AddsRow, IsWalkedTo, AreInGame, AreNodesOf}
use Rattle.strategy_check.specs.Systems.{IsSystemTable}
use Rattle.strategy_check.proofs.SeatNodes.{ends_inside}
use Rattle.strategy_check.proofs.Tables as tables

-- each seat is in the game
pub seats_inside : (g : GameData) (z : StateSet) (l : LayerSets) (ranks : List ℕ) → IsWonWith g z l ranks → (seats : List SeatData) → AreSeats g l seats → AreInGame g seats
seats_inside g z l ranks won seats are n v there =
    let ends = are n v there in
    (ends.1, ends_inside g z l ranks won ends.0 ends.1 ends.2 ends.3.play, ends.3.lists)

-- all that are listed are inputs
pub inputs_are : (g : GameData) (xs : List Assignment) → xs ≡ inputs_of g → AllByRecursion (λ (x : Assignment). is_input g x ≡ true) xs
inputs_are g xs e = rw e (inputs_fit g)

module _ {G R M : Type 0} (kept : G → Kept R M) (c : Controller G R M) (g : GameData) where
  pub stands_plays : game_of kept c ≡ g → (z : StateSet) (l : LayerSets) (h : Run) (b : Before) (m : Memory) → StandsFor kept c z l h b m → Plays kept c g z l
  stands_plays game z l h b m st = record { game = game; run = h; before = b; memory = m; stands = st }

  pub plays_stand : (z : StateSet) (l : LayerSets) → Plays kept c g z l → Stands kept c
  plays_stand z l plays = (z, l, plays.run, plays.before, plays.memory, plays.stands)

-- what was walked by the layers, from the start on
pub record HasWalked (g : GameData) (l : LayerSets) (met seats : List SeatData) (first : List ℕ) (rows : List (List ℕ)) : Type 0 where
  pub ends : AreSeats g l seats
  pub begins : AddsRow g l [] met None first_memory (inputs_of g) first
  pub walked : IsWalkedTo g l met seats rows

module _ {G R M : Type 0} (kept : G → Kept R M) (c : Controller G R M) (g : GameData) (game : game_of kept c ≡ g) where
  pub won_with : (z : StateSet) (l : LayerSets) (h : Run) (b : Before) (m : Memory) → StandsFor kept c z l h b m → IsWonWith g z l (ranks_of c.layers.items)
  won_with z l h b m st = subst (λ (d : GameData). IsWonWith d z l (ranks_of c.layers.items)) game (record { winning = st.sound.won; greatest = st.sound.ranks; forced = st.sound.starts })

  module _ (met seats : List SeatData) (first : List ℕ) (rows : List (List ℕ)) (nodes : List NodeData) (are : AreNodesOf g nodes seats rows) (differ : AllDiffer seats) (few : length seats ≤ 1024)
      (walked : (z : StateSet) (l : LayerSets) (h : Run) (b : Before) (m : Memory) → StandsFor kept c z l h b m → HasWalked g l met seats first rows) (stands : Stands kept c) (few_inputs : length (inputs_of g) ≤ 1024) (k : ℕ) (rounds : k ≡ round_count (ranks_of c.layers.items)) where
    pub makes_table : IsSystemTable kept g k c (record { k = k; first = first; nodes = nodes })
    makes_table =
        let ranks = ranks_of c.layers.items in
        let z = stands.0 in
        let l = stands.1 in
        let won = won_with z l stands.2 stands.3 stands.4 stands.5 in
        let w = walked z l stands.2 stands.3 stands.4 stands.5 in
        let enough : round_count ranks ≤ k = omega (arith, rounds) in
        record {
          rounds = refl;
          few_inputs = few_inputs;
          of_game = tables.of_game g z l ranks won nodes seats rows are w.ends met first w.begins w.walked few k enough;
          sound = (tables.is_sound g z l ranks won nodes seats rows are w.ends met first w.begins w.walked k enough).1;
          ends = λ z l h b m st. tables.node_ends g z l ranks (won_with z l h b m st) nodes seats rows are (walked z l h b m st).ends;
          differ = tables.nodes_differ g z l ranks won nodes seats rows are w.ends differ;
          counted = tables.all_counted g z l ranks won nodes seats rows are w.ends met first w.begins w.walked;
        }
