-- What was walked makes a table that meets its rules.
use Rattle.std.proofs.Common.{◌≡◌, ℕ, suc, ◌≤◌, List, [], ◌∷◌, ◌++◌, length, flat_map, slice_get, Some, None, refl, sym, ◌∙◌, ap, subst, arith}
use Rattle.spec_model.specs.Games.{GameData, listed, outputs_of}
use Rattle.spec_model.specs.Steps.{Before}
use Rattle.gr1_law.specs.EnvLayers.{EnvLayerSets, denial_count}
use Rattle.gr1_law.specs.Counter.{CounterMemory, IsGiven}
use Rattle.gr1_law.specs.CounterLaws.{IsLostWith}
use Rattle.strategy_tables.specs.Tables.{NodeData, EnvironmentTable}
use Rattle.strategy_tables.specs.Rules.{environment_checks, first_flaw}
use Rattle.strategy_tables.specs.Sound.{HasStates, HasReplies}
use Rattle.strategy_tables.specs.Games.{OfEnvironment, IsTableOf}
use Rattle.played_tables.specs.CounterPlayed as played_specs
use Rattle.played_tables.proofs.CounterPlayed.{answered_sound}
use Rattle.counter_tables.specs.Seats.{SeatData, AllDiffer, CountsUp}
use Rattle.counter_tables.specs.Walks.{Ending, IsEnding, IsStart, AreSeats}
use Rattle.counter_tables.specs.Nodes.{AddsRow, IsWalkedTo, IsNodeOfSeat, AreNodesOf}
use Rattle.counter_tables.specs.Environments.{EndsAtNode, NodesDiffer}
use Rattle.counter_tables.proofs.Meeting.{counts_on}
use Rattle.counter_tables.proofs.Walked.{row_still}
use Rattle.counter_tables.proofs.Seating.{seat_of_node, node_state, ends_at, row_of, is_played}

nodes_counted : (g : GameData) (nodes : List NodeData) (seats : List SeatData) (rows : List (List ℕ)) → AreNodesOf g nodes seats rows → length nodes ≡ length seats
nodes_counted g [] [] [] are = refl
nodes_counted g [] [] (row ∷ rows) are = absurd are
nodes_counted g [] (q ∷ seats) rows are = absurd are
nodes_counted g (v ∷ nodes) [] rows are = absurd are
nodes_counted g (v ∷ nodes) (q ∷ seats) [] are = absurd are
nodes_counted g (v ∷ nodes) (q ∷ seats) (row ∷ rows) are = ap suc (nodes_counted g nodes seats rows are.1)

all_next : (g : GameData) (nodes : List NodeData) (seats : List SeatData) (rows : List (List ℕ)) → AreNodesOf g nodes seats rows → flat_map (λ (v : NodeData). v.next) nodes ≡ flat_map (λ (row : List ℕ). row) rows
all_next g [] [] [] are = refl
all_next g [] [] (row ∷ rows) are = absurd are
all_next g [] (q ∷ seats) rows are = absurd are
all_next g (v ∷ nodes) [] rows are = absurd are
all_next g (v ∷ nodes) (q ∷ seats) [] are = absurd are
all_next g (v ∷ nodes) (q ∷ seats) (row ∷ rows) are =
    ap (λ (ns : List ℕ). ns ++ flat_map (λ (v : NodeData). v.next) nodes) are.0.next ∙ ap (λ (ns : List ℕ). row ++ ns) (all_next g nodes seats rows are.1)

module _ (g : GameData) (e : EnvLayerSets) (n : ℕ) (counts : ℕ → ℕ → List ℕ) (lost : IsLostWith g e n counts) (nodes : List NodeData) (seats : List SeatData) (rows : List (List ℕ)) (are : AreNodesOf g nodes seats rows) (plays : AreSeats g e seats) where
  -- a play ends at each node
  pub node_ends : (i : ℕ) (v : NodeData) → slice_get nodes i ≡ Some v → EndsAtNode g e v
  node_ends i v there =
      let at = seat_of_node g nodes seats rows are i v there in
      let ends = plays i at.seat at.there in
      ends_at g e n counts lost ends.0 ends.1 at.seat ends.2 v at.row at.of_seat

  -- a node lists its seat's values
  node_lists : (i : ℕ) (v : NodeData) (seat : SeatData) (row : List ℕ) → slice_get seats i ≡ Some seat → IsNodeOfSeat g v seat row → listed v.state ≡ seat.values
  node_lists i v seat row there of =
      let ends = plays i seat there in
      ap listed (node_state g e n counts lost ends.0 ends.1 seat ends.2 v row of) ∙ ap (λ (q : SeatData). q.values) ends.2.is

  pub nodes_differ : AllDiffer seats → NodesDiffer nodes
  nodes_differ differ i j v w at_i at_j state spot =
      let a = seat_of_node g nodes seats rows are i v at_i in
      let b = seat_of_node g nodes seats rows are j w at_j in
      differ i j a.seat b.seat a.there b.there
      (record {
        values_are = sym (node_lists i v a.seat a.row a.there a.of_seat) ∙ (ap listed state ∙ node_lists j w b.seat b.row b.there b.of_seat);
        spot_is = sym a.of_seat.spot ∙ (spot ∙ b.of_seat.spot);
      })

  module _ (met : List SeatData) (start : Ending) (is : IsEnding g e start) (starts : IsStart start) (first : List ℕ) (begins : AddsRow g e [] met start (outputs_of g) first) (walked : IsWalkedTo g e met seats rows) (shifts denials : ℕ) where
    abbrev table : EnvironmentTable
    table = record { n = shifts; m = denials; reply = start.input; first = first; nodes = nodes }

    pub is_table : played_specs.IsPlayedTable g e table
    is_table =
        record {
          rank = start.rank;
          given = subst (λ (k : CounterMemory). IsGiven g e None k start.rank start.input) starts.memory (subst (λ (b : Before). IsGiven g e b start.memory start.rank start.input) starts.before is.given);
          first = subst (λ (k : CounterMemory). played_specs.IsRow g e nodes None k start.input first) starts.memory
              (subst (λ (b : Before). played_specs.IsRow g e nodes b start.memory start.input first) starts.before
              (row_of g e n counts lost nodes seats rows are start is first (row_still g e met seats walked.more start _ first begins.leads)));
          each = λ i v there.
              let at = seat_of_node g nodes seats rows are i v there in
              is_played g e n counts lost nodes seats rows are v at.seat at.row at.of_seat (walked.each i at.seat at.row at.there at.row_there);
        }

    pub is_sound : n ≤ shifts → denial_count g n counts ≤ denials → HasStates g nodes × HasReplies g table × (first_flaw (environment_checks g table) ≡ None)
    is_sound enough_n enough_m = answered_sound g e n counts lost table is_table enough_n enough_m

    pub all_counted : CountsUp 0 (first ++ flat_map (λ (v : NodeData). v.next) nodes) (length nodes)
    all_counted =
        subst (λ (k : ℕ). CountsUp 0 (first ++ flat_map (λ (v : NodeData). v.next) nodes) k) (sym (nodes_counted g nodes seats rows are))
        (subst (λ (ns : List ℕ). CountsUp 0 (first ++ ns) (length seats)) (sym (all_next g nodes seats rows are)) (counts_on 0 first (length met) (flat_map (λ (row : List ℕ). row) rows) (length seats) begins.counts walked.counts))

    pub of_game : length seats ≤ 1024 → n ≤ shifts → denial_count g n counts ≤ denials → IsTableOf g (OfEnvironment table)
    of_game few enough_n enough_m = ((let many = nodes_counted g nodes seats rows are in omega (arith, many, few)), (is_sound enough_n enough_m).0, (is_sound enough_n enough_m).1)
