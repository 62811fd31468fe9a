-- What was walked makes a table that meets its rules.
use Rattle.std.proofs.Common.{◌≡◌, ℕ, suc, ◌≤◌, List, [], ◌∷◌, ◌++◌, length, flat_map, slice_get, Some, None, refl, sym, ◌∙◌, ap, subst, arith}
use Rattle.spec_model.specs.Rules.{Run}
use Rattle.spec_model.specs.Games.{GameData, State, listed, inputs_of}
use Rattle.spec_model.specs.Sets.{StateSet}
use Rattle.gr1_law.specs.Layers.{LayerSets, round_count}
use Rattle.gr1_law.specs.Choice.{Memory, first_memory, ChosenPlay}
use Rattle.gr1_law.specs.Specifications.{IsWonWith}
use Rattle.strategy_tables.specs.Tables.{NodeData}
use Rattle.strategy_tables.specs.Rules.{system_checks, first_flaw}
use Rattle.strategy_tables.specs.Sound.{HasStates}
use Rattle.strategy_tables.specs.Games.{OfSystem, HasNoReplies, IsTableOf}
use Rattle.played_tables.specs.Played as played_specs
use Rattle.played_tables.proofs.Played.{played_sound}
use Rattle.strategy_check.specs.Seats.{SeatData, AllDiffer, CountsUp}
use Rattle.strategy_check.specs.Walks.{AreSeats}
use Rattle.strategy_check.specs.Nodes.{AddsRow, IsWalkedTo, IsNodeOfSeat, AreNodesOf}
use Rattle.strategy_check.specs.Systems.{NodesDiffer}
use Rattle.strategy_check.proofs.Meeting.{seat_by_parts, counts_on}
use Rattle.strategy_check.proofs.Walked.{row_still}
use Rattle.strategy_check.proofs.SeatNodes.{seat_of_node, ends_inside, row_of, is_played}

nodes_counted : (g : GameData) (nodes : List NodeData) (seats : List SeatData) (rows : List (List ℕ)) → AreNodesOf g nodes seats rows → length nodes ≡ length seats
nodes_counted g [] [] [] are = refl
nodes_counted g [] [] (row ∷ rows) are = absurd are
nodes_counted g [] (q ∷ seats) rows are = absurd are
nodes_counted g (v ∷ nodes) [] rows are = absurd are
nodes_counted g (v ∷ nodes) (q ∷ seats) [] are = absurd are
nodes_counted g (v ∷ nodes) (q ∷ seats) (row ∷ rows) are = ap suc (nodes_counted g nodes seats rows are.1)

all_next : (g : GameData) (nodes : List NodeData) (seats : List SeatData) (rows : List (List ℕ)) → AreNodesOf g nodes seats rows → flat_map (λ (v : NodeData). v.next) nodes ≡ flat_map (λ (row : List ℕ). row) rows
all_next g [] [] [] are = refl
all_next g [] [] (row ∷ rows) are = absurd are
all_next g [] (q ∷ seats) rows are = absurd are
all_next g (v ∷ nodes) [] rows are = absurd are
all_next g (v ∷ nodes) (q ∷ seats) [] are = absurd are
all_next g (v ∷ nodes) (q ∷ seats) (row ∷ rows) are =
    ap (λ (ns : List ℕ). ns ++ flat_map (λ (v : NodeData). v.next) nodes) are.0.next ∙ ap (λ (ns : List ℕ). row ++ ns) (all_next g nodes seats rows are.1)

pub no_replies : (g : GameData) (nodes : List NodeData) (seats : List SeatData) (rows : List (List ℕ)) → AreNodesOf g nodes seats rows → HasNoReplies nodes
no_replies g nodes seats rows are i v there = let at = seat_of_node g nodes seats rows are i v there in (at.of_seat.layer, at.of_seat.reply)

module _ (g : GameData) (z : StateSet) (l : LayerSets) (ranks : List ℕ) (won : IsWonWith g z l ranks) (nodes : List NodeData) (seats : List SeatData) (rows : List (List ℕ)) (are : AreNodesOf g nodes seats rows) (plays : AreSeats g l seats) where
  -- a play ends at each node
  pub node_ends : (i : ℕ) (v : NodeData) → slice_get nodes i ≡ Some v → (to : Run) × (next : Memory) × ChosenPlay g l to (Some v.state) next × played_specs.IsNodeOf v v.state next
  node_ends i v there =
      let at = seat_of_node g nodes seats rows are i v there in
      let ends = plays i at.seat at.there in
      let s = ends.1 in
      let m = ends.2 in
      let of = at.of_seat in
      let same : v.state ≡ s = of.state s (ends_inside g z l ranks won ends.0 s m ends.3.play) ends.3.lists in (
        ends.0,
        m,
        subst (λ (s : State). ChosenPlay g l ends.0 (Some s) m) (sym same) ends.3.play,
        record {
          state = refl;
          goal = of.goal ∙ ap (λ q. q.goal) (sym ends.3.remembered);
          rank = of.rank ∙ ap (λ q. q.rank) (sym ends.3.remembered);
          asm = of.asm ∙ ap (λ q. q.index) (sym ends.3.remembered);
        },
      )

  -- a node lists its seat's values
  node_lists : (i : ℕ) (v : NodeData) (seat : SeatData) (row : List ℕ) → slice_get seats i ≡ Some seat → IsNodeOfSeat g v seat row → listed v.state ≡ seat.values
  node_lists i v seat row there of =
      let ends = plays i seat there in
      let same = of.state ends.1 (ends_inside g z l ranks won ends.0 ends.1 ends.2 ends.3.play) ends.3.lists in
      ap listed same ∙ ends.3.lists

  pub nodes_differ : AllDiffer seats → NodesDiffer nodes
  nodes_differ differ i j v w at_i at_j state goal rank asm =
      let a = seat_of_node g nodes seats rows are i v at_i in
      let b = seat_of_node g nodes seats rows are j w at_j in
      let values : a.seat.values ≡ b.seat.values = sym (node_lists i v a.seat a.row a.there a.of_seat) ∙ (ap listed state ∙ node_lists j w b.seat b.row b.there b.of_seat) in
      let same = seat_by_parts a.seat b.seat values (sym a.of_seat.goal ∙ (goal ∙ b.of_seat.goal)) (sym a.of_seat.rank ∙ (rank ∙ b.of_seat.rank)) (sym a.of_seat.asm ∙ (asm ∙ b.of_seat.asm)) in
      differ i j b.seat (a.there ∙ ap Some same) b.there

  module _ (met : List SeatData) (first : List ℕ) (begins : AddsRow g l [] met None first_memory (inputs_of g) first) (walked : IsWalkedTo g l met seats rows) where
    pub is_table : (k : ℕ) → played_specs.IsPlayedTable g l (record { k = k; first = first; nodes = nodes })
    is_table k =
        record {
          first = row_of g z l ranks won nodes seats rows are None first_memory won.forced first (row_still g l met seats walked.more None first_memory _ first begins.leads);
          each = λ i v there.
              let at = seat_of_node g nodes seats rows are i v there in
              is_played g z l ranks won nodes seats rows are v at.seat at.row at.of_seat (walked.each i at.seat at.row at.there at.row_there);
        }

    pub is_sound : (k : ℕ) → round_count ranks ≤ k → HasStates g nodes × (first_flaw (system_checks g (record { k = k; first = first; nodes = nodes })) ≡ None)
    is_sound k enough = played_sound g z l ranks won (record { k = k; first = first; nodes = nodes }) (is_table k) enough

    pub all_counted : CountsUp 0 (first ++ flat_map (λ (v : NodeData). v.next) nodes) (length nodes)
    all_counted =
        subst (λ (n : ℕ). CountsUp 0 (first ++ flat_map (λ (v : NodeData). v.next) nodes) n) (sym (nodes_counted g nodes seats rows are))
        (subst (λ (ns : List ℕ). CountsUp 0 (first ++ ns) (length seats)) (sym (all_next g nodes seats rows are)) (counts_on 0 first (length met) (flat_map (λ (row : List ℕ). row) rows) (length seats) begins.counts walked.counts))

    pub of_game : length seats ≤ 1024 → (k : ℕ) → round_count ranks ≤ k → IsTableOf g (OfSystem (record { k = k; first = first; nodes = nodes }))
    of_game few k enough = ((let many = nodes_counted g nodes seats rows are in omega (arith, many, few)), (is_sound k enough).0, no_replies g nodes seats rows are)
