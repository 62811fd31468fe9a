-- The nodes of the seats are those of a table that plays by the choices.
use Rattle.std.proofs.Common.{◌≡◌, ℕ, zero, suc, true, List, [], ◌∷◌, ◌++◌, Some, slice_get, map, filter, refl, sym, ◌∙◌, ap, subst}
use Rattle.spec_model.specs.declared.value.Value.{Value}
use Rattle.spec_model.specs.Values.{Assignment}
use Rattle.spec_model.specs.Rules.{Run}
use Rattle.spec_model.specs.Games.{GameData, State, inputs_of}
use Rattle.spec_model.specs.Steps.{Before, is_state, legal_input, reached}
use Rattle.spec_model.specs.Sets.{StateSet}
use Rattle.game_play.specs.Sights.{cell_in, IsSplit}
use Rattle.game_play.proofs.Sights.{cells_back}
use Rattle.gr1_law.specs.Layers.{LayerSets}
use Rattle.gr1_law.specs.Choice.{Memory, Standing, ChosenPlay}
use Rattle.gr1_law.specs.Specifications.{IsWonWith}
use Rattle.gr1_law.proofs.Standing.{Ready}
use Rattle.gr1_law.proofs.Winning.{layer_inside}
use Rattle.gr1_law.proofs.Choosing.{standing_next}
use Rattle.gr1_law.proofs.Trails.{played}
use Rattle.strategy_tables.specs.Tables.{NodeData}
use Rattle.played_tables.specs.Played as played_specs
use Rattle.strategy_check.specs.Seats.{SeatData}
use Rattle.strategy_check.specs.Walks.{LeadsTo, LeadEach, IsRowOf}
use Rattle.strategy_check.specs.Nodes.{IsWalked, IsNodeOfSeat, AreNodesOf}

-- ---- the node of a seat, and the seat of a node

pub record NodeAt (g : GameData) (nodes : List NodeData) (rows : List (List ℕ)) (n : ℕ) (seat : SeatData) : Type 0 where
  pub node : NodeData
  pub row : List ℕ
  pub there : slice_get nodes n ≡ Some node
  pub row_there : slice_get rows n ≡ Some row
  pub of_seat : IsNodeOfSeat g node seat row

pub node_at : (g : GameData) (nodes : List NodeData) (seats : List SeatData) (rows : List (List ℕ)) → AreNodesOf g nodes seats rows → (n : ℕ) (seat : SeatData) → slice_get seats n ≡ Some seat → NodeAt g nodes rows n seat
node_at g [] [] [] are n seat there = absurd (cc)
node_at g [] [] (row ∷ rows) are n seat there = absurd are
node_at g [] (q ∷ seats) rows are n seat there = absurd are
node_at g (v ∷ nodes) [] rows are n seat there = absurd are
node_at g (v ∷ nodes) (q ∷ seats) [] are n seat there = absurd are
node_at g (v ∷ nodes) (q ∷ seats) (row ∷ rows) are zero seat there =
    let same : q ≡ seat = cc (there) in
    record { node = v; row = row; there = refl; row_there = refl; of_seat = subst (λ (q : SeatData). IsNodeOfSeat g v q row) same are.0 }
node_at g (v ∷ nodes) (q ∷ seats) (row ∷ rows) are (suc n) seat there =
    let at = node_at g nodes seats rows are.1 n seat there in
    record { node = at.node; row = at.row; there = at.there; row_there = at.row_there; of_seat = at.of_seat }

pub record SeatAt (g : GameData) (seats : List SeatData) (rows : List (List ℕ)) (n : ℕ) (v : NodeData) : Type 0 where
  pub seat : SeatData
  pub row : List ℕ
  pub there : slice_get seats n ≡ Some seat
  pub row_there : slice_get rows n ≡ Some row
  pub of_seat : IsNodeOfSeat g v seat row

pub seat_of_node : (g : GameData) (nodes : List NodeData) (seats : List SeatData) (rows : List (List ℕ)) → AreNodesOf g nodes seats rows → (n : ℕ) (v : NodeData) → slice_get nodes n ≡ Some v → SeatAt g seats rows n v
seat_of_node g [] [] [] are n v there = absurd (cc)
seat_of_node g [] [] (row ∷ rows) are n v there = absurd are
seat_of_node g [] (q ∷ seats) rows are n v there = absurd are
seat_of_node g (u ∷ nodes) [] rows are n v there = absurd are
seat_of_node g (u ∷ nodes) (q ∷ seats) [] are n v there = absurd are
seat_of_node g (u ∷ nodes) (q ∷ seats) (row ∷ rows) are zero v there =
    let same : u ≡ v = cc (there) in
    record { seat = q; row = row; there = refl; row_there = refl; of_seat = subst (λ (u : NodeData). IsNodeOfSeat g u q row) same are.0 }
seat_of_node g (u ∷ nodes) (q ∷ seats) (row ∷ rows) are (suc n) v there =
    let at = seat_of_node g nodes seats rows are.1 n v there in
    record { seat = at.seat; row = at.row; there = at.there; row_there = at.row_there; of_seat = at.of_seat }

-- the state that a listed one is read as
pub state_made : (s : State) (hidden input output : List Value) → IsSplit s hidden input output → record { hidden = map cell_in hidden; position = record { input = input; output = output } } ≡ s
state_made s hidden input output split = ap (λ ns. state ns input output) (ap (map cell_in) split.hidden ∙ cells_back s.hidden) ∙ (ap (λ x. state s.hidden x output) split.input ∙ ap (state s.hidden s.position.input) split.output)
  where
    state : List ℕ → Assignment → Assignment → State
    state ns x y = record { hidden = ns; position = record { input = x; output = y } }

-- one node more
pub nodes_more : (g : GameData) (nodes : List NodeData) (seats : List SeatData) (rows : List (List ℕ)) → AreNodesOf g nodes seats rows → (v : NodeData) (q : SeatData) (row : List ℕ) → IsNodeOfSeat g v q row →
    AreNodesOf g (nodes ++ v ∷ []) (seats ++ q ∷ []) (rows ++ row ∷ [])
nodes_more g [] [] [] are v q row of = (of, tt)
nodes_more g [] [] (r ∷ rows) are v q row of = absurd are
nodes_more g [] (p ∷ seats) rows are v q row of = absurd are
nodes_more g (u ∷ nodes) [] rows are v q row of = absurd are
nodes_more g (u ∷ nodes) (p ∷ seats) [] are v q row of = absurd are
nodes_more g (u ∷ nodes) (p ∷ seats) (r ∷ rows) are v q row of = (are.0, nodes_more g nodes seats rows are.1 v q row of)

-- ---- rows

module _ (g : GameData) (z : StateSet) (l : LayerSets) (ranks : List ℕ) (won : IsWonWith g z l ranks) where
  pub ends_standing : (h : Run) (s : State) (m : Memory) → ChosenPlay g l h (Some s) m → Standing g l s m
  ends_standing h s m play = (played g z l won.winning ranks won.greatest h (Some s) m won.forced play).ready

  pub ends_inside : (h : Run) (s : State) (m : Memory) → ChosenPlay g l h (Some s) m → is_state g s ≡ true
  ends_inside h s m play = layer_inside g z l won.winning.layers m.goal m.rank s (ends_standing h s m play).rank.here

  module _ (nodes : List NodeData) (seats : List SeatData) (rows : List (List ℕ)) (are : AreNodesOf g nodes seats rows) where
    module _ (b : Before) (m : Memory) (ready : Ready g z l b m) where
      leads_to : (x : Assignment) (n : ℕ) → LeadsTo g l seats b m x n → played_specs.LeadsTo g l nodes b m x n
      leads_to x n to =
          let moves = to.moves in
          let at = node_at g nodes seats rows are n to.seat to.there in
          let standing = standing_next g z l won.winning ranks won.greatest b m x moves.output moves.next ready moves.chosen in
          let inside = layer_inside g z l won.winning.layers moves.next.goal moves.next.rank (reached g b x moves.output) standing.rank.here in
          record {
            output = moves.output;
            next = moves.next;
            chosen = moves.chosen;
            node = at.node;
            there = at.there;
            is = record {
              state = at.of_seat.state (reached g b x moves.output) inside (ap (λ (q : SeatData). q.values) moves.is);
              goal = at.of_seat.goal ∙ ap (λ (q : SeatData). q.spot.goal) (sym moves.is);
              rank = at.of_seat.rank ∙ ap (λ (q : SeatData). q.spot.rank) (sym moves.is);
              asm = at.of_seat.asm ∙ ap (λ (q : SeatData). q.spot.index) (sym moves.is);
            };
          }

      lead_each : (xs : List Assignment) (row : List ℕ) → LeadEach g l seats b m xs row → played_specs.LeadEach g l nodes b m xs row
      lead_each [] [] all = tt
      lead_each [] (n ∷ ns) all = absurd all
      lead_each (x ∷ xs) [] all = absurd all
      lead_each (x ∷ xs) (n ∷ ns) all = (leads_to x n all.0, lead_each xs ns all.1)

      pub row_of : (row : List ℕ) → IsRowOf g l seats b m (inputs_of g) row → played_specs.IsRow g l nodes b m row
      row_of row all = lead_each (filter (legal_input g b) (inputs_of g)) row all

    -- a node of a seat from which its row was walked
    pub is_played : (v : NodeData) (seat : SeatData) (row : List ℕ) → IsNodeOfSeat g v seat row → IsWalked g l seats seat row → played_specs.IsPlayed g l nodes v
    is_played v seat row of walked =
        let ends = walked.ends in
        let same : v.state ≡ walked.state = of.state walked.state (ends_inside walked.run walked.state walked.memory ends.play) ends.lists in
        let there = row_of (Some walked.state) walked.memory (ends_standing walked.run walked.state walked.memory ends.play) row walked.leads in
        record {
          run = walked.run;
          memory = walked.memory;
          play = subst (λ (s : State). ChosenPlay g l walked.run (Some s) walked.memory) (sym same) ends.play;
          is = record {
            state = refl;
            goal = of.goal ∙ ap (λ q. q.goal) (sym ends.remembered);
            rank = of.rank ∙ ap (λ q. q.rank) (sym ends.remembered);
            asm = of.asm ∙ ap (λ q. q.index) (sym ends.remembered);
          };
          row = subst (λ (s : State). played_specs.IsRow g l nodes (Some s) walked.memory v.next) (sym same) (subst (λ (ns : List ℕ). played_specs.IsRow g l nodes (Some walked.state) walked.memory ns) (sym of.next) there);
        }
