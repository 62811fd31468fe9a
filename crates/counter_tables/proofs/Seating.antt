-- The nodes of the seats are those of a table that plays by the given inputs.
use Rattle.std.proofs.Common.{◌≡◌, ℕ, zero, suc, Bool, true, if◌then◌else◌, List, [], ◌∷◌, ◌++◌, map, Some, slice_get, filter, refl, sym, ◌∙◌, ap, subst}
use Rattle.spec_model.specs.declared.value.Value.{Value}
use Rattle.spec_model.specs.Values.{Assignment}
use Rattle.spec_model.specs.Games.{GameData, State, outputs_of}
use Rattle.spec_model.specs.Steps.{Before, is_output, legal_output, reached}
use Rattle.spec_model.proofs.AllStates.{Every}
use Rattle.game_play.specs.Sights.{IsSplit, cell_in}
use Rattle.game_play.proofs.Sights.{cells_back}
use Rattle.gr1_law.specs.EnvLayers.{EnvLayerSets}
use Rattle.gr1_law.specs.Counter.{CounterMemory, IsGiven, AnsweredPlay}
use Rattle.gr1_law.specs.CounterLaws.{IsLostWith}
use Rattle.counterstrategy.specs.declared.spot.EnvSpot.{EnvSpot}
use Rattle.counterstrategy.specs.Turns.{rank_kept}
use Rattle.counterstrategy.specs.Spots.{spot_at}
use Rattle.strategy_tables.specs.Tables.{NodeData}
use Rattle.played_tables.specs.CounterPlayed as played_specs
use Rattle.played_tables.proofs.CounterRows.{row_outputs}
use Rattle.counter_tables.specs.Seats.{SeatData}
use Rattle.counter_tables.specs.Walks.{Ending, IsEnding, IsAtSeat, LeadsTo, LeadEach, IsRowOf}
use Rattle.counter_tables.specs.Nodes.{IsWalked, node_spot, IsNodeOfSeat, AreNodesOf}
use Rattle.counter_tables.specs.Environments.{EndsAtNode}
use Rattle.counter_tables.proofs.Ends.{inside}
use Rattle.counter_tables.proofs.Walked.{moved, moved_ends}

-- ---- the node of a seat, and the seat of a node

pub record NodeAt (g : GameData) (nodes : List NodeData) (rows : List (List ℕ)) (n : ℕ) (seat : SeatData) : Type 0 where
  pub node : NodeData
  pub row : List ℕ
  pub there : slice_get nodes n ≡ Some node
  pub row_there : slice_get rows n ≡ Some row
  pub of_seat : IsNodeOfSeat g node seat row

pub node_at : (g : GameData) (nodes : List NodeData) (seats : List SeatData) (rows : List (List ℕ)) → AreNodesOf g nodes seats rows → (n : ℕ) (seat : SeatData) → slice_get seats n ≡ Some seat → NodeAt g nodes rows n seat
node_at g [] [] [] are n seat there = absurd (cc)
node_at g [] [] (row ∷ rows) are n seat there = absurd are
node_at g [] (q ∷ seats) rows are n seat there = absurd are
node_at g (v ∷ nodes) [] rows are n seat there = absurd are
node_at g (v ∷ nodes) (q ∷ seats) [] are n seat there = absurd are
node_at g (v ∷ nodes) (q ∷ seats) (row ∷ rows) are zero seat there =
    let same : q ≡ seat = cc (there) in
    record { node = v; row = row; there = refl; row_there = refl; of_seat = subst (λ (q : SeatData). IsNodeOfSeat g v q row) same are.0 }
node_at g (v ∷ nodes) (q ∷ seats) (row ∷ rows) are (suc n) seat there =
    let at = node_at g nodes seats rows are.1 n seat there in
    record { node = at.node; row = at.row; there = at.there; row_there = at.row_there; of_seat = at.of_seat }

pub record SeatAt (g : GameData) (seats : List SeatData) (rows : List (List ℕ)) (n : ℕ) (v : NodeData) : Type 0 where
  pub seat : SeatData
  pub row : List ℕ
  pub there : slice_get seats n ≡ Some seat
  pub row_there : slice_get rows n ≡ Some row
  pub of_seat : IsNodeOfSeat g v seat row

pub seat_of_node : (g : GameData) (nodes : List NodeData) (seats : List SeatData) (rows : List (List ℕ)) → AreNodesOf g nodes seats rows → (n : ℕ) (v : NodeData) → slice_get nodes n ≡ Some v → SeatAt g seats rows n v
seat_of_node g [] [] [] are n v there = absurd (cc)
seat_of_node g [] [] (row ∷ rows) are n v there = absurd are
seat_of_node g [] (q ∷ seats) rows are n v there = absurd are
seat_of_node g (u ∷ nodes) [] rows are n v there = absurd are
seat_of_node g (u ∷ nodes) (q ∷ seats) [] are n v there = absurd are
seat_of_node g (u ∷ nodes) (q ∷ seats) (row ∷ rows) are zero v there =
    let same : u ≡ v = cc (there) in
    record { seat = q; row = row; there = refl; row_there = refl; of_seat = subst (λ (u : NodeData). IsNodeOfSeat g u q row) same are.0 }
seat_of_node g (u ∷ nodes) (q ∷ seats) (row ∷ rows) are (suc n) v there =
    let at = seat_of_node g nodes seats rows are.1 n v there in
    record { seat = at.seat; row = at.row; there = at.there; row_there = at.row_there; of_seat = at.of_seat }

-- the state that a listed one is read as
pub state_made : (s : State) (hidden input output : List Value) → IsSplit s hidden input output → record { hidden = map cell_in hidden; position = record { input = input; output = output } } ≡ s
state_made s hidden input output split = ap (λ ns. state ns input output) (ap (map cell_in) split.hidden ∙ cells_back s.hidden) ∙ (ap (λ x. state s.hidden x output) split.input ∙ ap (state s.hidden s.position.input) split.output)
  where
    state : List ℕ → Assignment → Assignment → State
    state ns x y = record { hidden = ns; position = record { input = x; output = y } }

-- one node more
pub nodes_more : (g : GameData) (nodes : List NodeData) (seats : List SeatData) (rows : List (List ℕ)) → AreNodesOf g nodes seats rows → (v : NodeData) (q : SeatData) (row : List ℕ) → IsNodeOfSeat g v q row →
    AreNodesOf g (nodes ++ v ∷ []) (seats ++ q ∷ []) (rows ++ row ∷ [])
nodes_more g [] [] [] are v q row of = (of, tt)
nodes_more g [] [] (r ∷ rows) are v q row of = absurd are
nodes_more g [] (p ∷ seats) rows are v q row of = absurd are
nodes_more g (u ∷ nodes) [] rows are v q row of = absurd are
nodes_more g (u ∷ nodes) (p ∷ seats) [] are v q row of = absurd are
nodes_more g (u ∷ nodes) (p ∷ seats) (r ∷ rows) are v q row of = (are.0, nodes_more g nodes seats rows are.1 v q row of)

-- ---- rows

-- after a denial the number is the whole rank
denied_rank : (k : CounterMemory) (r : ℕ) → k.denying ≡ true → rank_kept k r ≡ r
denied_rank k r denying = ap (λ (d : Bool). if d then r else 0) denying

-- a node with the spot of what is remembered
node_of : (v : NodeData) (s : State) (k : CounterMemory) (r : ℕ) (x : Assignment) → v.state ≡ s → node_spot v ≡ spot_at k r → v.reply ≡ x → played_specs.IsNodeOf v s k r x
node_of v s k r x state spot reply =
    record {
      state = state;
      layer = ap (λ (q : EnvSpot). q.layer) spot;
      goal = ap (λ (q : EnvSpot). q.goal) spot;
      asm = ap (λ (q : EnvSpot). q.asm) spot;
      rank = λ denying. ap (λ (q : EnvSpot). q.rank) spot ∙ denied_rank k r denying;
      reply = reply;
    }

module _ (g : GameData) (e : EnvLayerSets) (n : ℕ) (counts : ℕ → ℕ → List ℕ) (lost : IsLostWith g e n counts) where
  -- the node of a seat at which a play ends has the play's state
  pub node_state : (p : Ending) → IsEnding g e p → (seat : SeatData) (at : IsAtSeat p seat) (v : NodeData) (row : List ℕ) → IsNodeOfSeat g v seat row → v.state ≡ at.state
  node_state p is seat at v row of = of.state at.state (inside g e n counts lost p is at.state at.before) (ap (λ (q : SeatData). q.values) at.is)

  -- so the play ends at the node
  pub ends_at : (p : Ending) → IsEnding g e p → (seat : SeatData) (at : IsAtSeat p seat) (v : NodeData) (row : List ℕ) → IsNodeOfSeat g v seat row → EndsAtNode g e v
  ends_at p is seat at v row of =
      record {
        ending = p;
        is = is;
        state = at.before ∙ ap Some (sym (node_state p is seat at v row of));
        spot = ap (λ (q : SeatData). q.spot) at.is ∙ sym of.spot;
        reply = ap (λ (q : SeatData). q.reply) at.is ∙ sym of.reply;
      }

  module _ (nodes : List NodeData) (seats : List SeatData) (rows : List (List ℕ)) (are : AreNodesOf g nodes seats rows) (p : Ending) (is : IsEnding g e p) where
    leads_to : (y : Assignment) → is_output g y ≡ true → (m : ℕ) → LeadsTo g e seats p y m → played_specs.LeadsTo g e nodes p.before p.memory p.input y m
    leads_to y output m to =
        let moves = to.moves in
        let at = node_at g nodes seats rows are m to.seat to.there in
        let state = node_state (moved g e p y to.seat moves) (moved_ends g e p is y output to.seat moves) to.seat (record { state = reached g p.before p.input y; before = refl; is = moves.is }) at.node at.row at.of_seat in
        record {
          next = moves.next;
          noted = moves.noted;
          rank = moves.rank;
          reply = moves.reply;
          given = moves.given;
          node = at.node;
          there = at.there;
          is = node_of at.node (reached g p.before p.input y) moves.next moves.rank moves.reply state (at.of_seat.spot ∙ ap (λ (q : SeatData). q.spot) (sym moves.is)) (at.of_seat.reply ∙ ap (λ (q : SeatData). q.reply) (sym moves.is));
        }

    lead_each : (ys : List Assignment) (row : List ℕ) → Every (λ y. (is_output g y ≡ true) × (legal_output g p.before p.input y ≡ true)) ys → LeadEach g e seats p ys row → played_specs.LeadEach g e nodes p.before p.memory p.input ys row
    lead_each [] [] every all = tt
    lead_each [] (m ∷ ms) every all = absurd all
    lead_each (y ∷ ys) [] every all = absurd all
    lead_each (y ∷ ys) (m ∷ ms) every all = (leads_to y every.0.0 m all.0, lead_each ys ms every.1 all.1)

    pub row_of : (row : List ℕ) → IsRowOf g e seats p (outputs_of g) row → played_specs.IsRow g e nodes p.before p.memory p.input row
    row_of row all = lead_each (filter (legal_output g p.before p.input) (outputs_of g)) row (row_outputs g p.before p.input) all

  -- a node of a seat from which its row was walked
  pub is_played : (nodes : List NodeData) (seats : List SeatData) (rows : List (List ℕ)) → AreNodesOf g nodes seats rows → (v : NodeData) (seat : SeatData) (row : List ℕ) → IsNodeOfSeat g v seat row → IsWalked g e seats seat row → played_specs.IsPlayed g e nodes v
  unfolding ends_at
  is_played nodes seats rows are v seat row of walked =
      let p = walked.ending in
      let ends = ends_at p walked.ends seat walked.at v row of in
      let there = row_of nodes seats rows are p walked.ends row walked.leads in
      record {
        run = p.run;
        notes = p.notes;
        memory = p.memory;
        play = subst (λ (b : Before). AnsweredPlay g e p.run p.notes b p.memory) ends.state walked.ends.play;
        rank = p.rank;
        given = subst (λ (x : Assignment). IsGiven g e (Some v.state) p.memory p.rank x) ends.reply (subst (λ (b : Before). IsGiven g e b p.memory p.rank p.input) ends.state walked.ends.given);
        is = node_of v v.state p.memory p.rank v.reply refl (sym ends.spot) refl;
        row = subst (λ (ns : List ℕ). played_specs.IsRow g e nodes (Some v.state) p.memory v.reply ns) (sym of.next)
            (subst (λ (x : Assignment). played_specs.IsRow g e nodes (Some v.state) p.memory x row) ends.reply (subst (λ (b : Before). played_specs.IsRow g e nodes b p.memory p.input row) ends.state there));
      }
