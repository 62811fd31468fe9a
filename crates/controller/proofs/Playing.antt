-- A turn after each play that is stood for.
use Rattle.std.proofs.Common.{◌≡◌, ℕ, ◌<◌, ◌≤◌, true, List, slice_index, Some, None, sym, subst, arith}
use Rattle.spec_model.specs.Values.{Assignment}
use Rattle.spec_model.specs.Rules.{Run, after}
use Rattle.spec_model.specs.Games.{GameData}
use Rattle.spec_model.specs.Steps.{Before, IsClosed, is_input, is_output, is_state, legal_input, reached}
use Rattle.spec_model.specs.Sets.{StateSet, system_forces}
use Rattle.spec_model.specs.WellMade.{WellMade}
use Rattle.gr1_law.specs.Layers.{LayerSets, IsWinning, AreGreatestRanks}
use Rattle.gr1_law.specs.Choice.{Memory, IsChosen, ChosenPlay, can_lead}
use Rattle.gr1_law.proofs.Standing.{rank_some}
use Rattle.gr1_law.proofs.Choosing.{choice_exists, chosen_output, last_leads}
use Rattle.gr1_law.proofs.Trails.{Played, played}
use Rattle.strategy_parts.specs.Positions.{IsWholeBefore}
use Rattle.controller.specs.Turns.{IsTurn}

closed_at : (g : GameData) → IsClosed g → (b : Before) → IsWholeBefore g b → (x y : Assignment) → is_input g x ≡ true → is_output g y ≡ true → is_state g (reached g b x y) ≡ true
closed_at g closed None whole x y input output = closed.first x y input output
closed_at g closed (Some s) whole x y input output = closed.later s x y whole input output

-- a turn is made, whose rank the goal's layers have
pub record TakesTurn (g : GameData) (l : LayerSets) (ranks : List ℕ) (b : Before) (m : Memory) (x : Assignment) : Type 0 where
  pub output : Assignment
  pub next : Memory
  pub turn : IsTurn g l b m x output next
  pub high : next.rank ≤ slice_index ranks next.goal

module _ (g : GameData) (closed : IsClosed g) (made : WellMade g) (z : StateSet) (l : LayerSets) (ranks : List ℕ) (won : IsWinning g z l) (greatest : AreGreatestRanks g l ranks) (start : system_forces g z None ≡ true)
    (h : Run) (b : Before) (m : Memory) (play : ChosenPlay g l h b m) (whole : IsWholeBefore g b) (x : Assignment) (input : is_input g x ≡ true) (legal : legal_input g b x ≡ true) where
  at_end : Played g z l h b m
  at_end = played g z l won ranks greatest h b m start play

  choice : (y : Assignment) × (m' : Memory) × IsChosen g l b m x y m'
  choice = choice_exists g z l won ranks greatest b m x at_end.ready input legal

  then_end : Played g z l (after h x choice.0) (Some (reached g b x choice.0)) choice.1
  then_end = played g z l won ranks greatest (after h x choice.0) (Some (reached g b x choice.0)) choice.1 start (ChosenPlay.more h b m x choice.0 choice.1 play input legal choice.2)

  output : is_output g choice.0 ≡ true
  output = chosen_output g z l won ranks greatest b m x choice.0 choice.1 at_end.ready choice.2

  leads : can_lead g (l.y choice.1.goal (slice_index ranks choice.1.goal)) b x ≡ true
  leads = subst (λ j. can_lead g (l.y j (slice_index ranks j)) b x ≡ true) (sym choice.2.goal) (last_leads g z l won ranks greatest b m x at_end.ready input legal)

  at_most : (n r : ℕ) → (n < r → ⊥) → r ≤ n
  at_most n r not_below = grind (arith, not_below)

  pub takes_turn : TakesTurn g l ranks b m x
  takes_turn =
      record {
        output = choice.0;
        next = choice.1;
        turn = record {
          chosen = choice.2;
          before = whole;
          input = input;
          legal = legal;
          output = output;
          state = closed_at g closed b whole x choice.0 input output;
          goal_in = then_end.ready.goal_in;
          index_in = then_end.ready.index_in;
          rank_some = rank_some g z l won choice.1.goal choice.1.rank (reached g b x choice.0) then_end.ready.rank.here;
        };
        high = at_most (slice_index ranks choice.1.goal) choice.1.rank (λ below. choice.2.rank.none_before (slice_index ranks choice.1.goal) below leads);
      }
