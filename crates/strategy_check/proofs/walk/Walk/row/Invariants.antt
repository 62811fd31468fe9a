use Rattle.std.proofs.Common.{◌≡◌, ◌<◌, ℕ, Vec, map, take, length, Some}
use Rattle.std.specs.declared.alloc.Global.{Global}
use Rattle.spec_model.specs.declared.value.Value.{Value}
use Rattle.spec_model.specs.Rules.{Run}
use Rattle.spec_model.specs.Games.{GameData}
use Rattle.spec_model.specs.Steps.{Before}
use Rattle.spec_model.specs.Sets.{StateSet}
use Rattle.gr1_law.specs.Layers.{LayerSets}
use Rattle.gr1_law.specs.Choice.{Memory}
use Rattle.controller.specs.Objects.{HoldsTheSame}
use Rattle.strategy_check.specs.Seats.{seats_of}
use Rattle.strategy_check.specs.Walks.{IsFrom, IsWalk}
use Rattle.strategy_check.specs.Nodes.{seat_numbered, AddsRow}
use Rattle.strategy_check.proofs.walk.Walk.row.Given as goal

-- the row of the inputs so far
abbrev pub invariant-loop-input : goal.invariant-loop-input
invariant-loop-input g l =
    let kept = g.G.Regions.kept in
    record {
      walks : (d : GameData) (z : StateSet) (s : LayerSets) → IsWalk kept l.fn.play l.fn.self d z s → IsWalk kept l.play l.self d z s;
      adds : (d : GameData) (z : StateSet) (s : LayerSets) → IsWalk kept l.fn.play l.fn.self d z s → (h : Run) (b : Before) (m : Memory) → IsFrom d s (seat_numbered (seats_of l.fn.self.seats) l.fn.from) h b m →
          AddsRow d s (seats_of l.fn.self.seats) (seats_of l.self.seats) b m (map (λ (x : Vec Value Global). x.items) (take l.input-index l.fn.inputs)) l.row.items;
      inner : (n : ℕ) → l.fn.from ≡ Some n → n < length (seats_of l.self.seats);
      keeps : HoldsTheSame kept l.fn.play l.play;
    }
