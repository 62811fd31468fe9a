use Rattle.std.proofs.Common.{◌≡◌, ◌<◌, ℕ, Vec, map, take, length, Some}
use Rattle.std.specs.declared.alloc.Global.{Global}
use Rattle.spec_model.specs.declared.value.Value.{Value}
use Rattle.spec_model.specs.Games.{GameData}
use Rattle.gr1_law.specs.EnvLayers.{EnvLayerSets}
use Rattle.counterstrategy.specs.Objects.{HoldsTheSame}
use Rattle.counter_tables.specs.Seats.{seats_of}
use Rattle.counter_tables.specs.Walks.{Ending, IsFrom, IsWalk}
use Rattle.counter_tables.specs.Nodes.{seat_numbered, AddsRow}
use Rattle.counter_tables.proofs.walk.Walk.row.Given as goal

-- the row of the outputs so far
abbrev pub invariant-loop-output : goal.invariant-loop-output
invariant-loop-output g l =
    let kept = g.G.Regions.kept in
    record {
      walks : (d : GameData) (e : EnvLayerSets) → IsWalk kept l.fn.play l.fn.self d e → IsWalk kept l.play l.self d e;
      adds : (d : GameData) (e : EnvLayerSets) → IsWalk kept l.fn.play l.fn.self d e → (p : Ending) → IsFrom d e (seat_numbered (seats_of l.fn.self.seats) l.fn.from) p →
          AddsRow d e (seats_of l.fn.self.seats) (seats_of l.self.seats) p (map (λ (y : Vec Value Global). y.items) (take l.output-index l.fn.outputs)) l.row.items;
      inner : (n : ℕ) → l.fn.from ≡ Some n → n < length (seats_of l.self.seats);
      keeps : HoldsTheSame kept l.fn.play l.play;
    }
