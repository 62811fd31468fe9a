use Rattle.std.proofs.Common.{◌≡◌, ◌≤◌, ◌-◌, ℕ, Vec, map, length}
use Rattle.std.specs.declared.alloc.Global.{Global}
use Rattle.spec_model.specs.declared.value.Value.{Value}
use Rattle.spec_model.specs.Games.{GameData, outputs_of}
use Rattle.gr1_law.specs.EnvLayers.{EnvLayerSets}
use Rattle.counterstrategy.specs.Objects.{HoldsTheSame}
use Rattle.counter_tables.specs.Seats.{seats_of}
use Rattle.counter_tables.specs.Walks.{IsWalk}
use Rattle.counter_tables.proofs.Rowing.{AreWalked}
use Rattle.counter_tables.proofs.walk.Walk.rows.Given as goal

-- the first seats have their rows
abbrev pub invariant-loop-rows : goal.invariant-loop-rows
invariant-loop-rows g l =
    let kept = g.G.Regions.kept in
    record {
      walks : (d : GameData) (e : EnvLayerSets) → IsWalk kept l.fn.play l.fn.self d e → IsWalk kept l.play l.self d e;
      walked : (d : GameData) (e : EnvLayerSets) → IsWalk kept l.fn.play l.fn.self d e → map (λ (y : Vec Value Global). y.items) l.fn.outputs ≡ outputs_of d →
          AreWalked d e (seats_of l.fn.self.seats) (seats_of l.self.seats) (map (λ (row : Vec ℕ Global). row.items) l.rows.items);
      few : length (seats_of l.self.seats) ≤ 1024;
      keeps : HoldsTheSame kept l.fn.play l.play;
    }

abbrev pub decreases-loop-rows : goal.decreases-loop-rows
decreases-loop-rows g l = 1024 - length l.rows.items
