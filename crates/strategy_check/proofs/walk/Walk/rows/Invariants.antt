use Rattle.std.proofs.Common.{◌≡◌, ◌≤◌, ◌-◌, ℕ, Vec, map, length}
use Rattle.std.specs.declared.alloc.Global.{Global}
use Rattle.spec_model.specs.declared.value.Value.{Value}
use Rattle.spec_model.specs.Games.{GameData, inputs_of}
use Rattle.spec_model.specs.Sets.{StateSet}
use Rattle.gr1_law.specs.Layers.{LayerSets}
use Rattle.controller.specs.Objects.{HoldsTheSame}
use Rattle.strategy_check.specs.Seats.{seats_of}
use Rattle.strategy_check.specs.Walks.{IsWalk}
use Rattle.strategy_check.proofs.Rowing.{AreWalked}
use Rattle.strategy_check.proofs.walk.Walk.rows.Given as goal

-- the first seats have their rows
abbrev pub invariant-loop-self : goal.invariant-loop-self
invariant-loop-self g l =
    let kept = g.G.Regions.kept in
    record {
      walks : (d : GameData) (z : StateSet) (s : LayerSets) → IsWalk kept l.fn.play l.fn.self d z s → IsWalk kept l.play l.self d z s;
      walked : (d : GameData) (z : StateSet) (s : LayerSets) → IsWalk kept l.fn.play l.fn.self d z s → map (λ (x : Vec Value Global). x.items) l.fn.inputs ≡ inputs_of d →
          AreWalked d s (seats_of l.fn.self.seats) (seats_of l.self.seats) (map (λ (row : Vec ℕ Global). row.items) l.rows.items);
      few : length (seats_of l.self.seats) ≤ 1024;
      keeps : HoldsTheSame kept l.fn.play l.play;
    }

abbrev pub decreases-loop-self : goal.decreases-loop-self
decreases-loop-self g l = 1024 - length l.rows.items
