-- What a report on a specification's orders says.
use Rattle.std.specs.Prelude.{◌≡◌, ◌<◌, ℕ, Option, Some, None}
use Rattle.std.specs.List.Sorted.{IsPermutation}
use Rattle.spec_model.specs.Games.{GameData}
use Rattle.spec_model.specs.Syntax.{Specification}
use Rattle.hidden_game.specs.GameOf.{game_of}
use Rattle.spec_order.specs.declared.report.Better.{Better}
use Rattle.spec_order.specs.declared.report.OrderReport.{OrderReport}
use Rattle.spec_order.specs.Orders.{declared, HasNodesUnder, IsUnbettered, IsClimbTo}

-- Climbing from the declared order, which has n nodes, ends at this one: each variable once, with fewer nodes, and no single
-- move makes still fewer.
pub record IsBetter (g : GameData) (n : ℕ) (b : Better) : Type 0 where
  pub order : IsPermutation (declared g) b.order.items
  pub nodes : HasNodesUnder g b.order.items b.nodes
  pub fewer : b.nodes < n
  pub climb : IsClimbTo g n b.order.items b.nodes
  pub best : IsUnbettered g b.order.items b.nodes

-- climbing ends at the declared order itself: no single move makes fewer nodes
pub record IsBestDeclared (g : GameData) (n : ℕ) : Type 0 where
  pub climb : IsClimbTo g n (declared g) n
  pub best : IsUnbettered g (declared g) n

abbrev pub IsOutcome : GameData → ℕ → Option Better → Type 0
IsOutcome g n None = IsBestDeclared g n
IsOutcome g n (Some b) = IsBetter g n b

-- the nodes under the declared order, and where climbing from it ends
pub record IsReportOn (g : GameData) (report : OrderReport) : Type 0 where
  pub nodes : HasNodesUnder g (declared g) report.nodes
  pub better : IsOutcome g report.nodes report.better

-- a report on the game of a specification
abbrev pub IsReport : Specification → OrderReport → Type 0
IsReport s report = IsReportOn (game_of s) report

-- ---- one report

abbrev pub IsSameOutcome : Option Better → Option Better → Type 0
IsSameOutcome None None = Unit {0}
IsSameOutcome (Some a) (Some b) = (a.nodes ≡ b.nodes) × (a.order.items ≡ b.order.items)
IsSameOutcome _ _ = ⊥

-- two reports tell the same
pub record IsSameReport (a b : OrderReport) : Type 0 where
  pub nodes : a.nodes ≡ b.nodes
  pub better : IsSameOutcome a.better b.better
