-- Which run an audit stands for.
use Rattle.std.specs.Prelude.{◌≡◌, ℕ, ◌+◌, ◌*◌, ◌<◌, ◌≤◌, vec_capacity, true, false, not, List, ◌++◌, length, Option, Some, None, IsTrue}
use Rattle.spec_model.specs.declared.value.Value.{Value}
use Rattle.spec_model.specs.GameViews.{game_data}
use Rattle.spec_model.specs.Rules.{Position, Run}
use Rattle.spec_model.specs.Moves.{is_env, domains_of}
use Rattle.spec_model.specs.Games.{GameData, first_hidden}
use Rattle.spec_model.specs.GameRules.{last_state}
use Rattle.spec_model.specs.Steps.{Before, is_state, is_input, is_output}
use Rattle.spec_model.specs.WellMade.{WellMade}
use Rattle.game_play.specs.Judged.{IsJudgeOf, IsOutputJudgeOf}
use Rattle.game_play.specs.Sights.{as_values, IsReadAt}
use Rattle.trace_planes.specs.declared.run_state.RunState.{RunState}
use Rattle.trace_planes.specs.declared.judge.Judge.{Judge}
use Rattle.trace_planes.specs.declared.plain.Plain.{Plain}
use Rattle.trace_planes.specs.declared.workspace.Workspace.{Workspace}
use Rattle.trace_planes.specs.declared.audit.Audit.{Audit}
use Rattle.trace_planes.specs.declared.finding.Finding.{Finding}
use Rattle.trace_planes.specs.GameFindings.{first_finding}
use Rattle.trace_planes.specs.Rows.{AreWhole, AreRows}

-- ---- where a run is

-- it is before the first position, or at a state of the game
abbrev pub IsReadAfter : GameData → Before → RunState → Type 0
IsReadAfter g None p = (p.started ≡ false) × (p.next.items ≡ as_values (first_hidden g))
IsReadAfter g (Some s) p = (p.started ≡ true) × IsTrue (is_state g s) × IsReadAt g s p.state.items p.cells.items p.next.items

-- it has room for a state of the game
pub record IsSized (g : GameData) (p : RunState) : Type 0 where
  pub state : length p.state.items ≡ length g.hidden + (length (domains_of is_env g.variables) + length (domains_of (λ o. not (is_env o)) g.variables))
  pub cells : length p.cells.items ≡ length g.hidden
  pub next : length p.next.items ≡ length g.hidden

-- the places have the same values
pub record IsCopy (p q : RunState) : Type 0 where
  pub started : q.started ≡ p.started
  pub state : q.state.items ≡ p.state.items
  pub cells : q.cells.items ≡ p.cells.items
  pub next : q.next.items ≡ p.next.items

-- The place is after this state.
pub record IsAt (g : GameData) (b : Before) (p : RunState) : Type 0 where
  pub read : IsReadAfter g b p
  pub sized : IsSized g p

-- it judges the moves of the game after this state
pub record JudgesAfter (j : Judge) (g : GameData) (b : Before) : Type 0 where
  pub game : game_data j.game ≡ g
  pub made : WellMade g
  pub inputs : IsJudgeOf g j.inputs
  pub outputs : IsOutputJudgeOf g j.outputs
  pub place : IsAt g b j.place

-- ---- the positions of an audit

-- the values are those of the position: its inputs, and then its outputs
pub record IsPosition (g : GameData) (p : Position) (values : List Value) : Type 0 where
  pub input : IsTrue (is_input g p.input)
  pub output : IsTrue (is_output g p.output)
  pub listed : values ≡ p.input ++ p.output

-- ---- the plain audit

-- what is found on the run, and while it is nothing a judge after its last state
pub record IsJudged (j : Judge) (first : Option Finding) (g : GameData) (h : Run) : Type 0 where
  pub game : game_data j.game ≡ g
  pub found : first ≡ first_finding g h
  pub judges : first_finding g h ≡ None → JudgesAfter j g (last_state g h)

-- The plain audit of a game has judged this run.
pub record HasJudged (a : Plain) (g : GameData) (h : Run) : Type 0 where
  pub made : WellMade g
  pub whole : AreWhole g h
  pub counted : a.pushed ≡ length h
  pub game : game_data a.judge.game ≡ g
  pub found : a.found ≡ first_finding g h
  pub judges : first_finding g h ≡ None → JudgesAfter a.judge g (last_state g h)

-- something holds of each run that it has judged
abbrev pub OfEachJudged : Plain → (GameData → Run → Type 0) → Type 0
OfEachJudged a P = (g : GameData) (h : Run) → HasJudged a g h → P g h

-- ---- the audit

abbrev pub game_of : Audit → GameData
game_of a = game_data a.plain.judge.game

-- how many positions can be pushed before the next check
abbrev pub room_of : Audit → ℕ
room_of a = a.room

-- there is room for what a check writes
pub record IsWorkspaceOf (g : GameData) (w : Workspace) : Type 0 where
  pub columns : length w.columns.items ≡ 4096 * length g.variables
  pub cells : length w.cells.items ≡ 4096 * length g.hidden
  pub ahead : IsSized g w.ahead
  pub clear : length w.clear.items ≡ 64

-- the memory that a check needs was taken
pub record HasRoom (a : Audit) (g : GameData) : Type 0 where
  pub rows : 4096 * a.width ≤ vec_capacity a.rows
  pub work : IsWorkspaceOf g a.work

-- the run is parted into the positions that were checked, none of which breaks a line, and those that wait
pub record IsCheckedUpTo (g : GameData) (h : Run) (room : ℕ) : Type 0 where
  pub checked : Run
  pub waiting : Run
  pub parts : h ≡ checked ++ waiting
  pub legal : first_finding g checked ≡ None
  pub counted : length waiting + room ≡ 4096

-- The audit of a game stands for this run: these positions were pushed.
pub record Stands (a : Audit) (g : GameData) (h : Run) : Type 0 where
  pub checked : IsCheckedUpTo g h a.room
  pub judged : HasJudged a.plain g checked.checked
  pub rows : AreRows g a.width checked.waiting a.rows.items
  pub counted : a.pushed ≡ length h
  pub few : length h < 18446744073709551616
  pub room : HasRoom a g

-- something holds of each run that it stands for
abbrev pub OfEachRun : Audit → (GameData → Run → Type 0) → Type 0
OfEachRun a P = (g : GameData) (h : Run) → Stands a g h → P g h
